-- `float::refuse::check_content` meets its contract: its three numbers, one after the other.
use Rattle.float.proofs.Judged.{one, more, read, no_code, passed, refused}
use Rattle.float.proofs.refuse.check_content.Goals as goal

pub returns-in_err-clear : goal.returns-in_err-clear
returns-in_err-clear c = no_code _ _ _ _ c.try_from.ensures c.in_err-clear.was _ c.from_residual.ensures.1

pub returns-in_err-verdict : goal.returns-in_err-verdict
returns-in_err-verdict c =
    refused _ (read _ c.try_from.ensures c.in_ok-clear.was)
    (more c.finite.ensures c.offset_allowed.ensures
    (more c.finite-2.ensures c.size_allowed.ensures
    (one c.finite-3.ensures c.size_allowed-2.ensures)))
    c.verdict.ensures c.in_err-verdict.was _ c.from_residual-in_err-verdict.ensures.1

pub returns : goal.returns
returns c =
    passed _ (read _ c.try_from.ensures c.in_ok-clear.was)
    (more c.finite.ensures c.offset_allowed.ensures
    (more c.finite-2.ensures c.size_allowed.ensures
    (one c.finite-3.ensures c.size_allowed-2.ensures)))
    c.verdict.ensures c.in_ok-verdict.was
