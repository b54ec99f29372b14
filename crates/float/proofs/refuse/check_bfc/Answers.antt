-- `float::refuse::check_bfc` meets its contract: its five numbers, one after the other.
use Rattle.float.proofs.Judged.{one, more, read, both, no_first, no_second, passed, refused}
use Rattle.float.proofs.refuse.check_bfc.Goals as goal

pub returns-in_err-try_from : goal.returns-in_err-try_from
returns-in_err-try_from c = no_first _ _ _ _ c.try_from.ensures c.in_err-try_from.was _ c.from_residual.ensures.1 _

pub returns-in_err-try_from-2 : goal.returns-in_err-try_from-2
returns-in_err-try_from-2 c = no_second _ _ _ _ c.try_from-2.ensures c.in_err-try_from-2.was _ c.from_residual-in_err-try_from-2.ensures.1 _

pub returns-in_err-verdict : goal.returns-in_err-verdict
returns-in_err-verdict c =
    refused _ (both (read _ c.try_from.ensures c.in_ok-try_from.was) (read _ c.try_from-2.ensures c.in_ok-try_from-2.was))
    (more c.finite.ensures c.offset_allowed.ensures
    (more c.finite-2.ensures c.size_allowed.ensures
    (more c.finite-3.ensures c.size_allowed-2.ensures
    (more c.finite-4.ensures c.offset_allowed-2.ensures
    (one c.finite-5.ensures c.offset_allowed-3.ensures)))))
    c.verdict.ensures c.in_err-verdict.was _ c.from_residual-in_err-verdict.ensures.1

pub returns : goal.returns
returns c =
    passed _ (both (read _ c.try_from.ensures c.in_ok-try_from.was) (read _ c.try_from-2.ensures c.in_ok-try_from-2.was))
    (more c.finite.ensures c.offset_allowed.ensures
    (more c.finite-2.ensures c.size_allowed.ensures
    (more c.finite-3.ensures c.size_allowed-2.ensures
    (more c.finite-4.ensures c.offset_allowed-2.ensures
    (one c.finite-5.ensures c.offset_allowed-3.ensures)))))
    c.verdict.ensures c.in_ok-verdict.was
