-- `float::FloatContext::cleared_threshold` meets its contract: the check decides.
use Rattle.std.proofs.Common.{refl}
use Rattle.float.specs.Clear.{cleared}
use Rattle.float.specs.Page.{page_of}
use Rattle.float.specs.Slot.{cleared_threshold}
use Rattle.float.proofs.Judged.{read, coded, no_code}
use Rattle.float.proofs.FloatContext.cleared_threshold.Goals as goal

pub returns-in_err-clear : goal.returns-in_err-clear
unfolding cleared_threshold
returns-in_err-clear c = no_code _ _ _ _ c.try_from.ensures c.in_err-clear.was _ c.from_residual.ensures.1

pub returns : goal.returns
unfolding page_of cleared_threshold
returns c = coded (read _ c.try_from.ensures c.in_ok-clear.was) (cleared (page_of c.args.self.now)) (c.cleared.ensures (page_of c.args.self.now) refl refl)
