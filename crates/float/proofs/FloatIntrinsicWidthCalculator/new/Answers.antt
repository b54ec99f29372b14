-- `float::FloatIntrinsicWidthCalculator::new` meets its contract: what is available decides, then the check of its number.
use Rattle.float.proofs.Totals.{new_without, new_passed, new_refused}
use Rattle.float.proofs.FloatIntrinsicWidthCalculator.new.Goals as goal

pub returns-in_default : goal.returns-in_default
returns-in_default c = rw c.started.ensures (new_without _ c.in_default.not-Definite)

pub returns-in_err-check_size : goal.returns-in_err-check_size
returns-in_err-check_size c = new_refused c.in-Definite.is c.plus_zero-width.ensures c.check_size.ensures c.in_err-check_size.was _ c.from_residual.ensures.1

pub returns : goal.returns
returns c = rw c.started-2.ensures (new_passed c.in-Definite.is c.plus_zero-width.ensures c.check_size.ensures c.in_ok-check_size.was)
