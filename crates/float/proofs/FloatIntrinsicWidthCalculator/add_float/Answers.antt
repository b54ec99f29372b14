-- `float::FloatIntrinsicWidthCalculator::add_float` meets its contract: the check decides.
use Rattle.float.proofs.Totals.{add_passed, add_refused}
use Rattle.float.proofs.FloatIntrinsicWidthCalculator.add_float.Goals as goal

pub returns-in-Ok : goal.returns-in-Ok
returns-in-Ok c = add_passed _ _ _ _ c.plus_zero-width.ensures c.check_add.ensures c.in-Ok.is c.added.ensures

pub returns-in-Err : goal.returns-in-Err
returns-in-Err c = add_refused _ _ _ _ c.plus_zero-width.ensures c.check_add.ensures c.in-Err.is
