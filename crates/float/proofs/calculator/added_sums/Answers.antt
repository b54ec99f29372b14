-- `float::calculator::added_sums` meets its contract: the side decides which sum grows.
use Rattle.float.specs.Calculator.{added_sums}
use Rattle.float.proofs.calculator.added_sums.Goals as goal

pub returns-in-Left : goal.returns-in-Left
unfolding added_sums
returns-in-Left c = simp (c.in-Left.is, c.summed.ensures, c.zeroed-right.ensures, c.zeroed-left.ensures)

pub returns-in-Right : goal.returns-in-Right
unfolding added_sums
returns-in-Right c = simp (c.in-Right.is, c.summed-in-Right.ensures, c.zeroed-right.ensures, c.zeroed-left.ensures)
