-- `float::calculator::added` meets its contract: what is available decides.
use Rattle.float.specs.Calculator.{added}
use Rattle.float.proofs.calculator.added.Goals as goal

pub returns-in-MinContent : goal.returns-in-MinContent
unfolding added
returns-in-MinContent c = simp (c.in-MinContent.is, c.added_widest.ensures)

pub returns-in-MaxContent : goal.returns-in-MaxContent
unfolding added
returns-in-MaxContent c = simp (c.in-MaxContent.is, c.added_sums.ensures)

pub returns-in-Definite : goal.returns-in-Definite
unfolding added
returns-in-Definite c = simp (c.in-Definite.is, c.added_sums-in-Definite.ensures)
