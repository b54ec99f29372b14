-- `float::FloatIntrinsicWidthCalculator::result` meets its contract: what is available decides.
use Rattle.float.specs.Calculator.{result_at}
use Rattle.float.proofs.FloatIntrinsicWidthCalculator.result.Goals as goal

pub returns-in-MinContent : goal.returns-in-MinContent
unfolding result_at
returns-in-MinContent c = simp c.in-MinContent.is

pub returns-in-MaxContent : goal.returns-in-MaxContent
unfolding result_at
returns-in-MaxContent c = simp c.in-MaxContent.is

pub returns-in-Definite : goal.returns-in-Definite
unfolding result_at
returns-in-Definite c = simp (c.in-Definite.is, c.larger.ensures, c.smaller.ensures)
