-- `tape::step::result_line` meets its contract, by whether there is a calculator.
use mathlib.Core.Path.{sym}
use mathlib.Core.List.{[], ◌∷◌}
use lib.Ieee.{Float}
use Rattle.tape.specs.Bytes.{float, row}
use Rattle.tape.specs.Tape.{result_line}
use Rattle.tape.proofs.Putting.{of_answer}
use Rattle.tape.proofs.step.result_line.Goals as goal

pub returns-in-Some : goal.returns-in-Some
unfolding result_line
returns-in-Some c = of_answer result_line c.in-Some.is (of_answer (λ (w : Float). row 73 (float w ∷ [])) (sym c.result.ensures) c.width_line.ensures)

pub returns-in-None : goal.returns-in-None
unfolding result_line
returns-in-None c = of_answer result_line c.in-None.is c.refused_line.ensures
