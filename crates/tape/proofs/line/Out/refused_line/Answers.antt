-- `tape::line::Out::refused_line` meets its contract: the letter R and the number of the refusal.
use Prim.Native.Nat.{ℕ}
use mathlib.Core.Path.{sym}
use mathlib.Core.List.{[], ◌∷◌}
use Rattle.tape.specs.Bytes.{decimal, row}
use Rattle.tape.specs.Lines.{refused_line}
use Rattle.tape.proofs.Putting.{of_answer}
use Rattle.tape.proofs.line.Out.refused_line.Goals as goal

pub returns : goal.returns
unfolding refused_line
returns c = of_answer (λ (k : ℕ). row 82 (decimal k ∷ [])) (sym c.number_of.ensures) c.number_line.ensures
