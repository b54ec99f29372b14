-- `tape::line::Out::band` meets its contract: a missing band is a dash.
use Rattle.std.proofs.Common.{ℕ, Option, arith}
use mathlib.Core.List.{◌∷◌}
use Rattle.tape.specs.Lines.{band}
use Rattle.tape.proofs.Putting.{and_then, of_field}
use Rattle.tape.proofs.line.Out.band.Goals as goal

pub returns-in-None : goal.returns-in-None
unfolding band
returns-in-None c =
    let p = c.put.ensures.put.next in
    let q = c.put-in-None.ensures.put.next in
    (omega arith, of_field (λ (x : Option ℕ). 32 ∷ band x) c.in-None.is (and_then c.put.ensures c.put-in-None.ensures))

pub returns-in-Some : goal.returns-in-Some
unfolding band
returns-in-Some c = (c.number.ensures.0, of_field (λ (x : Option ℕ). 32 ∷ band x) c.in-Some.is c.number.ensures.1)
