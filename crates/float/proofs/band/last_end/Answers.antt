-- `float::band::last_end` meets its contract: with no band a quotient by zero gives minus infinity.
use Rattle.std.proofs.Common.{◌≡◌, ℕ, true, List, take, sym, ap, ◌∙◌, arith}
use lib.Ieee.{binary32, inf, neg, div, of_bits}
use Rattle.float.specs.declared.Segment.{Segment}
use Rattle.float.specs.Bands.{last_end}
use Rattle.float.proofs.Make.{last_end_at}
use Rattle.float.proofs.band.last_end.Goals as goal

-- the quotient's bits, computed
empty : (bs : List Segment) (n : ℕ) → n ≡ 0 → div binary32 (neg (of_bits binary32 1065353216)) (of_bits binary32 0) ≡ last_end (inf true) (take n bs)
unfolding last_end div neg of_bits
empty bs n e = sym (ap (λ (k : ℕ). last_end (inf true) (take k bs)) e)

pub returns-then-n-eq0 : goal.returns-then-n-eq0
returns-then-n-eq0 c = λ l h e. empty l _ c.if-n-eq0.true

pub returns : goal.returns
returns c = λ l h e. ap (λ (b : Segment). b.end) e ∙ last_end_at l c.args.n _ h (omega arith)
