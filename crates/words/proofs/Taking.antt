-- How many words a line takes: the first word by its test, each next one by the definition's.
use Prim.Native.Nat.{ℕ, suc, ◌+◌, ◌-◌, ◌<◌, ◌≤◌}
use mathlib.Core.Path.{◌≡◌, refl, sym, ap, ◌∙◌}
use mathlib.Core.Bool.{Bool, true, false}
use mathlib.Core.List.{List, [], ◌∷◌, map}
use native.Mathlib.Omega.{arith}
use lib.Ieee.{Float, nan, binary32, add, le}
use lib.ListN.{length, take, drop, get_or}
use Rattle.float.specs.Numbers.{plus_zero}
use Rattle.words.specs.declared.beside.Span.{Span}
use Rattle.words.specs.Lines.{first_fits, more}
use Rattle.words.specs.Laid.{taken}
use Rattle.words.proofs.Judging.{rest_here, part_is}

pub take_none : (e : Span) (room gap : Float) (ws : List Float) → length ws < 1 → 0 ≡ taken e room gap (map plus_zero ws)
unfolding taken
take_none e room gap [] h = refl
take_none e room gap (w ∷ ws) h = absurd (omega (arith, h))

-- the first word, and those after it as the machine has them
module _ (e : Span) (room gap : Float) (ws : List Float) {v : Float} {b : Bool} (h : 1 ≤ length ws) (p : v ≡ plus_zero (get_or ws 0 nan)) (q : b ≡ first_fits e room v) where
  others : List Float
  others = take (length ws - 1) (drop 1 ws)

  parts : map plus_zero ws ≡ v ∷ map plus_zero others
  unfolding others
  parts = ap (map plus_zero) (rest_here ws 0 nan h) ∙ rw (sym p, part_is 1 ws) refl

  pub take_not : b ≡ false → 0 ≡ taken e room gap (map plus_zero ws)
  unfolding taken
  take_not r = sym (ap (taken e room gap) parts ∙ rw (sym q ∙ r) refl)

  pub take_first : b ≡ true → taken e room gap (map plus_zero ws) ≡ suc (more room gap v (map plus_zero (take (length ws - 1) (drop 1 ws))))
  unfolding taken others
  take_first r = ap (taken e room gap) parts ∙ rw (sym q ∙ r) refl

-- the words from i on: the first of them is taken, or none
module _ (ws : List Float) (i : ℕ) (h : i < length ws) (room gap sum : Float) {v : Float} (p : v ≡ plus_zero (get_or ws i nan)) where
  here : map plus_zero (drop i ws) ≡ v ∷ map plus_zero (drop (i + 1) ws)
  here = ap (map plus_zero) (rest_here ws i nan h) ∙ ap (λ x. x ∷ map plus_zero (drop (i + 1) ws)) (sym p)

  pub more_yes : le (add binary32 (add binary32 sum gap) v) room ≡ true → more room gap sum (map plus_zero (drop i ws)) ≡ suc (more room gap (add binary32 (add binary32 sum gap) v) (map plus_zero (drop (i + 1) ws)))
  unfolding more
  more_yes t = ap (more room gap sum) here ∙ rw (t, more) refl

  pub more_no : le (add binary32 (add binary32 sum gap) v) room ≡ false → more room gap sum (map plus_zero (drop i ws)) ≡ 0
  unfolding more
  more_no t = ap (more room gap sum) here ∙ rw (t, more) refl
