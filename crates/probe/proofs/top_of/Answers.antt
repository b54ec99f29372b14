-- `top_of` meets its contract: within the array the default does not matter, past it the default is what is given.
use Rattle.std.proofs.Common.{◌≡◌, ℕ, zero, suc, ◌<◌, List, [], ◌∷◌, length, get_or, refl, ap, sym, arith}
use lib.ListN.{get_or-eq_default}
use lib.Ieee.{of_bits}
use native.Mathlib.Nat.{not-suc-le-zero, le_of_suc-le-suc}
use Rattle.float.specs.declared.PlacedFloatedBox.{PlacedFloatedBox}
use Rattle.float.specs.Page.{no_box}
use Rattle.float.proofs.Front.{boxes_64}
use Rattle.f32_laws.specs.Numbers.{zero+}
use Rattle.probe.specs.Kept.{box_at}
use Rattle.probe.proofs.top_of.Goals as goal

-- within the list
within : (l : List PlacedFloatedBox) (n : ℕ) (d e : PlacedFloatedBox) → n < length l → get_or l n d ≡ get_or l n e
within [] n d e h = absurd (not-suc-le-zero h)
within (x ∷ xs) zero d e h = refl
within (x ∷ xs) (suc n) d e h = within xs n d e (le_of_suc-le-suc h)

pub returns-then-which-lt64 : goal.returns-then-which-lt64
unfolding box_at
returns-then-which-lt64 c = let l = boxes_64 c.args.page _ c.well_formed.0 in ap (λ b. b.y) (within c.args.page.boxes c.args.which _ _ (omega arith))

pub returns : goal.returns
unfolding box_at zero+ of_bits
returns c = let l = boxes_64 c.args.page _ c.well_formed.0 in sym (ap (λ b. b.y) (get_or-eq_default c.args.page.boxes no_box (omega arith)))
