-- The tests of the check fail exactly where a row of the table applies: finite, inside the limits, not more than 512 words, a line height.
use mathlib.Core.Path.{◌≡◌, refl, subst}
use Prim.Native.Nat.{ℕ, ◌<◌}
use mathlib.Core.Bool.{Bool, true, false, cond}
use mathlib.Core.List.{List}
use lib.Dec.{T, leb}
use lib.Ieee.{eq}
use lib.ListN.{length, length-map}
use Rattle.f32_laws.specs.Numbers.{zero+}
use Rattle.float.specs.Numbers.{plus_zero, Given, all_finite, all_allowed}
use Rattle.demands.specs.Runs.{Any}
use Rattle.demands.specs.Rows.{NotFinite, Outside}
use Rattle.demands.proofs.Tested.{Fails, not_above, finite_all, inside_all}
use Rattle.words.specs.Text.{Text, cleaned, numbers, max_words}
use Rattle.words.proofs.Ready.{plus_numbers}

pub text_finite : (t : Text) → Fails (Any NotFinite (numbers t)) (all_finite (numbers (cleaned t)))
text_finite t = subst (λ (l : List Given). Fails (Any NotFinite (numbers t)) (all_finite l)) (plus_numbers t) (finite_all (numbers t))

pub text_inside : (t : Text) → T (all_finite (numbers (cleaned t))) → Fails (Any Outside (numbers t)) (all_allowed (numbers (cleaned t)))
text_inside t = subst (λ (l : List Given). T (all_finite l) → Fails (Any Outside (numbers t)) (all_allowed l)) (plus_numbers t) (inside_all (numbers t))

pub few_words : (t : Text) → Fails (512 < length t.widths) (leb (length (cleaned t).widths) max_words)
few_words t = subst (λ (n : ℕ). Fails (512 < n) (leb (length (cleaned t).widths) max_words)) (length-map t.widths plus_zero) (not_above (length (cleaned t).widths) max_words)

-- ---- the line height
nought : eq zero+ zero+ ≡ true
unfolding eq zero+
nought = refl

pub height_read : (t : Text) → eq (cleaned t).height zero+ ≡ eq t.height zero+
unfolding plus_zero
height_read t = go (eq t.height zero+) refl
  where
    go : (b : Bool) → eq t.height zero+ ≡ b → eq (cond b zero+ t.height) zero+ ≡ b
    go true e = nought
    go false e = e
