-- `keep` meets its contract: each call says its part, on the page that the one before it left.
use Rattle.std.proofs.Common.{◌≡◌, ℕ, Float, refl, ap, ◌∙◌, Result}
use Rattle.std.specs.Prelude.{⊤}
use lib.Count.{count_trailing_zeros}
use lib.Ieee.{binary32, of_bits, of_fields, of_int, round, units, odd, size, span, climb}
use Rattle.float.specs.declared.FloatContext.{FloatContext}
use Rattle.float.specs.Page.{fresh_context}
use Rattle.float.specs.Place.{Call, place_of, width_of}
use Rattle.float.specs.declared.Widened.{Widened}
use Rattle.kept.specs.Keep.{n, box, wide, first, second, third, kept_of}
use Rattle.kept.proofs.keep.Goals as goal
use Rattle.float.specs.declared.Refusal.{Refusal}
use Rattle.float.specs.declared.Position.{Position}

-- a constant is its bits; a call of `keep` has no others
abbrev bits : ℕ → Float
bits = of_bits binary32

abbrev boxed : ℕ → ℕ → ℕ → Call
boxed side w h = record { side = side; clear = 0; width = bits w; height = bits h; min_y = bits 0; left = bits 0; right = bits 0 }

-- the bits of the program's constants are the whole numbers of the definition
320-is : bits 1134559232 ≡ n 320
unfolding of_bits of_fields of_int round units odd size span climb count_trailing_zeros
320-is = refl

first_is : boxed 0 1120403456 1112014848 ≡ box 0 (n 100) (n 50)
unfolding of_bits of_fields of_int round units odd size span climb count_trailing_zeros
first_is = refl

second_is : boxed 1 1117782016 1106247680 ≡ box 1 (n 80) (n 30)
unfolding of_bits of_fields of_int round units odd size span climb count_trailing_zeros
second_is = refl

third-is : boxed 0 1200142336 1106247680 ≡ box 0 (n 70000) (n 30)
unfolding of_bits of_fields of_int round units odd size span climb count_trailing_zeros
third-is = refl

-- what the calls say, one after the other, is the definition
whole : {pₙ p₀ p₁ p₂ p₃ : FloatContext} {a₁ a₂ a₃ : Result Position Refusal} {a₀ : Result ⊤ Refusal} → pₙ ≡ fresh_context
    → record { answer = a₀; page = p₀ } ≡ width_of pₙ (bits 1134559232)
    → record { answer = a₁; page = p₁ } ≡ place_of p₀ (boxed 0 1120403456 1112014848)
    → record { answer = a₂; page = p₂ } ≡ place_of p₁ (boxed 1 1117782016 1106247680)
    → record { answer = a₃; page = p₃ } ≡ place_of p₂ (boxed 0 1200142336 1106247680)
    → record { left = a₁; right = a₂; refused = a₃; page = p₃ } ≡ kept_of
unfolding kept_of
whole {pₙ} {p₀} {p₁} {p₂} {p₃} {a₁} {a₂} {a₃} eₙ e₀ e₁ e₂ e₃ =
    let s₀ : p₀ ≡ wide = ap (λ (r : Widened). r.page) (e₀ ∙ (λ i. width_of (eₙ i) (320-is i))) in
    let s₁ : record { answer = a₁; page = p₁ } ≡ first = e₁ ∙ (λ i. place_of (s₀ i) (first_is i)) in
    let s₂ : record { answer = a₂; page = p₂ } ≡ second = e₂ ∙ (λ i. place_of (s₁ i).page (second_is i)) in
    let s₃ : record { answer = a₃; page = p₃ } ≡ third = e₃ ∙ (λ i. place_of (s₂ i).page (third-is i)) in
    (λ i. record { left = (s₁ i).answer; right = (s₂ i).answer; refused = (s₃ i).answer; page = (s₃ i).page })

pub returns : goal.returns
returns c = whole c.new-page.ensures c.set_width_in.ensures c.place_in-left.ensures c.place_in-right.ensures c.place_in-refused.ensures
