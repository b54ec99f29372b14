-- Tests as Booleans: a choice by its two ways, and two tests that are the same because each passes when the other does.
use mathlib.Core.Path.{◌≡◌, refl}
use Prim.Native.Nat.{ℕ, ◌≤◌, ◌<◌}
use native.Mathlib.Nat.{not-le_of_lt}
use mathlib.Core.Bool.{Bool, true, false, not, cond}
use lib.Dec.{T, leb, ltb, eqb, leb→le, le→leb, ltb→lt, lt→ltb, nltb→le, nleb→lt, eqb→eq, not_T}
use lib.Ieee.Fits.{eq→eqb}

pub both {ℓ} : {A : Type ℓ} (P : A → Type 0) (b : Bool) {x y : A} → (T b → P x) → (T (not b) → P y) → P (cond b x y)
both P true h k = h tt
both P false h k = k tt

pub bool_same : (a b : Bool) → (T a → T b) → (T b → T a) → a ≡ b
bool_same true true h k = refl
bool_same true false h k = absurd (h tt)
bool_same false true h k = absurd (k tt)
bool_same false false h k = refl

module _ (a b c d : ℕ) where
  pub ltb_same : (a < b → c < d) → (c < d → a < b) → ltb a b ≡ ltb c d
  ltb_same h k = bool_same (ltb a b) (ltb c d) (λ t. lt→ltb c d (h (ltb→lt a b t))) (λ t. lt→ltb a b (k (ltb→lt c d t)))

  pub leb_same : (a ≤ b → c ≤ d) → (c ≤ d → a ≤ b) → leb a b ≡ leb c d
  leb_same h k = bool_same (leb a b) (leb c d) (λ t. le→leb c d (h (leb→le a b t))) (λ t. le→leb a b (k (leb→le c d t)))

  pub eqb_same : (a ≡ b → c ≡ d) → (c ≡ d → a ≡ b) → eqb a b ≡ eqb c d
  eqb_same h k = bool_same (eqb a b) (eqb c d) (λ t. eq→eqb (h (eqb→eq a b t))) (λ t. eq→eqb (k (eqb→eq c d t)))

-- a failed test of one kind is a passed one of the other
module _ (a b : ℕ) where
  pub not_leb : not (leb b a) ≡ ltb a b
  not_leb = bool_same (not (leb b a)) (ltb a b) (λ t. lt→ltb a b (nleb→lt b a t)) (λ t. not_T (leb b a) (λ u. not-le_of_lt (ltb→lt a b t) (leb→le b a u)))

  pub not_ltb : not (ltb a b) ≡ leb b a
  not_ltb = bool_same (not (ltb a b)) (leb b a) (λ t. le→leb b a (nltb→le a b t)) (λ t. not_T (ltb a b) (λ u. not-le_of_lt (ltb→lt a b u) (leb→le b a t)))
