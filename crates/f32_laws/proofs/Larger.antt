-- The larger and the smaller of two values that are no NaN: each bounds both, is one of them, and is monotone.
use mathlib.Core.Path.{◌≡◌, refl}
use mathlib.Core.Logic.{◌⊎◌, inl, inr}
use Prim.Native.Nat.{max, min}
use native.Mathlib.Omega.{arith}
use mathlib.Core.Bool.{true, false}
use lib.IntN.{pos}
use lib.Dec.{T}
use lib.Ieee.{Float, fin, Format, lt, le}
use Rattle.f32_laws.specs.Numbers.{larger, smaller, zero+}
use Rattle.f32_laws.specs.Key.{Num, key}
use Rattle.f32_laws.proofs.Tests.{both}
use Rattle.f32_laws.proofs.Keys.{le→key, key→le, lt→key, nlt→key}

-- of 1 and 2, and of the two zeros, which are equal: there the first is taken
pub larger_edges : (larger (fin false 1 (pos 0)) (fin false 1 (pos 1)) ≡ fin false 1 (pos 1)) × (larger zero+ (fin true 0 (pos 0)) ≡ zero+) × (larger (fin true 0 (pos 0)) zero+ ≡ fin true 0 (pos 0))
unfolding larger lt zero+
larger_edges = (refl, refl, refl)

pub smaller_edges : (smaller (fin false 1 (pos 0)) (fin false 1 (pos 1)) ≡ fin false 1 (pos 0)) × (smaller zero+ (fin true 0 (pos 0)) ≡ zero+) × (smaller (fin true 0 (pos 0)) zero+ ≡ fin true 0 (pos 0))
unfolding smaller lt zero+
smaller_edges = (refl, refl, refl)

-- ---- by the keys they are the maximum and the minimum
module _ {f : Format} {x y : Float} (p : Num f x) (q : Num f y) where
  pub larger_key : key f (larger x y) ≡ max (key f x) (key f y)
  unfolding larger
  larger_key = both (λ (z : Float). key f z ≡ max (key f x) (key f y)) (lt x y) (λ t. omega (arith, lt→key p q t)) (λ t. omega (arith, nlt→key p q t))

  pub smaller_key : key f (smaller x y) ≡ min (key f x) (key f y)
  unfolding smaller
  smaller_key = both (λ (z : Float). key f z ≡ min (key f x) (key f y)) (lt y x) (λ t. omega (arith, lt→key q p t)) (λ t. omega (arith, nlt→key q p t))

-- ---- each is one of the two
pub larger_one : (x y : Float) → (larger x y ≡ x) ⊎ (larger x y ≡ y)
unfolding larger
larger_one x y = both (λ (z : Float). (z ≡ x) ⊎ (z ≡ y)) (lt x y) (λ t. inr refl) (λ t. inl refl)

pub smaller_one : (x y : Float) → (smaller x y ≡ x) ⊎ (smaller x y ≡ y)
unfolding smaller
smaller_one x y = both (λ (z : Float). (z ≡ x) ⊎ (z ≡ y)) (lt y x) (λ t. inr refl) (λ t. inl refl)

-- ---- each is no NaN, and bounds both
module _ {f : Format} {x y : Float} (p : Num f x) (q : Num f y) where
  pub larger_num : Num f (larger x y)
  unfolding larger
  larger_num = both (Num f) (lt x y) (λ t. q) (λ t. p)

  pub smaller_num : Num f (smaller x y)
  unfolding smaller
  smaller_num = both (Num f) (lt y x) (λ t. q) (λ t. p)

  pub larger_left : T (le x (larger x y))
  larger_left = key→le p larger_num (omega (arith, larger_key p q))

  pub larger_right : T (le y (larger x y))
  larger_right = key→le q larger_num (omega (arith, larger_key p q))

  pub smaller_left : T (le (smaller x y) x)
  smaller_left = key→le smaller_num p (omega (arith, smaller_key p q))

  pub smaller_right : T (le (smaller x y) y)
  smaller_right = key→le smaller_num q (omega (arith, smaller_key p q))

-- ---- each is monotone in both
module _ {f : Format} {x y x' y' : Float} (p : Num f x) (q : Num f y) (p' : Num f x') (q' : Num f y') (h : T (le x x')) (k : T (le y y')) where
  pub larger_mono : T (le (larger x y) (larger x' y'))
  larger_mono = key→le (larger_num p q) (larger_num p' q') (omega (arith, larger_key p q, larger_key p' q', le→key p p' h, le→key q q' k))

  pub smaller_mono : T (le (smaller x y) (smaller x' y'))
  smaller_mono = key→le (smaller_num p q) (smaller_num p' q') (omega (arith, smaller_key p q, smaller_key p' q', le→key p p' h, le→key q q' k))
