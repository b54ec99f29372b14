-- Laws of the first band below a height: each by going down the list.
use Rattle.std.proofs.Common.{◌≡◌, ℕ, zero, suc, ◌+◌, ◌<◌, ◌≤◌, min, true, false, List, [], ◌∷◌, length, get_or, take, sym, refl, ap, ◌∙◌, suc-le-suc, zero-le, le_of_suc-le-suc, not-suc-le-zero, add-one, arith, length-take-le, get_or-take}
use native.Mathlib.Decide.{dec_le}
use native.Mathlib.Nat.{min-eq_left, min-eq_right}
use lib.Ieee.{Float, lt}
use Rattle.float.specs.declared.Segment.{Segment}
use Rattle.float.specs.Bands.{none, first_below}

module _ (y : Float) where
  pub found : (l : List Segment) (i : ℕ) → i < length l → lt y (get_or l i none).end ≡ true → first_below l i y ≡ i
  unfolding first_below
  found [] i h t = absurd (not-suc-le-zero h)
  found (b ∷ bs) zero h t = rw (t, first_below)
  found (b ∷ bs) (suc i) h t = ap suc (found bs i (le_of_suc-le-suc h) t)

  pub next : (l : List Segment) (i : ℕ) → i < length l → lt y (get_or l i none).end ≡ false → first_below l i y ≡ first_below l (suc i) y
  unfolding first_below
  next [] i h t = absurd (not-suc-le-zero h)
  next (b ∷ bs) zero h t = rw (t, first_below)
  next (b ∷ bs) (suc i) h t = ap suc (next bs i (le_of_suc-le-suc h) t)

  pub past : (l : List Segment) (i : ℕ) → length l ≤ i → first_below l i y ≡ length l
  unfolding first_below
  past [] i h = refl
  past (b ∷ bs) zero h = absurd (not-suc-le-zero h)
  past (b ∷ bs) (suc i) h = ap suc (past bs i (le_of_suc-le-suc h))

  -- the answer is a band or the number of them
  pub below_length : (l : List Segment) (i : ℕ) → first_below l i y ≤ length l
  unfolding first_below
  below_length [] i = zero-le
  below_length (b ∷ bs) zero = elim (lt y b.end) as (λ t. (elim t [ true ↦ 0 | false ↦ suc (first_below bs zero y) ]) ≤ suc (length bs)) [ true ↦ zero-le | false ↦ suc-le-suc (below_length bs zero) ]
  below_length (b ∷ bs) (suc i) = suc-le-suc (below_length bs i)

-- of two numbers the smaller is one of them
min_cases : (P : ℕ → Type 0) (c m : ℕ) → (c ≤ m → P c) → (m ≤ c → P m) → P (min c m)
min_cases P c m f g = go (dec_le c m)
  where
    go : Dec (c ≤ m) → P (min c m)
    go (yes h) = rw min-eq_left (f h)
    go (no h) = let k : m ≤ c = omega arith in rw min-eq_right (g k)

-- a first number past the last band asks for no more than the number of bands
pub clamped : (l : List Segment) (f : ℕ) (y : Float) → first_below l (min f (length l)) y ≡ first_below l f y
clamped l f y = min_cases (λ k. first_below l k y ≡ first_below l f y) f (length l) (λ h. refl) (λ h. past y l (length l) (omega arith) ∙ sym (past y l f h))
