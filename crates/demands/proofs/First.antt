-- The first band below a height: where it stands, by the tests that its search made.
use mathlib.Core.Path.{◌≡◌, refl, sym, ap, subst}
use Prim.Native.Nat.{ℕ, zero, suc, ◌≤◌, ◌<◌, suc-le-suc}
use native.Mathlib.Nat.{le_of_suc-le-suc, not-suc-le-zero}
use native.Mathlib.Omega.{arith}
use mathlib.Core.Bool.{Bool, true, false, not}
use mathlib.Core.List.{List, [], ◌∷◌}
use lib.Dec.{T}
use lib.Ieee.{Float, binary32, lt}
use lib.ListN.{length, get_or}
use Rattle.f32_laws.specs.Numbers.{larger, zero+}
use Rattle.f32_laws.specs.Key.{Num}
use Rattle.f32_laws.proofs.Keys.{nlt→key}
use Rattle.float.specs.declared.FloatDirection.{FloatDirection}
use Rattle.float.specs.declared.Segment.{Segment}
use Rattle.float.specs.Bands.{lead, none, last_end, first_below}
use Rattle.demands.specs.Runs.{inset_at}
use Rattle.demands.proofs.Laws.{k}
use Rattle.demands.proofs.Chain.{Chain}

-- it ends strictly below the height
pub first_end : (l : List Segment) (f : ℕ) (y : Float) → first_below l f y < length l → T (lt y (get_or l (first_below l f y) none).end)
unfolding first_below
first_end [] f y h = absurd (not-suc-le-zero h)
first_end (b ∷ bs) zero y h = go (lt y b.end) refl (first_end bs zero y) h
  where
    go : (t : Bool) → lt y b.end ≡ t → (first_below bs zero y < length bs → T (lt y (get_or bs (first_below bs zero y) none).end)) → (elim t [ true ↦ 0 | false ↦ suc (first_below bs zero y) ]) < suc (length bs) → T (lt y (get_or (b ∷ bs) (elim t [ true ↦ 0 | false ↦ suc (first_below bs zero y) ]) none).end)
    go true e r h = subst T (sym e) tt
    go false e r h = r (le_of_suc-le-suc h)
first_end (b ∷ bs) (suc f) y h = first_end bs f y (le_of_suc-le-suc h)

pub first_le : (l : List Segment) (f : ℕ) (y : Float) → first_below l f y ≤ length l
unfolding first_below
first_le [] f y = omega arith
first_le (b ∷ bs) zero y = go (lt y b.end) (first_le bs zero y)
  where
    go : (t : Bool) → first_below bs zero y ≤ length bs → (elim t [ true ↦ 0 | false ↦ suc (first_below bs zero y) ]) ≤ suc (length bs)
    go true h = omega arith
    go false h = omega arith
first_le (b ∷ bs) (suc f) y = omega (arith, first_le bs f y)

pub first_ge : (l : List Segment) (f : ℕ) (y : Float) → f ≤ length l → f ≤ first_below l f y
unfolding first_below
first_ge [] f y h = h
first_ge (b ∷ bs) zero y h = omega arith
first_ge (b ∷ bs) (suc f) y h = omega (arith, first_ge bs f y (le_of_suc-le-suc h))

-- bands that do not end below the height may be passed over
pub first_skip : (l : List Segment) (f : ℕ) (y : Float) → ((i : ℕ) → i < f → i < length l → T (not (lt y (get_or l i none).end))) → first_below l f y ≡ first_below l 0 y
unfolding first_below
first_skip [] f y h = refl
first_skip (b ∷ bs) zero y h = refl
first_skip (b ∷ bs) (suc f) y h = go (lt y b.end) (h 0 (omega arith) (omega arith)) (first_skip bs f y (λ i m n. h (suc i) (omega arith) (omega arith)))
  where
    go : (t : Bool) → T (not t) → first_below bs f y ≡ first_below bs 0 y → suc (first_below bs f y) ≡ (elim t [ true ↦ 0 | false ↦ suc (first_below bs zero y) ])
    go true u e = absurd u
    go false u e = ap suc e

-- where no band ends below the height, none does from f on, nor the last
pub first_quiet : (l : List Segment) (f : ℕ) (y : Float) → length l ≤ first_below l 0 y → length l ≤ first_below l f y
unfolding first_below
first_quiet [] f y h = h
first_quiet (b ∷ bs) zero y h = h
first_quiet (b ∷ bs) (suc f) y h = go (lt y b.end) (first_quiet bs f y) h
  where
    go : (t : Bool) → (length bs ≤ first_below bs 0 y → length bs ≤ first_below bs f y) → suc (length bs) ≤ (elim t [ true ↦ 0 | false ↦ suc (first_below bs zero y) ]) → suc (length bs) ≤ suc (first_below bs f y)
    go true r h = absurd (not-suc-le-zero h)
    go false r h = suc-le-suc (r (le_of_suc-le-suc h))

pub last_quiet : (x : Float) (l : List Segment) (y : Float) → larger y x ≡ y → length l ≤ first_below l 0 y → larger y (last_end x l) ≡ y
unfolding first_below last_end larger
last_quiet x [] y e h = e
last_quiet x (b ∷ bs) y e h = go (lt y b.end) refl (last_quiet b.end bs y) h
  where
    go : (t : Bool) → lt y b.end ≡ t → (larger y b.end ≡ y → length bs ≤ first_below bs 0 y → larger y (last_end b.end bs) ≡ y) → suc (length bs) ≤ (elim t [ true ↦ 0 | false ↦ suc (first_below bs zero y) ]) → larger y (last_end b.end bs) ≡ y
    go true u r h = absurd (not-suc-le-zero h)
    go false u r h = r (simp (larger, u)) (le_of_suc-le-suc h)

-- from the top on, it starts at or above the height
pub first_start : (x : Float) (l : List Segment) (y : Float) → Chain x l → Num binary32 y → k x ≤ k y → first_below l 0 y < length l → k (get_or l (first_below l 0 y) none).start ≤ k y
unfolding first_below
first_start x [] y c n o h = absurd (not-suc-le-zero h)
first_start x (b ∷ bs) y c n o h = go (lt y b.end) (λ t. first_start b.end bs y c.2 n (nlt→key n c.1.end.num t)) h
  where
    go : (t : Bool) → (T (not t) → first_below bs 0 y < length bs → k (get_or bs (first_below bs 0 y) none).start ≤ k y) → (elim t [ true ↦ 0 | false ↦ suc (first_below bs zero y) ]) < suc (length bs) → k (get_or (b ∷ bs) (elim t [ true ↦ 0 | false ↦ suc (first_below bs zero y) ]) none).start ≤ k y
    go true r h = omega (arith, ap k c.0)
    go false r h = r tt (le_of_suc-le-suc h)

-- with none below it, there is no inset
pub first_none : (s : FloatDirection) (l : List Segment) (y : Float) → length l ≤ first_below l 0 y → inset_at s y l ≡ zero+
unfolding first_below inset_at
first_none s [] y h = refl
first_none s (b ∷ bs) y h = go (lt y b.end) (first_none s bs y) h
  where
    go : (t : Bool) → (length bs ≤ first_below bs 0 y → inset_at s y bs ≡ zero+) → suc (length bs) ≤ (elim t [ true ↦ 0 | false ↦ suc (first_below bs zero y) ]) → (elim t [ true ↦ lead s b | false ↦ inset_at s y bs ]) ≡ zero+
    go true r h = absurd (not-suc-le-zero h)
    go false r h = r (le_of_suc-le-suc h)
