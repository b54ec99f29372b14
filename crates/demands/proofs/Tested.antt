-- Rows 2 and 3: the tests of numbers, as they are read, fail exactly where some number as it is handed in is not finite or lies outside its limits. A minus zero is inside the same limits as the plus zero that it is read as.
use Prim.Native.Nat.{ℕ, ◌+◌, ◌*◌, ◌≤◌, ◌<◌}
use native.Mathlib.Omega.{arith}
use native.Mathlib.Nat.{eq-or-lt_of_le}
use mathlib.Core.Path.{◌≡◌, refl, sym, subst}
use mathlib.Core.Logic.{◌⊎◌, inl, inr}
use mathlib.Core.Bool.{Bool, true, false, not, ◌&&◌, ◌||◌, beq}
use mathlib.Core.List.{List, [], ◌∷◌, map}
use lib.Dec.{T, ltb, leb, eqb, T_not, eqb→eq, ltb→lt, nltb→le, leb→le, nleb→lt}
use lib.IntN.{ℤ, pos}
use lib.Ieee.{Float, nan, inf, fin, up, down, below, level, lt, le, eq}
use lib.Ieee.Fits.{and_l, and_r}
use borrow.Author.Tests.{ltb-true, ltb-false, lt-ltb, le-ltb, eq-eqb, ne_eqb}
use Rattle.f32_laws.specs.Numbers.{zero+}
use Rattle.f32_laws.proofs.Tests.{both}
use Rattle.float.specs.Numbers.{most, least, plus_zero, finite, within, Given, size, offset, value, allowed, all_finite, all_allowed}
use Rattle.demands.specs.Runs.{Any}
use Rattle.demands.specs.Rows.{NotFinite, Outside}

-- ---- a test that fails exactly where X holds
pub record Fails (X : Type 0) (b : Bool) : Type 0 where
  pub passed : T b → ¬ X
  pub failed : T (not b) → X

pub never : Fails ⊥ true
never = record { passed = λ t x. x; failed = λ t. absurd t }

pub and_also : {X Y : Type 0} {b c : Bool} → Fails X b → Fails Y c → Fails (X ⊎ Y) (b && c)
and_also {X} {Y} {b} {c} f g = record { passed = λ t. no (and_l b c t) (and_r b c t); failed = go b f.failed g.failed }
  where
    no : T b → T c → ¬ (X ⊎ Y)
    no t u (inl x) = f.passed t x
    no t u (inr y) = g.passed u y

    go : (b : Bool) → (T (not b) → X) → (T (not c) → Y) → T (not (b && c)) → X ⊎ Y
    go true h k t = inr (k t)
    go false h k t = inl (h t)

pub and_last : {X : Type 0} {b : Bool} → Fails X b → Fails (X ⊎ ⊥) b
and_last {X} f = record { passed = λ t. no (f.passed t); failed = λ t. inl (f.failed t) }
  where
    no : ¬ X → ¬ (X ⊎ ⊥)
    no h (inl x) = h x
    no h (inr y) = y

pub not_passed : (b : Bool) → Fails (T (not b)) b
not_passed b = record { passed = λ t u. T_not b u t; failed = λ t. t }

pub not_below : (k n : ℕ) → Fails (n ≤ k) (ltb k n)
not_below k n = record { passed = λ t h. omega (arith, ltb→lt k n t); failed = nltb→le k n }

pub not_above : (k n : ℕ) → Fails (n < k) (leb k n)
not_above k n = record { passed = λ t h. omega (arith, leb→le k n t); failed = nleb→lt k n }

-- ---- of finite values one is below the other exactly where it is not at least the other

pub data Three (a b : ℕ) : Type 0 where
  less : a < b → Three a b
  same : a ≡ b → Three a b
  more : b < a → Three a b

pub three : (a b : ℕ) → Three a b
three a b = go (ltb a b) refl
  where
    back : (b ≡ a) ⊎ (b < a) → Three a b
    back (inl e) = same (sym e)
    back (inr h) = more h

    go : (p : Bool) → ltb a b ≡ p → Three a b
    go true e = less (ltb-true a b e)
    go false e = back (eq-or-lt_of_le (ltb-false a b e))

flip : (s t : Bool) (a b : ℕ) → Three a b → below t b s a ≡ not (below s a t b || level s a t b)
flip false false a b (less h) = rw (le-ltb b a (omega arith), lt-ltb a b h)
flip false false a b (same h) = rw (le-ltb b a (omega arith), le-ltb a b (omega arith), eq-eqb a b h)
flip false false a b (more h) = rw (lt-ltb b a h, le-ltb a b (omega arith), ne_eqb a b (λ e. omega arith))
flip true true a b (less h) = rw (lt-ltb a b h, le-ltb b a (omega arith), ne_eqb a b (λ e. omega arith))
flip true true a b (same h) = rw (le-ltb a b (omega arith), le-ltb b a (omega arith), eq-eqb a b h)
flip true true a b (more h) = rw (le-ltb a b (omega arith), lt-ltb b a h)
flip false true a b (less h) = rw (lt-ltb 0 (b + a) (omega arith), ne_eqb a b (λ e. omega arith))
flip false true a b (more h) = rw (lt-ltb 0 (b + a) (omega arith), ne_eqb a b (λ e. omega arith))
flip false true a b (same h) = go (three a 0)
  where
    go : Three a 0 → below true b false a ≡ not (below false a true b || level false a true b)
    go (less k) = absurd (omega arith)
    go (same k) = rw (le-ltb 0 (b + a) (omega arith), eq-eqb a b h, eq-eqb a 0 k)
    go (more k) = rw (lt-ltb 0 (b + a) (omega arith), eq-eqb a b h, ne_eqb a 0 (λ e. omega arith))
flip true false a b (less h) = rw (lt-ltb 0 (a + b) (omega arith))
flip true false a b (more h) = rw (lt-ltb 0 (a + b) (omega arith))
flip true false a b (same h) = go (three a 0)
  where
    go : Three a 0 → below false b true a ≡ not (below true a false b || level true a false b)
    go (less k) = absurd (omega arith)
    go (same k) = rw (le-ltb 0 (a + b) (omega arith), eq-eqb a b h, eq-eqb a 0 k)
    go (more k) = rw (lt-ltb 0 (a + b) (omega arith))

lt_fin : (s t : Bool) (m n : ℕ) (e d : ℤ) → lt (fin t n d) (fin s m e) ≡ not (le (fin s m e) (fin t n d))
unfolding lt le eq
lt_fin s t m n e d = flip s t (m * up e * down d) (n * up d * down e) (three (m * up e * down d) (n * up d * down e))

-- ---- numbers, as they are read
abbrev pub plus : Given → Given
plus (size x) = size (plus_zero x)
plus (offset x) = offset (plus_zero x)

finite_number : (x : Float) → Fails ((x ≡ nan) ⊎ (x ≡ inf true) ⊎ (x ≡ inf false)) (finite (plus_zero x))
unfolding plus_zero finite lt eq zero+
finite_number nan = record { passed = λ t. absurd t; failed = λ t. inl refl }
finite_number (inf true) = record { passed = λ t. absurd t; failed = λ t. inr (inl refl) }
finite_number (inf false) = record { passed = λ t. absurd t; failed = λ t. inr (inr refl) }
finite_number (fin s m e) = both (λ x. Fails ((fin s m e ≡ nan) ⊎ (fin s m e ≡ inf true) ⊎ (fin s m e ≡ inf false)) (lt (inf true) x && lt x (inf false))) (eq (fin s m e) zero+) (λ t. is) (λ t. is)
  where
    no : ¬ ((fin s m e ≡ nan) ⊎ (fin s m e ≡ inf true) ⊎ (fin s m e ≡ inf false))
    no (inl h) = let z : ◌≡◌ {A = ℕ} 0 1 = cc in omega arith
    no (inr (inl h)) = let z : ◌≡◌ {A = ℕ} 0 1 = cc in omega arith
    no (inr (inr h)) = let z : ◌≡◌ {A = ℕ} 0 1 = cc in omega arith

    is : Fails ((fin s m e ≡ nan) ⊎ (fin s m e ≡ inf true) ⊎ (fin s m e ≡ inf false)) true
    is = record { passed = λ t. no; failed = λ t. absurd t }

finite_one : (g : Given) → Fails (NotFinite g) (finite (value (plus g)))
finite_one (size x) = finite_number x
finite_one (offset x) = finite_number x

pub finite_all : (gs : List Given) → Fails (Any NotFinite gs) (all_finite (map plus gs))
unfolding all_finite
finite_all [] = never
finite_all (g ∷ gs) = and_also (finite_one g) (finite_all gs)

-- zero, of either sign, is inside
nought : (s : Bool) (m : ℕ) (e : ℤ) → T (eq (fin s m e) zero+) → m * up e * 1 ≡ 0
unfolding eq zero+
nought s m e h = omega (arith, eqb→eq (m * up e * 1) (0 * 1 * down e) (and_l (eqb (m * up e * 1) (0 * 1 * down e)) (beq s false || eqb (m * up e * 1) 0) h))

-- with a magnitude of 0
no_less : (s : Bool) (m : ℕ) (e : ℤ) → m * up e * 1 ≡ 0 → ¬ T (lt (fin s m e) zero+)
unfolding lt zero+
no_less false m e z h = omega (arith, ltb→lt (m * up e * 1) (0 * 1 * down e) h)
no_less true m e z h = omega (arith, ltb→lt 0 (m * up e * 1 + 0 * 1 * down e) h)

not_under : (s : Bool) (m : ℕ) (e : ℤ) → m * up e * 1 ≡ 0 → ¬ T (lt (fin s m e) least)
unfolding lt
not_under false m e z h = h
not_under true m e z h = omega (arith, ltb→lt (1 * 65536 * down e) (m * up e * 1) h)

not_over : (s : Bool) (m : ℕ) (e : ℤ) → m * up e * 1 ≡ 0 → ¬ T (lt most (fin s m e))
unfolding lt
not_over false m e z h = omega (arith, ltb→lt (1 * 65536 * down e) (m * up e * 1) h)
not_over true m e z h = h

turned : (s t : Bool) (m n : ℕ) (e d : ℤ) → Fails (T (lt (fin t n d) (fin s m e))) (le (fin s m e) (fin t n d))
turned s t m n e d = subst (λ (b : Bool). Fails (T b) (le (fin s m e) (fin t n d))) (sym (lt_fin s t m n e d)) (not_passed (le (fin s m e) (fin t n d)))

-- the limits from lo to 65,536, for a lo that is not above zero
inside_from : (t : Bool) (n : ℕ) (d : ℤ) (s : Bool) (m : ℕ) (e : ℤ) → T (within (fin t n d) most zero+) → (m * up e * 1 ≡ 0 → ¬ T (lt (fin s m e) (fin t n d)))
    → Fails (T (lt (fin s m e) (fin t n d)) ⊎ T (lt most (fin s m e))) (within (fin t n d) most (plus_zero (fin s m e)))
unfolding plus_zero within
inside_from t n d s m e w k = both (λ y. Fails Out (within lo most y)) (eq x zero+) {x = zero+} {y = x} (λ h. zero_in (nought s m e h)) (λ h. and_also (turned t s n m d e) (turned s false m 1 e (pos 16)))
  where
    x : Float
    x = fin s m e

    lo : Float
    lo = fin t n d

    Out : Type 0
    Out = T (lt x lo) ⊎ T (lt most x)

    no : m * up e * 1 ≡ 0 → ¬ Out
    no z (inl h) = k z h
    no z (inr h) = not_over s m e z h

    zero_in : m * up e * 1 ≡ 0 → Fails Out (within lo most zero+)
    zero_in z = record { passed = λ u. no z; failed = λ u. absurd (T_not (within lo most zero+) u w) }

inside_one : (g : Given) → T (finite (value (plus g))) → Fails (Outside g) (allowed (plus g))
unfolding plus_zero finite within lt le eq zero+
inside_one (size nan) t = absurd t
inside_one (size (inf true)) t = absurd t
inside_one (size (inf false)) t = absurd t
inside_one (size (fin s m e)) t = inside_from false 0 (pos 0) s m e tt (no_less s m e)
inside_one (offset nan) t = absurd t
inside_one (offset (inf true)) t = absurd t
inside_one (offset (inf false)) t = absurd t
inside_one (offset (fin s m e)) t = inside_from true 1 (pos 16) s m e tt (not_under s m e)

pub inside_all : (gs : List Given) → T (all_finite (map plus gs)) → Fails (Any Outside gs) (all_allowed (map plus gs))
unfolding all_finite all_allowed
inside_all [] t = never
inside_all (g ∷ gs) t = and_also (inside_one g (and_l (finite (value (plus g))) (all_finite (map plus gs)) t)) (inside_all gs (and_r (finite (value (plus g))) (all_finite (map plus gs)) t))
