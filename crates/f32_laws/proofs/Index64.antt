-- Whole 64ths by a natural number, for `omega`: `at64 n` is (n - mid) / 64. Its key is linear in n, and sums, differences and tests are those of the numbers.
use mathlib.Core.Path.{◌≡◌, refl, sym, ap, ap₂, ◌∙◌, subst}
use Prim.Native.Nat.{ℕ, zero, suc, ◌+◌, ◌-◌, ◌*◌, ◌^◌, ◌≤◌, ◌<◌}
use native.Mathlib.Nat.{add-mul, mul-le-mul_right, le_of_mul-le-mul_right, eq_of_mul-eq-mul_right}
use native.Mathlib.Omega.{arith}
use mathlib.Core.Bool.{Bool, true, false, not, cond, not-not}
use lib.IntN.{ℤ, pos, negsuc, nat_abs, sub_ℕ, neg_ℤ, ◌+ℤ◌}
use lib.Dec.{T, leb, ltb, eqb, ltb→lt, nltb→le}
use lib.Ieee.{binary32, prec, lt, eq, le, add, sub}
use Rattle.f32_laws.specs.Numbers.{zero+}
use Rattle.f32_laws.specs.Key.{Fin, bias, key}
use Rattle.f32_laws.specs.Sixty.{in64, g64, mid, half, at64}
use Rattle.f32_laws.proofs.Tests.{leb_same, eqb_same, not_leb}
use Rattle.f32_laws.proofs.Keys.{num, eq_is, le_is}
use Rattle.f32_laws.proofs.Order.{not_lt_is}
use Rattle.f32_laws.proofs.Exact64.{g64_pos, in64_units, in64_zero, add64, sub64}

-- ---- a - b as an integer, by its two ways
data Way (a b : ℕ) : Type 0 where
  up : (c : ℕ) → a ≡ b + c → Way a b
  down : (c : ℕ) → a + suc c ≡ b → Way a b

way : (a b : ℕ) → Way a b
way a b = go (ltb a b) (ltb→lt a b) (nltb→le a b)
  where
    go : (x : Bool) → (T x → a < b) → (T (not x) → b ≤ a) → Way a b
    go true h k = down (b - suc a) (omega (arith, h tt))
    go false h k = up (a - b) (omega (arith, k tt))

sub_up : (a b c : ℕ) → a ≡ b + c → sub_ℕ a b ≡ pos c
sub_up a b c e = go (ltb a b) (ltb→lt a b)
  where
    go : (x : Bool) → (T x → a < b) → cond x (negsuc (b - suc a)) (pos (a - b)) ≡ pos c
    go true h = absurd (omega (arith, h tt))
    go false h = ap pos (omega arith)

sub_down : (a b c : ℕ) → a + suc c ≡ b → sub_ℕ a b ≡ negsuc c
sub_down a b c e = go (ltb a b) (nltb→le a b)
  where
    go : (x : Bool) → (T (not x) → b ≤ a) → cond x (negsuc (b - suc a)) (pos (a - b)) ≡ negsuc c
    go true h = ap negsuc (omega arith)
    go false h = absurd (omega (arith, h tt))

shift : (a b c d : ℕ) → a + d ≡ c + b → sub_ℕ a b ≡ sub_ℕ c d
shift a b c d e = elim (way a b) [
  | up k p ↦ sub_up a b k p ∙ sym (sub_up c d k (omega arith))
  | down k p ↦ sub_down a b k p ∙ sym (sub_down c d k (omega arith))
]

plus_z : (a b n c : ℕ) → a + b ≡ n + c → sub_ℕ a c +ℤ sub_ℕ b c ≡ sub_ℕ n c
plus_z a b n c e = go (way a c) (way b c)
  where
    go : Way a c → Way b c → sub_ℕ a c +ℤ sub_ℕ b c ≡ sub_ℕ n c
    go (up i p) (up j q) = ap₂ ◌+ℤ◌ (sub_up a c i p) (sub_up b c j q) ∙ sym (sub_up n c (i + j) (omega arith))
    go (up i p) (down j q) = ap₂ ◌+ℤ◌ (sub_up a c i p) (sub_down b c j q) ∙ shift i (suc j) n c (omega arith)
    go (down i p) (up j q) = ap₂ ◌+ℤ◌ (sub_down a c i p) (sub_up b c j q) ∙ shift j (suc i) n c (omega arith)
    go (down i p) (down j q) = ap₂ ◌+ℤ◌ (sub_down a c i p) (sub_down b c j q) ∙ sym (sub_down n c (suc (i + j)) (omega arith))

minus_z : (b c d : ℕ) → b + d ≡ c + c → neg_ℤ (sub_ℕ b c) ≡ sub_ℕ d c
minus_z b c d e = go (way b c)
  where
    go : Way b c → neg_ℤ (sub_ℕ b c) ≡ sub_ℕ d c
    go (up zero p) = ap neg_ℤ (sub_up b c 0 p) ∙ sym (sub_up d c 0 (omega arith))
    go (up (suc i) p) = ap neg_ℤ (sub_up b c (suc i) p) ∙ sym (sub_down d c i (omega arith))
    go (down i p) = ap neg_ℤ (sub_down b c i p) ∙ sym (sub_up d c (suc i) (omega arith))

-- ---- the index of an integer
pub half_twice : half + half ≡ 2 ^ 24
unfolding half
half_twice = refl

pub mid_is : mid ≡ 2 ^ 24
unfolding mid
mid_is = refl

at_up : (n k : ℕ) → n ≡ mid + k → at64 n ≡ in64 binary32 (pos k)
unfolding at64
at_up n k e = ap (in64 binary32) (sub_up n mid k e)

at_down : (n k : ℕ) → n + suc k ≡ mid → at64 n ≡ in64 binary32 (negsuc k)
unfolding at64
at_down n k e = ap (in64 binary32) (sub_down n mid k e)

pub at_pos : (k : ℕ) → at64 (mid + k) ≡ in64 binary32 (pos k)
at_pos k = at_up (mid + k) k refl

pub at_neg : (k : ℕ) → suc k ≤ mid → at64 (mid - suc k) ≡ in64 binary32 (negsuc k)
at_neg k h = at_down (mid - suc k) k (omega arith)

pub at64_zero : at64 mid ≡ zero+
at64_zero = at_up mid 0 (omega arith) ∙ in64_zero binary32

pub bounded : (n : ℕ) → n ≤ mid + mid → nat_abs (sub_ℕ n mid) ≤ 2 ^ prec binary32
bounded n h = elim (way n mid) [
  | up k p ↦ subst (λ (z : ℤ). nat_abs z ≤ 2 ^ 24) (sym (sub_up n mid k p)) (omega (arith, mid_is))
  | down k p ↦ subst (λ (z : ℤ). nat_abs z ≤ 2 ^ 24) (sym (sub_down n mid k p)) (omega (arith, mid_is))
]

pub at64_fin : (n : ℕ) → n ≤ mid + mid → Fin binary32 (at64 n)
unfolding at64
at64_fin n h = (in64_units binary32 (sub_ℕ n mid) (bounded n h)).finite

pub at64_key : (n : ℕ) → n ≤ mid + mid → key binary32 (at64 n) + mid * g64 binary32 ≡ bias binary32 + n * g64 binary32
at64_key n h = elim (way n mid) [
  | up k p ↦
      let u = in64_units binary32 (pos k) (omega (arith, mid_is)) in
      omega (arith, ap (key binary32) (at_up n k p), u.counts, ap (λ (z : ℕ). z * g64 binary32) p, add-mul mid k (g64 binary32))
  | down k p ↦
      let u = in64_units binary32 (negsuc k) (omega (arith, mid_is)) in
      omega (arith, ap (key binary32) (at_down n k p), u.counts, u.small, ap (λ (z : ℕ). z * g64 binary32) p, add-mul n (suc k) (g64 binary32))
]

-- ---- the laws
module _ (a b : ℕ) (h : a ≤ mid + mid) (g : b ≤ mid + mid) where
  ka : key binary32 (at64 a) + mid * g64 binary32 ≡ bias binary32 + a * g64 binary32
  ka = at64_key a h

  kb : key binary32 (at64 b) + mid * g64 binary32 ≡ bias binary32 + b * g64 binary32
  kb = at64_key b g

  pub at64_le : le (at64 a) (at64 b) ≡ leb a b
  at64_le = le_is (num (at64_fin a h)) (num (at64_fin b g)) ∙ leb_same (key binary32 (at64 a)) (key binary32 (at64 b)) a b
      (λ w. le_of_mul-le-mul_right (omega (arith, w, ka, kb)) (g64_pos binary32))
      (λ w. omega (arith, ka, kb, mul-le-mul_right (g64 binary32) w))

  pub at64_eq : eq (at64 a) (at64 b) ≡ eqb a b
  at64_eq = eq_is (num (at64_fin a h)) (num (at64_fin b g)) ∙ eqb_same (key binary32 (at64 a)) (key binary32 (at64 b)) a b
      (λ w. eq_of_mul-eq-mul_right (g64 binary32) (g64_pos binary32) a b (omega (arith, w, ka, kb)))
      (λ w. omega (arith, ka, kb, ap (λ (z : ℕ). z * g64 binary32) w))

pub at64_lt : (a b : ℕ) → a ≤ mid + mid → b ≤ mid + mid → lt (at64 a) (at64 b) ≡ ltb a b
at64_lt a b h g = sym (not-not (lt (at64 a) (at64 b))) ∙ ap not (not_lt_is (num (at64_fin a h)) (num (at64_fin b g)) ∙ at64_le b a g h) ∙ not_leb a b

pub at64_add : (a b n : ℕ) → a ≤ mid + mid → b ≤ mid + mid → a + b ≡ n + mid → add binary32 (at64 a) (at64 b) ≡ at64 n
unfolding at64
at64_add a b n h g e = add64 binary32 (sub_ℕ a mid) (sub_ℕ b mid) (bounded a h) (bounded b g) ∙ ap (in64 binary32) (plus_z a b n mid e)

pub at64_sub : (a b n : ℕ) → a ≤ mid + mid → b ≤ mid + mid → a + mid ≡ n + b → sub binary32 (at64 a) (at64 b) ≡ at64 n
unfolding at64
at64_sub a b n h g e =
    sub64 binary32 (sub_ℕ a mid) (sub_ℕ b mid) (bounded a h) (bounded b g)
    ∙ ap (λ (z : ℤ). in64 binary32 (sub_ℕ a mid +ℤ z)) (minus_z b mid (mid + mid - b) (omega arith))
    ∙ ap (in64 binary32) (plus_z a (mid + mid - b) n mid (omega arith))
