-- Whole 64ths by an integer, in either format: each is a whole number of units, so sums and differences are exact and the order is the integers'.
use mathlib.Core.Path.{◌≡◌, refl, sym, ap, ap₂, ◌∙◌, subst}
use mathlib.Core.Logic.{inl, inr}
use Prim.Native.Nat.{ℕ, zero, suc, ◌+◌, ◌-◌, ◌*◌, ◌^◌, ◌≤◌, ◌<◌}
use native.Mathlib.Nat.{lt_of_le_of_lt, eq-or-lt_of_le, mul_assoc, mul-le-mul_right, le_of_mul-le-mul_right, one-mul}
use native.Mathlib.Omega.{arith}
use mathlib.Core.Bool.{Bool, true, false, not, cond, not-not}
use lib.IntN.{ℤ, pos, negsuc, nat_abs, ◌+ℤ◌, ◌-ℤ◌, +ℤ_idr}
use lib.Signed.{le_z, lt_z}
use lib.Dec.{T, leb, ltb, lit<, leb→le, le→leb, ltb→lt, nltb→le}
use lib.Pow.{pow_pos, pow-add}
use lib.Ieee.{Float, Format, binary32, binary64, prec, low, lt, le, add, sub, sum, round}
use lib.Ieee.Scale.{round_same}
use Rattle.f32_laws.specs.Numbers.{zero+}
use Rattle.f32_laws.specs.Key.{Num, bias, signed, key, Units}
use Rattle.f32_laws.specs.Round.{rnd}
use Rattle.f32_laws.specs.Sixty.{in64, minus?, g64}
use Rattle.f32_laws.proofs.Tests.{bool_same, leb_same, not_leb}
use Rattle.f32_laws.proofs.Fractions.{sum_same}
use Rattle.f32_laws.proofs.Keys.{fin_of_key, le_is, neg_units}
use Rattle.f32_laws.proofs.Order.{not_lt_is}
use Rattle.f32_laws.proofs.Rounding.{round_num, round_sign, round_key, rnd_exact, sum_is, add_units}
use Rattle.f32_laws.proofs.Sums.{sub_is}

-- ---- k / 64 is k times `g64` units
pub g64_is : (f : Format) → g64 f * 64 ≡ 2 ^ low f
unfolding g64
g64_is binary32 = refl
g64_is binary64 = refl

pub g64_pos : (f : Format) → 0 < g64 f
unfolding g64
g64_pos f = pow_pos (low f - 6)

room : (f : Format) → 2 ^ prec f * g64 f < bias f
unfolding g64 bias
room binary32 = lit< tt
room binary64 = lit< tt

few : (f : Format) (n : ℕ) → n ≤ 2 ^ prec f → n * g64 f < bias f
few f n h = lt_of_le_of_lt (mul-le-mul_right (g64 f) h) (room f)

-- 2 ^ prec has one digit too many, but it is a power of two
rnd64 : (f : Format) (n : ℕ) → n ≤ 2 ^ prec f → rnd f (n * g64 f) ≡ n * g64 f
unfolding g64
rnd64 f n h = elim (eq-or-lt_of_le h) [
  | inl e ↦ subst (λ (z : ℕ). rnd f z ≡ z) (whole ∙ ap (λ (z : ℕ). z * g64 f) (sym e)) (rnd_exact f 1 (prec f + (low f - 6)) (one f) (subst (λ (z : ℕ). z < bias f) (sym whole) (room f)))
  | inr l ↦ rnd_exact f n (low f - 6) l (few f n h)
]
  where
    whole : 1 * 2 ^ (prec f + (low f - 6)) ≡ 2 ^ prec f * 2 ^ (low f - 6)
    whole = one-mul (2 ^ (prec f + (low f - 6))) ∙ pow-add 2 (prec f) (low f - 6)

    one : (f : Format) → 1 < 2 ^ prec f
    one binary32 = lit< tt
    one binary64 = lit< tt

round_units : (f : Format) (s : Bool) (n : ℕ) → n ≤ 2 ^ prec f → Units f (round f s n 64) s (n * g64 f)
round_units f s n h = record { finite = fin_of_key (round_num f s n 64) (go s at).0 (go s at).1; minus = round_sign f s n 64; counts = at; small = few f n h }
  where
    at : key f (round f s n 64) ≡ signed s (bias f) (n * g64 f)
    at =
        ap (key f) (round_same f s n 64 (n * g64 f) (2 ^ low f) (lit< tt) (pow_pos (low f)) (ap (λ (z : ℕ). n * z) (sym (g64_is f)) ∙ sym (mul_assoc n (g64 f) 64)))
        ∙ round_key f s (n * g64 f)
        ∙ ap (λ (z : ℕ). signed s (bias f) z) (rnd64 f n h)

    go : (t : Bool) → key f (round f s n 64) ≡ signed t (bias f) (n * g64 f) → (0 < key f (round f s n 64)) × (key f (round f s n 64) < bias f + bias f)
    go true e = (omega (arith, few f n h), omega (arith, few f n h))
    go false e = (omega (arith, few f n h), omega (arith, few f n h))

pub in64_units : (f : Format) (k : ℤ) → nat_abs k ≤ 2 ^ prec f → Units f (in64 f k) (minus? k) (nat_abs k * g64 f)
unfolding in64
in64_units f (pos n) h = round_units f false n h
in64_units f (negsuc n) h = round_units f true (suc n) h

pub in64_num : (f : Format) (k : ℤ) → Num f (in64 f k)
unfolding in64
in64_num f (pos n) = round_num f false n 64
in64_num f (negsuc n) = round_num f true (suc n) 64

pub in64_zero : (f : Format) → in64 f (pos 0) ≡ zero+
unfolding in64 zero+ round
in64_zero binary32 = refl
in64_zero binary64 = refl

-- ---- the sum of two fractions with the denominator 64 is the integers' sum
sum_z : (f : Format) (k l : ℤ) → sum f (minus? k) (nat_abs k) (minus? l) (nat_abs l) 64 ≡ in64 f (k +ℤ l)
unfolding in64
sum_z f (pos a) (pos b) = sum_is f false a false b 64
sum_z f (negsuc a) (negsuc b) = sum_is f true (suc a) true (suc b) 64 ∙ ap (λ (z : ℕ). round f true z 64) (omega arith)
sum_z f (pos a) (negsuc b) = sum_is f false a true (suc b) 64 ∙ go (ltb a (suc b)) (ltb→lt a (suc b))
  where
    go : (x : Bool) → (T x → a < suc b) → cond x (round f true (suc b - a) 64) (round f false (a - suc b) 64) ≡ in64 f (cond x (negsuc (suc b - suc a)) (pos (a - suc b)))
    go true h = ap (λ (z : ℕ). round f true z 64) (omega (arith, h tt))
    go false h = refl
sum_z f (negsuc a) (pos b) = sum_is f true (suc a) false b 64 ∙ go (ltb (suc a) b) (ltb b (suc a)) (ltb→lt (suc a) b) (nltb→le (suc a) b) (ltb→lt b (suc a)) (nltb→le b (suc a))
  where
    go : (x y : Bool) → (T x → suc a < b) → (T (not x) → b ≤ suc a) → (T y → b < suc a) → (T (not y) → suc a ≤ b)
        → cond x (round f false (b - suc a) 64) (round f y (suc a - b) 64) ≡ in64 f (cond y (negsuc (suc a - suc b)) (pos (b - suc a)))
    go true true h i j k = absurd (omega (arith, h tt, j tt))
    go true false h i j k = refl
    go false true h i j k = ap (λ (z : ℕ). round f true z 64) (omega (arith, j tt))
    go false false h i j k = ap (λ (z : ℕ). round f false z 64) (omega (arith, i tt, k tt))

-- taking away zero, which has a sign of its own
minus_zero : (f : Format) (k : ℤ) → sum f (minus? k) (nat_abs k) true 0 64 ≡ in64 f k
unfolding in64
minus_zero f (pos n) = sum_is f false n true 0 64 ∙ go (ltb n 0) (ltb→lt n 0)
  where
    go : (x : Bool) → (T x → n < 0) → cond x (round f true (0 - n) 64) (round f false (n - 0) 64) ≡ round f false n 64
    go true w = absurd (omega (arith, w tt))
    go false w = ap (λ (z : ℕ). round f false z 64) (omega arith)
minus_zero f (negsuc n) = sum_is f true (suc n) true 0 64 ∙ ap (λ (z : ℕ). round f true z 64) (omega arith)

diff_z : (f : Format) (k l : ℤ) → sum f (minus? k) (nat_abs k) (not (minus? l)) (nat_abs l) 64 ≡ in64 f (k -ℤ l)
diff_z f k (pos zero) = minus_zero f k ∙ ap (in64 f) (sym (+ℤ_idr k))
diff_z f k (pos (suc n)) = sum_z f k (negsuc n)
diff_z f k (negsuc n) = sum_z f k (pos (suc n))

sum64 : (f : Format) {x y : Float} (s t : Bool) (a b : ℕ) → Units f x s (a * g64 f) → Units f y t (b * g64 f) → add f x y ≡ sum f s a t b 64
sum64 f s t a b u v = add_units u v ∙ sum_same {A = a * g64 f} {B = b * g64 f} (record { old_pos = pow_pos (low f); new_pos = lit< tt; first = over a; second = over b }) f s t
  where
    over : (n : ℕ) → n * g64 f * 64 ≡ n * 2 ^ low f
    over n = mul_assoc n (g64 f) 64 ∙ ap (λ (z : ℕ). n * z) (g64_is f)

-- ---- the laws, for integers up to 2 ^ prec either way
module _ (f : Format) (k l : ℤ) (h : nat_abs k ≤ 2 ^ prec f) (g : nat_abs l ≤ 2 ^ prec f) where
  pub add64 : add f (in64 f k) (in64 f l) ≡ in64 f (k +ℤ l)
  add64 = sum64 f (minus? k) (minus? l) (nat_abs k) (nat_abs l) (in64_units f k h) (in64_units f l g) ∙ sum_z f k l

  pub sub64 : sub f (in64 f k) (in64 f l) ≡ in64 f (k -ℤ l)
  sub64 = sub_is f (in64 f k) (in64 f l) ∙ sum64 f (minus? k) (not (minus? l)) (nat_abs k) (nat_abs l) (in64_units f k h) (neg_units (in64_units f l g)) ∙ diff_z f k l

order_z : (f : Format) (k l : ℤ) → nat_abs k ≤ 2 ^ prec f → nat_abs l ≤ 2 ^ prec f → leb (signed (minus? k) (bias f) (nat_abs k * g64 f)) (signed (minus? l) (bias f) (nat_abs l * g64 f)) ≡ le_z k l
order_z f k l h g = go k l h g
  where
    more : (a b : ℕ) → a ≤ b → a * g64 f ≤ b * g64 f
    more a b h = mul-le-mul_right (g64 f) h

    less : (a b : ℕ) → a * g64 f ≤ b * g64 f → a ≤ b
    less a b h = le_of_mul-le-mul_right h (g64_pos f)

    go : (k l : ℤ) → nat_abs k ≤ 2 ^ prec f → nat_abs l ≤ 2 ^ prec f → leb (signed (minus? k) (bias f) (nat_abs k * g64 f)) (signed (minus? l) (bias f) (nat_abs l * g64 f)) ≡ le_z k l
    go (pos a) (pos b) h g = leb_same (bias f + a * g64 f) (bias f + b * g64 f) a b (λ w. less a b (omega arith)) (λ w. omega (arith, more a b w))
    go (pos a) (negsuc b) h g = bool_same (leb (bias f + a * g64 f) (bias f - suc b * g64 f)) false (λ w. omega (arith, leb→le (bias f + a * g64 f) (bias f - suc b * g64 f) w, few f (suc b) g, more 1 (suc b) (omega arith), one-mul (g64 f), g64_pos f)) (λ w. absurd w)
    go (negsuc a) (pos b) h g = bool_same (leb (bias f - suc a * g64 f) (bias f + b * g64 f)) true (λ w. tt) (λ w. le→leb (bias f - suc a * g64 f) (bias f + b * g64 f) (omega arith))
    go (negsuc a) (negsuc b) h g = leb_same (bias f - suc a * g64 f) (bias f - suc b * g64 f) b a (λ w. omega (arith, less (suc b) (suc a) (omega (arith, few f (suc a) h, few f (suc b) g)))) (λ w. omega (arith, more (suc b) (suc a) (omega arith)))

pub le64 : (f : Format) (k l : ℤ) → nat_abs k ≤ 2 ^ prec f → nat_abs l ≤ 2 ^ prec f → le (in64 f k) (in64 f l) ≡ le_z k l
le64 f k l h g = le_is (in64_num f k) (in64_num f l) ∙ ap₂ leb (in64_units f k h).counts (in64_units f l g).counts ∙ order_z f k l h g

not_le_z : (k l : ℤ) → not (le_z l k) ≡ lt_z k l
not_le_z (pos a) (pos b) = not_leb a b
not_le_z (pos a) (negsuc b) = refl
not_le_z (negsuc a) (pos b) = refl
not_le_z (negsuc a) (negsuc b) = not_leb b a

pub lt64 : (f : Format) (k l : ℤ) → nat_abs k ≤ 2 ^ prec f → nat_abs l ≤ 2 ^ prec f → lt (in64 f k) (in64 f l) ≡ lt_z k l
lt64 f k l h g = sym (not-not (lt (in64 f k) (in64 f l))) ∙ ap not (not_lt_is (in64_num f k) (in64_num f l) ∙ le64 f l k g h) ∙ not_le_z k l
