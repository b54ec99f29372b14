-- Rounding by the keys: a sum's key is the rounded sum of the keys, which is monotone and leaves the format's own values alone.
use mathlib.Core.Path.{◌≡◌, refl, sym, ap, ◌∙◌, subst}
use Prim.Native.Nat.{ℕ, zero, suc, ◌+◌, ◌-◌, ◌*◌, ◌^◌, ◌≤◌, ◌<◌}
use native.Mathlib.Nat.{mul-le-mul_right}
use native.Mathlib.Omega.{arith}
use mathlib.Core.Bool.{Bool, true, false, not, ◌&&◌, cond, beq}
use lib.Dec.{T, leb, ltb, ltb→lt, nltb→le, leb→le, nleb→lt}
use lib.Pow.{pow_pos, pow-lt}
use lib.Ieee.{Float, nan, inf, fin, Format, prec, emax, low, is_nan, neg, add, sum, round, units, odd}
use lib.Ieee.Exact.{round_exact}
use lib.Ieee.Fits.{two, round-fits, round_is}
use lib.Ieee.Order.{round_mono}
use Rattle.f32_laws.specs.Key.{IsFin, Num, Fin, sign, bias, mag, signed, key, Units}
use Rattle.f32_laws.specs.Round.{rnd, srnd}
use Rattle.f32_laws.proofs.Fractions.{sum_same}
use Rattle.f32_laws.proofs.Magnitude.{bias_pos, mag_lt, mag_pow, in_units}
use Rattle.f32_laws.proofs.Keys.{num_fits, key_top, value_key, le→key, key_ge, neg_key, fin_units, units_mag}

-- ---- a rounded fraction is no NaN, and its sign is the one that was handed in
units_real : (f : Format) (s : Bool) (q k : ℕ) → T (not (is_nan (units f s q k)))
unfolding units is_nan odd
units_real f s q k = go (ltb (q * 2 ^ k) (2 ^ (low f + suc (emax f)))) q
  where
    go : (b : Bool) (q : ℕ) → T (not (is_nan (cond b (odd (suc (prec f)) s q k (low f)) (inf s))))
    go true zero = tt
    go true (suc q) = tt
    go false q = tt

units_sign : (f : Format) (s : Bool) (q k : ℕ) → sign (units f s q k) ≡ s
unfolding units odd
units_sign f s q k = go (ltb (q * 2 ^ k) (2 ^ (low f + suc (emax f)))) q
  where
    go : (b : Bool) (q : ℕ) → sign (cond b (odd (suc (prec f)) s q k (low f)) (inf s)) ≡ s
    go true zero = refl
    go true (suc q) = refl
    go false q = refl

units_neg : (f : Format) (q k : ℕ) → units f true q k ≡ neg (units f false q k)
unfolding units odd neg
units_neg f q k = go (ltb (q * 2 ^ k) (2 ^ (low f + suc (emax f)))) q
  where
    go : (b : Bool) (q : ℕ) → cond b (odd (suc (prec f)) true q k (low f)) (inf true) ≡ neg (cond b (odd (suc (prec f)) false q k (low f)) (inf false))
    go true zero = refl
    go true (suc q) = refl
    go false q = refl

pub round_num : (f : Format) (s : Bool) (a c : ℕ) → Num f (round f s a c)
round_num f s a c = num_fits (round-fits f s a c) (subst (λ (z : Float). T (not (is_nan z))) (sym (round_is f s a c)) (units_real f s _ _))

pub round_sign : (f : Format) (s : Bool) (a c : ℕ) → sign (round f s a c) ≡ s
round_sign f s a c = ap sign (round_is f s a c) ∙ units_sign f s _ _

round_neg : (f : Format) (a c : ℕ) → round f true a c ≡ neg (round f false a c)
round_neg f a c = round_is f true a c ∙ units_neg f _ _ ∙ ap neg (sym (round_is f false a c))

-- ---- a magnitude rounded: monotone, and exact where the digits are few
pub round_key : (f : Format) (s : Bool) (n : ℕ) → key f (round f s n (2 ^ low f)) ≡ signed s (bias f) (rnd f n)
unfolding rnd
round_key f s n = go s
  where
    p : Num f (round f false n (2 ^ low f))
    p = round_num f false n (2 ^ low f)

    l : bias f ≤ key f (round f false n (2 ^ low f))
    l = key_ge p (round_sign f false n (2 ^ low f))

    go : (s : Bool) → key f (round f s n (2 ^ low f)) ≡ signed s (bias f) (key f (round f false n (2 ^ low f)) - bias f)
    go false = omega (arith, l)
    go true = omega (arith, l, ap (key f) (round_neg f n (2 ^ low f)), neg_key p, key_top p)

rnd_mono : (f : Format) (a b : ℕ) → a ≤ b → rnd f a ≤ rnd f b
rnd_mono f a b h =
    let u = 2 ^ low f in
    let l = round_mono f a u b u (pow_pos (low f)) (pow_pos (low f)) (mul-le-mul_right u h) in
    omega (arith, le→key (round_num f false a u) (round_num f false b u) l, round_key f false a, round_key f false b)

pub rnd_exact : (f : Format) (q j : ℕ) → q < 2 ^ prec f → q * 2 ^ j < bias f → rnd f (q * 2 ^ j) ≡ q * 2 ^ j
unfolding bias
rnd_exact f q j h k =
    let u = 2 ^ low f in
    let n = q * 2 ^ j in
    omega (arith, round_key f false n, value_key f (round f false n u) false n (round-fits f false n u) (round_exact f false n u q j (pow_pos (low f)) h k refl))

-- what is not 0 is not rounded to it
pub rnd_pos : (f : Format) (n : ℕ) → 0 < n → 0 < rnd f n
unfolding bias
rnd_pos f n h =
    let one = rnd_exact f 1 0 (omega (arith, pow-lt {i = 0} {j = prec f} (omega (arith, two f)))) (omega (arith, pow-lt {i = 0} {j = low f + suc (emax f)} (omega arith))) in
    omega (arith, one, rnd_mono f 1 n h)

rnd_zero : (f : Format) → rnd f 0 ≡ 0
rnd_zero f = rnd_exact f 0 0 (pow_pos (prec f)) (bias_pos f)

-- ---- a sum of two keys rounded: below and above zero, and monotone across it
module _ (f : Format) (z n : ℕ) where
  pub srnd_below : z + n ≡ bias f + bias f → srnd f z ≡ bias f - rnd f n
  unfolding srnd
  srnd_below h = go (ltb z (bias f + bias f)) (ltb→lt z (bias f + bias f)) (nltb→le z (bias f + bias f))
    where
      go : (b : Bool) → (T b → z < bias f + bias f) → (T (not b) → bias f + bias f ≤ z) → cond b (bias f - rnd f (bias f + bias f - z)) (bias f + rnd f (z - (bias f + bias f))) ≡ bias f - rnd f n
      go true x y = ap (λ (k : ℕ). bias f - rnd f k) (omega arith)
      go false x y =
          let zn : n ≡ 0 = omega (arith, y tt) in
          let zz : z - (bias f + bias f) ≡ 0 = omega arith in
          omega (arith, ap (rnd f) zn, ap (rnd f) zz, rnd_zero f)

  pub srnd_above : z ≡ bias f + bias f + n → srnd f z ≡ bias f + rnd f n
  unfolding srnd
  srnd_above h = go (ltb z (bias f + bias f)) (ltb→lt z (bias f + bias f))
    where
      go : (b : Bool) → (T b → z < bias f + bias f) → cond b (bias f - rnd f (bias f + bias f - z)) (bias f + rnd f (z - (bias f + bias f))) ≡ bias f + rnd f n
      go true x = absurd (omega (arith, x tt))
      go false x = ap (λ (k : ℕ). bias f + rnd f k) (omega arith)

pub srnd_mono : (f : Format) (y z : ℕ) → y ≤ z → srnd f y ≤ srnd f z
srnd_mono f y z h = go (leb y (bias f + bias f)) (leb z (bias f + bias f)) (leb→le y (bias f + bias f)) (nleb→lt y (bias f + bias f)) (leb→le z (bias f + bias f)) (nleb→lt z (bias f + bias f))
  where
    go : (a c : Bool) → (T a → y ≤ bias f + bias f) → (T (not a) → bias f + bias f < y) → (T c → z ≤ bias f + bias f) → (T (not c) → bias f + bias f < z) → srnd f y ≤ srnd f z
    go true true p p' q q' =
        omega (arith, srnd_below f y (bias f + bias f - y) (omega (arith, p tt)), srnd_below f z (bias f + bias f - z) (omega (arith, q tt)), rnd_mono f (bias f + bias f - z) (bias f + bias f - y) (omega arith))
    go true false p p' q q' =
        omega (arith, srnd_below f y (bias f + bias f - y) (omega (arith, p tt)), srnd_above f z (z - (bias f + bias f)) (omega (arith, q' tt)))
    go false true p p' q q' = absurd (omega (arith, p' tt, q tt))
    go false false p p' q q' =
        omega (arith, srnd_above f y (y - (bias f + bias f)) (omega (arith, p' tt)), srnd_above f z (z - (bias f + bias f)) (omega (arith, q' tt)), rnd_mono f (y - (bias f + bias f)) (z - (bias f + bias f)) (omega arith))

-- ---- the sum of two finite values
pub sum_is : (f : Format) (s : Bool) (a : ℕ) (t : Bool) (b c : ℕ)
    → sum f s a t b c ≡ cond (beq s t) (round f s (a + b) c) (cond (ltb a b) (round f t (b - a) c) (round f (s && ltb b a) (a - b) c))
unfolding sum
sum_is f s a t b c = refl

sum_key : (f : Format) (s t : Bool) (M N : ℕ) → M < bias f → N < bias f → key f (sum f s M t N (2 ^ low f)) ≡ srnd f (signed s (bias f) M + signed t (bias f) N)
sum_key f s t M N p q = ap (key f) (sum_is f s M t N (2 ^ low f)) ∙ go s t (ltb M N) (ltb N M) (ltb→lt M N) (nltb→le M N) (ltb→lt N M) (nltb→le N M)
  where
    go : (s t a b : Bool) → (T a → M < N) → (T (not a) → N ≤ M) → (T b → N < M) → (T (not b) → M ≤ N)
        → key f (cond (beq s t) (round f s (M + N) (2 ^ low f)) (cond a (round f t (N - M) (2 ^ low f)) (round f (s && b) (M - N) (2 ^ low f)))) ≡ srnd f (signed s (bias f) M + signed t (bias f) N)
    go false false a b w x y z = round_key f false (M + N) ∙ sym (srnd_above f (bias f + M + (bias f + N)) (M + N) (omega arith))
    go true true a b w x y z = round_key f true (M + N) ∙ sym (srnd_below f (bias f - M + (bias f - N)) (M + N) (omega arith))
    go false true true b w x y z = round_key f true (N - M) ∙ sym (srnd_below f (bias f + M + (bias f - N)) (N - M) (omega (arith, w tt)))
    go false true false b w x y z = round_key f false (M - N) ∙ sym (srnd_above f (bias f + M + (bias f - N)) (M - N) (omega (arith, x tt)))
    go true false true b w x y z = round_key f false (N - M) ∙ sym (srnd_above f (bias f - M + (bias f + N)) (N - M) (omega (arith, w tt)))
    go true false false true w x y z = round_key f true (M - N) ∙ sym (srnd_below f (bias f - M + (bias f + N)) (M - N) (omega (arith, x tt)))
    go true false false false w x y z = round_key f false (M - N) ∙ sym (srnd_above f (bias f - M + (bias f + N)) (M - N) (omega (arith, x tt, z tt)))

-- in units of the smallest value
units_sum : (f : Format) (x y : Float) (s t : Bool) (m n : ℕ) → Units f x s m → Units f y t n → add f x y ≡ sum f s m t n (2 ^ low f)
units_sum f nan y s t m n u v = absurd u.finite.is
units_sum f (inf a) y s t m n u v = absurd u.finite.is
units_sum f (fin a i e) nan s t m n u v = absurd v.finite.is
units_sum f (fin a i e) (inf b) s t m n u v = absurd v.finite.is
units_sum f (fin a i e) (fin b j d) s t m n u v =
    unfold add in
    sum_same (in_units f a b i j e d u.finite.is v.finite.is) f a b
    ∙ cc (u.minus, v.minus, units_mag f a s i m e u, units_mag f b t j n d v)

pub add_units : {f : Format} {x y : Float} {s t : Bool} {m n : ℕ} → Units f x s m → Units f y t n → add f x y ≡ sum f s m t n (2 ^ low f)
add_units {f} {x} {y} {s} {t} {m} {n} = units_sum f x y s t m n

sum_of : (f : Format) (x y : Float) → IsFin f x → IsFin f y → key f (add f x y) ≡ srnd f (key f x + key f y)
sum_of f nan y p q = absurd p
sum_of f (inf s) y p q = absurd p
sum_of f (fin s m e) nan p q = absurd q
sum_of f (fin s m e) (inf t) p q = absurd q
sum_of f (fin s m e) (fin t n d) p q = ap (key f) (add_units (fin_units f s m e p) (fin_units f t n d q)) ∙ sum_key f s t (mag f m e) (mag f n d) (mag_lt f s m e p) (mag_lt f t n d q)

pub add_key : {f : Format} {x y : Float} → Fin f x → Fin f y → key f (add f x y) ≡ srnd f (key f x + key f y)
add_key {f} {x} {y} p q = sum_of f x y p.is q.is

-- a value of the format is not rounded
fixed : (f : Format) (x : Float) → IsFin f x → srnd f (key f x + bias f) ≡ key f x
fixed f nan p = absurd p
fixed f (inf s) p = absurd p
fixed f (fin s m e) p = go s (mag_lt f s m e p)
  where
    r : (j : ℕ) × (mag f m e ≡ m * 2 ^ j) × (m < 2 ^ prec f)
    r = mag_pow f s m e p

    whole : mag f m e < bias f → rnd f (mag f m e) ≡ mag f m e
    whole l = subst (λ (n : ℕ). rnd f n ≡ n) (sym r.1) (rnd_exact f m r.0 r.2 (subst (λ (n : ℕ). n < bias f) r.1 l))

    go : (s : Bool) → mag f m e < bias f → srnd f (signed s (bias f) (mag f m e) + bias f) ≡ signed s (bias f) (mag f m e)
    go true l = omega (arith, whole l, srnd_below f (bias f - mag f m e + bias f) (mag f m e) (omega arith))
    go false l = omega (arith, whole l, srnd_above f (bias f + mag f m e + bias f) (mag f m e) (omega arith))

pub srnd_fix : {f : Format} {x : Float} → Fin f x → srnd f (key f x + bias f) ≡ key f x
srnd_fix {f} {x} p = fixed f x p.is
