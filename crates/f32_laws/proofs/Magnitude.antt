-- The magnitude of a finite value in units of the format's smallest: a whole number below `bias`, with no more digits than the format keeps.
use mathlib.Core.Path.{◌≡◌, sym, ap, ◌∙◌, subst}
use Prim.Native.Nat.{ℕ, zero, suc, ◌+◌, ◌-◌, ◌*◌, ◌/◌, ◌%◌, ◌^◌, ◌≤◌, ◌<◌}
use native.Mathlib.Nat.{lt_of_not-le, not-le_of_lt, zero-mul, one-mul, mul-one, mul_comm, mul_assoc, mul_right_comm, mul-pos, mul-lt-mul_of_pos_right, lt_of_mul-lt-mul_right, mul-div_cancel, div-one}
use native.Mathlib.Omega.{arith}
use mathlib.Core.Bool.{Bool, ◌&&◌}
use lib.IntN.{ℤ, pos, negsuc}
use lib.Dec.{T, leb, ltb, eqb, leb→le, ltb→lt}
use lib.Pow.{pow-add, pow_pos, pow-lt}
use lib.Ieee.{fin, Format, prec, emax, low, up, down, fits}
use lib.Ieee.Digits.{back}
use lib.Ieee.Fits.{down_pos, and_l, and_r}
use Rattle.f32_laws.specs.Key.{bias, mag}
use Rattle.f32_laws.proofs.Fractions.{Ratio}

-- ---- what `fits` says of a value that is not zero
parts : (f : Format) (s : Bool) (m : ℕ) (e : ℤ) → T (fits f (fin s (suc m) e)) → (suc m < 2 ^ prec f) × (down e ≤ 2 ^ low f) × (suc m * up e < 2 ^ suc (emax f) * down e)
unfolding fits
parts f s m e t =
    let odd : Bool = eqb (suc m % 2) 1 in
    let digits : Bool = ltb (suc m) (2 ^ prec f) in
    let fine : Bool = leb (down e) (2 ^ low f) in
    let coarse : Bool = ltb (suc m * up e) (2 ^ suc (emax f) * down e) in (
      ltb→lt (suc m) (2 ^ prec f) (and_r odd digits (and_l (odd && digits) fine (and_l (odd && digits && fine) coarse t))),
      leb→le (down e) (2 ^ low f) (and_r (odd && digits) fine (and_l (odd && digits && fine) coarse t)),
      ltb→lt (suc m * up e) (2 ^ suc (emax f) * down e) (and_r (odd && digits && fine) coarse t),
    )

-- ---- the exponent in units: 2 ^ l over `down e` is a power of two, and nothing is left over
power : (k l : ℕ) → 2 ^ k ≤ 2 ^ l → 2 ^ l ≡ 2 ^ (l - k) * 2 ^ k
power k l h = ap (λ (x : ℕ). 2 ^ x) (sym (back l k (under (λ (g : suc l ≤ k). not-le_of_lt (pow-lt g) h)))) ∙ pow-add 2 (l - k) k
  where
    under : (suc l ≤ k → ⊥) → k ≤ l
    under n = omega (arith, lt_of_not-le n)

quotient : (k l : ℕ) → 2 ^ k ≤ 2 ^ l → 2 ^ l / 2 ^ k ≡ 2 ^ (l - k)
quotient k l h = ap (λ (x : ℕ). x / 2 ^ k) (power k l h) ∙ mul-div_cancel (2 ^ (l - k)) (pow_pos k)

divides : (l : ℕ) (e : ℤ) → down e ≤ 2 ^ l → 2 ^ l / down e * down e ≡ 2 ^ l
divides l (pos k) h = mul-one (2 ^ l / 1) ∙ div-one (2 ^ l)
divides l (negsuc k) h = ap (λ (x : ℕ). x * 2 ^ suc k) (quotient (suc k) l h) ∙ sym (power (suc k) l h)

scale : (l : ℕ) (e : ℤ) → down e ≤ 2 ^ l → (j : ℕ) × (up e * (2 ^ l / down e) ≡ 2 ^ j)
scale l (pos k) h = (k + l, ap (λ (x : ℕ). 2 ^ k * x) (div-one (2 ^ l)) ∙ sym (pow-add 2 k l))
scale l (negsuc k) h = (l - suc k, one-mul (2 ^ l / 2 ^ suc k) ∙ quotient (suc k) l h)

-- ---- the magnitude
pub bias_pos : (f : Format) → 0 < bias f
unfolding bias
bias_pos f = pow_pos (low f + suc (emax f))

pub mag_zero : (f : Format) (e : ℤ) → mag f 0 e ≡ 0
unfolding mag
mag_zero f e = simp zero-mul

-- m * 2 ^ e is `mag f m e` units
pub mag_val : (f : Format) (s : Bool) (m : ℕ) (e : ℤ) → T (fits f (fin s m e)) → mag f m e * down e ≡ m * up e * 2 ^ low f
mag_val f s zero e t = ap (λ (x : ℕ). x * down e) (mag_zero f e) ∙ nothing (up e) (down e) (2 ^ low f)
  where
    nothing : (u d l : ℕ) → 0 * d ≡ 0 * u * l
    nothing u d l = simp zero-mul
mag_val f s (suc m) e t = unfold mag in mul_assoc (suc m * up e) (2 ^ low f / down e) (down e) ∙ ap (λ (x : ℕ). suc m * up e * x) (divides (low f) e (parts f s m e t).1)

pub mag_lt : (f : Format) (s : Bool) (m : ℕ) (e : ℤ) → T (fits f (fin s m e)) → mag f m e < bias f
unfolding bias
mag_lt f s zero e t = omega (arith, mag_zero f e, bias_pos f)
mag_lt f s (suc m) e t =
    lt_of_mul-lt-mul_right (down e)
    (subst (λ (x : ℕ). x < bias f * down e) (sym (mag_val f s (suc m) e t))
    (subst (λ (x : ℕ). suc m * up e * 2 ^ low f < x)
    (mul_right_comm (2 ^ suc (emax f)) (down e) (2 ^ low f) ∙ ap (λ (x : ℕ). x * down e) (mul_comm (2 ^ suc (emax f)) (2 ^ low f) ∙ sym (pow-add 2 (low f) (suc (emax f)))))
    (mul-lt-mul_of_pos_right (parts f s m e t).2 (pow_pos (low f)))))

pub mag_pow : (f : Format) (s : Bool) (m : ℕ) (e : ℤ) → T (fits f (fin s m e)) → (j : ℕ) × (mag f m e ≡ m * 2 ^ j) × (m < 2 ^ prec f)
unfolding mag
mag_pow f s zero e t = (0, simp zero-mul, pow_pos (prec f))
mag_pow f s (suc m) e t =
    let r = scale (low f) e (parts f s m e t).1 in
    (r.0, mul_assoc (suc m) (up e) (2 ^ low f / down e) ∙ ap (λ (x : ℕ). suc m * x) r.1, (parts f s m e t).0)

-- two values over a common denominator, and in units
pub in_units : (f : Format) (s t : Bool) (m n : ℕ) (e d : ℤ) → T (fits f (fin s m e)) → T (fits f (fin t n d)) → Ratio (m * up e * down d) (n * up d * down e) (down e * down d) (mag f m e) (mag f n d) (2 ^ low f)
in_units f s t m n e d p q = record {
  old_pos = mul-pos (down_pos e) (down_pos d);
  new_pos = pow_pos (low f);
  first = crossed (m * up e) (mag f m e) (down e) (down d) (mag_val f s m e p);
  second = crossed (n * up d) (mag f n d) (down d) (down e) (mag_val f t n d q) ∙ ap (λ (z : ℕ). mag f n d * z) (mul_comm (down d) (down e));
}
  where
    crossed : (X M p q : ℕ) → M * p ≡ X * 2 ^ low f → X * q * 2 ^ low f ≡ M * (p * q)
    crossed X M p q h = mul_right_comm X q (2 ^ low f) ∙ ap (λ (z : ℕ). z * q) (sym h) ∙ mul_assoc M p q
