-- An f32 as an f64 is the same value, with its units counted finer; so a sum of 64ths in f64 is exact.
use mathlib.Core.Path.{◌≡◌, refl, sym, ap, ap₂, ◌∙◌, subst}
use Prim.Native.Nat.{ℕ, ◌*◌, ◌^◌, ◌≤◌}
use native.Mathlib.Nat.{le_trans, mul_assoc, mul_right_comm, eq_of_mul-eq-mul_right}
use mathlib.Core.Bool.{Bool}
use lib.IntN.{ℤ, nat_abs, ◌+ℤ◌}
use lib.Dec.{T, lit≤}
use lib.Ieee.{Float, nan, inf, fin, binary32, binary64, prec, up, down, fits, add}
use lib.Ieee.Fits.{down_pos, fits_widens}
use Rattle.f32_laws.specs.Key.{IsFin, Fin, mag, Units}
use Rattle.f32_laws.specs.Sixty.{in64, minus?, g64}
use Rattle.f32_laws.proofs.Magnitude.{mag_val}
use Rattle.f32_laws.proofs.Keys.{fin_units, units_mag, same_units}
use Rattle.f32_laws.proofs.Exact64.{in64_units, add64}

fin_wide : (x : Float) → IsFin binary32 x → IsFin binary64 x
fin_wide nan p = p
fin_wide (inf s) p = p
fin_wide (fin s m e) p = fits_widens (fin s m e) p

pub wide_fin : {x : Float} → Fin binary32 x → Fin binary64 x
wide_fin {x} p = record { is = fin_wide x p.is }

-- a unit of f32 in units of f64
unfoldable finer : ℕ
finer = 2 ^ 925

mag_wide : (s : Bool) (m : ℕ) (e : ℤ) → T (fits binary32 (fin s m e)) → mag binary64 m e ≡ mag binary32 m e * finer
unfolding finer
mag_wide s m e p =
    eq_of_mul-eq-mul_right (down e) (down_pos e) (mag binary64 m e) (mag binary32 m e * finer)
    (mag_val binary64 s m e (fits_widens (fin s m e) p) ∙ sym (mul_assoc (m * up e) (2 ^ 149) (2 ^ 925)) ∙ ap (λ (z : ℕ). z * 2 ^ 925) (sym (mag_val binary32 s m e p)) ∙ mul_right_comm (mag binary32 m e) (down e) (2 ^ 925))

units_wide : (x : Float) (s : Bool) (n : ℕ) → Units binary32 x s n → Units binary64 x s (n * finer)
units_wide nan s n u = absurd u.finite.is
units_wide (inf t) s n u = absurd u.finite.is
units_wide (fin t m e) s n u =
    subst (λ (b : Bool). Units binary64 (fin t m e) b (n * finer)) u.minus
    (subst (Units binary64 (fin t m e) t) (mag_wide t m e u.finite.is ∙ ap (λ (z : ℕ). z * finer) (units_mag binary32 t s m n e u)) (fin_units binary64 t m e (fits_widens (fin t m e) u.finite.is)))

g64_wide : g64 binary32 * finer ≡ g64 binary64
unfolding g64 finer
g64_wide = refl

more : (n : ℕ) → n ≤ 2 ^ prec binary32 → n ≤ 2 ^ prec binary64
more n h = le_trans h (lit≤ tt)

pub wide64 : (k : ℤ) → nat_abs k ≤ 2 ^ prec binary32 → in64 binary32 k ≡ in64 binary64 k
wide64 k h =
    same_units
    (subst (Units binary64 (in64 binary32 k) (minus? k)) (mul_assoc (nat_abs k) (g64 binary32) finer ∙ ap (λ (z : ℕ). nat_abs k * z) g64_wide) (units_wide (in64 binary32 k) (minus? k) (nat_abs k * g64 binary32) (in64_units binary32 k h)))
    (in64_units binary64 k (more (nat_abs k) h))

pub add64_wide : (k l : ℤ) → nat_abs k ≤ 2 ^ prec binary32 → nat_abs l ≤ 2 ^ prec binary32 → add binary64 (in64 binary32 k) (in64 binary32 l) ≡ in64 binary64 (k +ℤ l)
add64_wide k l h g = ap₂ (add binary64) (wide64 k h) (wide64 l g) ∙ add64 binary64 k l (more (nat_abs k) h) (more (nat_abs l) g)
