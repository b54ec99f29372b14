-- The test `is64` passes exactly the values `at64 n` with n up to twice `mid`: what it counts is the number of 64ths.
use mathlib.Core.Path.{◌≡◌, refl, sym, ap, ◌∙◌, subst}
use mathlib.Core.Logic.{inl, inr}
use Prim.Native.Nat.{ℕ, zero, suc, ◌+◌, ◌-◌, ◌*◌, ◌/◌, ◌%◌, ◌^◌, ◌≤◌, ◌<◌}
use native.Mathlib.Nat.{zero-mul, add-zero, mul_comm, mul_assoc, mul_right_comm, mul-pos, mul-div_cancel, mul-mod_left, div-add-mod', eq_of_mul-eq-mul_right, eq-zero-or-pos}
use native.Mathlib.Omega.{arith}
use mathlib.Core.Bool.{Bool, true, false, not, ◌&&◌}
use lib.IntN.{ℤ, pos, negsuc, nat_abs, sub_ℕ}
use lib.Dec.{T, leb, eqb, leb→le, le→leb, eqb→eq, not_T, T_not}
use lib.Ieee.{Float, nan, inf, fin, binary32, up, down, fits}
use lib.Ieee.Fits.{up_pos, down_pos, and_l, and_r, and_i, eq→eqb}
use Rattle.f32_laws.specs.Numbers.{is64}
use Rattle.f32_laws.specs.Key.{mag, Units}
use Rattle.f32_laws.specs.Sixty.{minus?, g64, mid, at64, Of64}
use Rattle.f32_laws.proofs.Magnitude.{mag_val}
use Rattle.f32_laws.proofs.Keys.{fin_units, units_mag, same_units}
use Rattle.f32_laws.proofs.Exact64.{g64_is, g64_pos, in64_units}
use Rattle.f32_laws.proofs.Index64.{mid_is, at_pos, at_neg, bounded}

-- at the edges: 1 / 64 and 262,144 pass; 1 / 128, the next f32 above 262,144 and minus zero do not
pub is64_edges : (is64 (fin false 1 (negsuc 5)) ≡ true) × (is64 (fin false 1 (pos 18)) ≡ true) × (is64 (fin false 1 (negsuc 6)) ≡ false) × (is64 (fin false 8388609 (negsuc 4)) ≡ false) × (is64 (fin true 0 (pos 0)) ≡ false)
unfolding is64
is64_edges = (refl, refl, refl, refl, refl)

-- m * 2 ^ e is k / 64, in units and as a fraction
mag_64 : (s : Bool) (m k : ℕ) (e : ℤ) → T (fits binary32 (fin s m e)) → m * up e * 64 ≡ k * down e → mag binary32 m e ≡ k * g64 binary32
mag_64 s m k e p h =
    eq_of_mul-eq-mul_right (down e) (down_pos e) (mag binary32 m e) (k * g64 binary32)
    (mag_val binary32 s m e p ∙ ap (λ (z : ℕ). m * up e * z) (sym (g64_is binary32) ∙ mul_comm (g64 binary32) 64) ∙ sym (mul_assoc (m * up e) 64 (g64 binary32)) ∙ ap (λ (z : ℕ). z * g64 binary32) h ∙ mul_right_comm k (down e) (g64 binary32))

frac_64 : (s : Bool) (m k : ℕ) (e : ℤ) → T (fits binary32 (fin s m e)) → mag binary32 m e ≡ k * g64 binary32 → m * up e * 64 ≡ k * down e
frac_64 s m k e p h =
    eq_of_mul-eq-mul_right (g64 binary32) (g64_pos binary32) (m * up e * 64) (k * down e)
    (mul_assoc (m * up e) 64 (g64 binary32) ∙ ap (λ (z : ℕ). m * up e * z) (mul_comm 64 (g64 binary32) ∙ g64_is binary32) ∙ sym (mag_val binary32 s m e p) ∙ ap (λ (z : ℕ). z * down e) h ∙ mul_right_comm k (g64 binary32) (down e))

-- ---- what passes is a 64th
units_64 : (s : Bool) (m k : ℕ) (e : ℤ) → T (fits binary32 (fin s m e)) → m * up e * 64 ≡ k * down e → Units binary32 (fin s m e) s (k * g64 binary32)
units_64 s m k e p h = subst (Units binary32 (fin s m e) s) (mag_64 s m k e p h) (fin_units binary32 s m e p)

counted : (s : Bool) (m k : ℕ) (e : ℤ) → T (fits binary32 (fin s m e)) → m * up e * 64 ≡ k * down e → k ≤ mid → T (not (s && eqb m 0)) → Of64 (fin s m e)
counted false m k e p h b w = record {
  index = mid + k;
  bound = omega arith;
  is = same_units (units_64 false m k e p h) (in64_units binary32 (pos k) (omega (arith, mid_is))) ∙ sym (at_pos k);
}
counted true m zero e p h b w = absurd (elim (eq-zero-or-pos m) [
  | inl y ↦ T_not (eqb m 0) w (eq→eqb y)
  | inr y ↦ omega (arith, h, zero-mul (down e), mul-pos y (up_pos e))
])
counted true m (suc k) e p h b w = record {
  index = mid - suc k;
  bound = omega arith;
  is = same_units (units_64 true m (suc k) e p h) (in64_units binary32 (negsuc k) (omega (arith, mid_is))) ∙ sym (at_neg k b);
}

three : (a b c : Bool) → T (a && b && c) → T a × T b × T c
three true true true t = (tt, tt, tt)
three true true false t = absurd t
three true false c t = absurd t
three false b c t = absurd t

pub of64 : (x : Float) → T (fits binary32 x) → T (is64 x) → Of64 x
unfolding is64
of64 nan p t = absurd t
of64 (inf s) p t = absurd t
of64 (fin s m e) p t =
    let n = m * up e * 64 in
    let says = three (eqb (n % down e) 0) (leb (n / down e) (2 ^ 24)) (not (s && eqb m 0)) t in
    let left : n % down e ≡ 0 = eqb→eq (n % down e) 0 says.0 in
    let few : n / down e ≤ 2 ^ 24 = leb→le (n / down e) (2 ^ 24) says.1 in
    counted s m (n / down e) e p (sym (div-add-mod' n (down e)) ∙ ap (λ (z : ℕ). n / down e * down e + z) left ∙ add-zero (n / down e * down e)) (omega (arith, mid_is)) says.2

-- ---- and every 64th passes
passes : (x : Float) (s : Bool) (k : ℕ) → Units binary32 x s (k * g64 binary32) → k ≤ 2 ^ 24 → (T s → 0 < k) → T (is64 x)
unfolding is64
passes nan s k u h n = absurd u.finite.is
passes (inf t) s k u h n = absurd u.finite.is
passes (fin t m e) s k u h n =
    and_i (eqb (m * up e * 64 % down e) 0 && leb (m * up e * 64 / down e) (2 ^ 24)) (not (t && eqb m 0))
    (and_i (eqb (m * up e * 64 % down e) 0) (leb (m * up e * 64 / down e) (2 ^ 24)) (eq→eqb (ap (λ (z : ℕ). z % down e) y ∙ mul-mod_left k (down e))) (le→leb (m * up e * 64 / down e) (2 ^ 24) (omega (arith, q, h))))
    (not_T (t && eqb m 0) (λ w. zero_none (eqb→eq m 0 (and_r t (eqb m 0) w)) (n (subst T u.minus (and_l t (eqb m 0) w)))))
  where
    y : m * up e * 64 ≡ k * down e
    y = frac_64 t m k e u.finite.is (units_mag binary32 t s m (k * g64 binary32) e u)

    q : m * up e * 64 / down e ≡ k
    q = ap (λ (z : ℕ). z / down e) y ∙ mul-div_cancel k (down_pos e)

    zero_none : m ≡ 0 → 0 < k → ⊥
    zero_none z g = omega (arith, ap (λ (w : ℕ). w * up e) z, zero-mul (up e), mul-pos g (down_pos e), y)

pub at64_is64 : (n : ℕ) → n ≤ mid + mid → T (is64 (at64 n))
unfolding at64
at64_is64 n h = passes (at64 n) (minus? (sub_ℕ n mid)) (nat_abs (sub_ℕ n mid)) (in64_units binary32 (sub_ℕ n mid) (bounded n h)) (bounded n h) (below (sub_ℕ n mid))
  where
    below : (k : ℤ) → T (minus? k) → 0 < nat_abs k
    below (pos n) t = absurd t
    below (negsuc n) t = omega arith
