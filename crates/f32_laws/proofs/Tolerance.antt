-- The tolerance 0.001 never decides a comparison of 64ths: it is below half a 64th, so a 64th within 131,072 plus 0.001 rounds to at most half a 64th more.
use mathlib.Core.Path.{◌≡◌, refl, sym, ap, ◌∙◌, subst}
use mathlib.Core.Logic.{inl, inr}
use Prim.Native.Nat.{ℕ, suc, ◌+◌, ◌-◌, ◌*◌, ◌^◌, ◌≤◌, ◌<◌}
use native.Mathlib.Nat.{le_of_lt, le_of_eq, lt_of_le_of_lt, eq-or-lt_of_le, le_of_suc-le-suc, mul-le-mul_right, lt_of_mul-lt-mul_right, add-mul, mul-add, suc-mul, one-mul}
use native.Mathlib.Omega.{arith}
use mathlib.Core.Bool.{Bool, true, false, not, not-not}
use lib.Dec.{T, leb, lit<, lit≤, leb→le, nleb→lt}
use lib.Ieee.{binary32, lt, le, fits, add, round, of_bits}
use Rattle.f32_laws.specs.Numbers.{tol}
use Rattle.f32_laws.specs.Key.{Fin, bias, mag, key}
use Rattle.f32_laws.specs.Round.{rnd, srnd}
use Rattle.f32_laws.specs.Sixty.{g64, mid, half, at64}
use Rattle.f32_laws.proofs.Tests.{leb_same}
use Rattle.f32_laws.proofs.Keys.{num, le_is}
use Rattle.f32_laws.proofs.Order.{not_lt_is}
use Rattle.f32_laws.proofs.Rounding.{rnd_exact, srnd_below, srnd_above, srnd_mono, add_key, srnd_fix}
use Rattle.f32_laws.proofs.Sums.{add_num}
use Rattle.f32_laws.proofs.Index64.{half_twice, mid_is, at64_fin, at64_key}

-- ---- 0.001 is finite, at least zero, and below half a 64th
pub tol_fin : Fin binary32 tol
unfolding tol fits
tol_fin = record { is = tt }

unfoldable h64 : ℕ
h64 = 2 ^ 142

h64_twice : h64 + h64 ≡ g64 binary32
unfolding h64 g64
h64_twice = refl

h64_pos : 0 < h64
unfolding h64
h64_pos = lit< tt

tol_key : (bias binary32 ≤ key binary32 tol) × (key binary32 tol ≤ bias binary32 + h64)
unfolding tol mag bias h64
tol_key = (lit≤ tt, lit≤ tt)

-- ---- its bits, and that no f32 is nearer to 1 / 1000
pub tol_bits : of_bits binary32 0x3A83126F ≡ tol
unfolding tol of_bits
tol_bits = refl

pub tol_nearest : round binary32 false 1 1000 ≡ tol
unfolding tol round
tol_nearest = refl

-- ---- so many halves of a 64th are not rounded up
exact : (q : ℕ) → q < 2 ^ 24 → rnd binary32 (q * h64) ≡ q * h64
unfolding h64
exact q h = rnd_exact binary32 q 142 h (lt_of_le_of_lt (mul-le-mul_right (2 ^ 142) (le_of_lt h)) room)
  where
    room : 2 ^ 24 * 2 ^ 142 < bias binary32
    room = unfold bias in lit< tt

last : rnd binary32 (2 ^ 24 * h64) ≤ 2 ^ 24 * h64
unfolding h64 rnd round mag bias
last = lit≤ tt

beyond : rnd binary32 ((2 ^ 24 + 1) * h64) ≤ (2 ^ 24 + 1) * h64
unfolding h64 rnd round mag bias
beyond = lit≤ tt

not_up : (q : ℕ) → q ≤ 2 ^ 24 + 1 → rnd binary32 (q * h64) ≤ q * h64
not_up q h = elim (eq-or-lt_of_le h) [
  | inl e ↦ subst (λ (z : ℕ). rnd binary32 (z * h64) ≤ z * h64) (sym e) beyond
  | inr l ↦ elim (eq-or-lt_of_le (le_of_suc-le-suc l)) [
    | inl e ↦ subst (λ (z : ℕ). rnd binary32 (z * h64) ≤ z * h64) (sym e) last
    | inr k ↦ le_of_eq (exact q k)
  ]
]

-- ---- half a 64th more, above zero and below
odd_up : (n : ℕ) → n * g64 binary32 + h64 ≡ (n + n + 1) * h64
odd_up n = omega (arith, ap (λ (z : ℕ). n * z) (sym h64_twice), mul-add n h64 h64, add-mul (n + n) 1 h64, add-mul n n h64, one-mul h64)

odd_down : (n : ℕ) → 0 < n → n * g64 binary32 ≡ (n + n - 1) * h64 + h64
odd_down n h =
    let r : n + n - 1 + 1 ≡ n + n = omega arith in
    omega (arith, ap (λ (z : ℕ). n * z) (sym h64_twice), mul-add n h64 h64, add-mul (n + n - 1) 1 h64, ap (λ (z : ℕ). z * h64) r, add-mul n n h64, one-mul h64)

half_more : (b : ℕ) → mid ≤ b + half → b ≤ mid + half → srnd binary32 (key binary32 (at64 b) + (bias binary32 + h64)) ≤ key binary32 (at64 b) + h64
half_more b h k = go (leb mid b) (leb→le mid b) (nleb→lt mid b)
  where
    e : key binary32 (at64 b) + mid * g64 binary32 ≡ bias binary32 + b * g64 binary32
    e = at64_key b (omega (arith, half_twice, mid_is))

    go : (x : Bool) → (T x → mid ≤ b) → (T (not x) → b < mid) → srnd binary32 (key binary32 (at64 b) + (bias binary32 + h64)) ≤ key binary32 (at64 b) + h64
    go true p p' =
        let n = b - mid in
        let r : n + mid ≡ b = omega (arith, p tt) in
        let s : n * g64 binary32 + mid * g64 binary32 ≡ b * g64 binary32 = sym (add-mul n mid (g64 binary32)) ∙ ap (λ (z : ℕ). z * g64 binary32) r in
        omega (arith, srnd_above binary32 (key binary32 (at64 b) + (bias binary32 + h64)) ((n + n + 1) * h64) (omega (arith, e, s, odd_up n)), not_up (n + n + 1) (omega (arith, half_twice)), odd_up n, e, s)
    go false p p' =
        let n = mid - b in
        let r : n + b ≡ mid = omega (arith, p' tt) in
        let s : n * g64 binary32 + b * g64 binary32 ≡ mid * g64 binary32 = sym (add-mul n b (g64 binary32)) ∙ ap (λ (z : ℕ). z * g64 binary32) r in
        let q : 0 < n = omega (arith, p' tt) in
        omega (arith, srnd_below binary32 (key binary32 (at64 b) + (bias binary32 + h64)) ((n + n - 1) * h64) (omega (arith, e, s, odd_down n q)), exact (n + n - 1) (omega (arith, half_twice)), odd_down n q, e, s)

-- ---- for a 64th v within 131,072 and any 64th u
module _ (a b : ℕ) (h : a ≤ mid + mid) (k : mid ≤ b + half) (l : b ≤ mid + half) where
  -- u <= v + 0.001 exactly where u <= v
  pub tol_le : le (at64 a) (add binary32 (at64 b) tol) ≡ le (at64 a) (at64 b)
  tol_le =
      let u = at64_fin a h in
      let v = at64_fin b (omega (arith, half_twice, mid_is)) in
      let ku = at64_key a h in
      let kv = at64_key b (omega (arith, half_twice, mid_is)) in
      let s = add_key v tol_fin in
      let lo : key binary32 (at64 b) ≤ key binary32 (add binary32 (at64 b) tol) =
      omega (arith, s, srnd_fix v, srnd_mono binary32 (key binary32 (at64 b) + bias binary32) (key binary32 (at64 b) + key binary32 tol) (omega (arith, tol_key))) in
      let hi : key binary32 (add binary32 (at64 b) tol) ≤ key binary32 (at64 b) + h64 =
      omega (arith, s, half_more b k l, srnd_mono binary32 (key binary32 (at64 b) + key binary32 tol) (key binary32 (at64 b) + (bias binary32 + h64)) (omega (arith, tol_key))) in
      le_is (num u) (add_num v tol_fin)
      ∙ leb_same (key binary32 (at64 a)) (key binary32 (add binary32 (at64 b) tol)) (key binary32 (at64 a)) (key binary32 (at64 b))
      (λ w. let x : a * g64 binary32 < suc b * g64 binary32 = omega (arith, w, hi, ku, kv, h64_twice, h64_pos, suc-mul b (g64 binary32)) in
      omega (arith, ku, kv, mul-le-mul_right (g64 binary32) (le_of_suc-le-suc (lt_of_mul-lt-mul_right (g64 binary32) x))))
      (λ w. omega (arith, w, lo))
      ∙ sym (le_is (num u) (num v))

  -- v + 0.001 < u exactly where v < u
  pub tol_lt : lt (add binary32 (at64 b) tol) (at64 a) ≡ lt (at64 b) (at64 a)
  tol_lt =
      let u = num (at64_fin a h) in
      let v = at64_fin b (omega (arith, half_twice, mid_is)) in
      sym (not-not (lt (add binary32 (at64 b) tol) (at64 a)))
      ∙ ap not (not_lt_is (add_num v tol_fin) u ∙ tol_le ∙ sym (not_lt_is (num v) u))
      ∙ not-not (lt (at64 b) (at64 a))
