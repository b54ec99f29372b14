-- Results stay finite: what lies between finite values is finite, and sums and differences within 2 ^ n are within 2 ^ (n + 1).
use mathlib.Core.Path.{◌≡◌, refl, sym, ap, ◌∙◌, subst}
use Prim.Native.Nat.{ℕ, suc, ◌+◌, ◌*◌, ◌/◌, ◌^◌, ◌≤◌, ◌<◌}
use native.Mathlib.Nat.{pow-suc, add-mul}
use native.Mathlib.Omega.{arith}
use mathlib.Core.Bool.{Bool, true, false}
use lib.IntN.{pos}
use lib.Dec.{T, ltb, lit<, lt→ltb}
use lib.Pow.{pow-lt}
use lib.Ieee.{Float, fin, Format, binary32, binary64, emax, low, le, fits, neg, add, sub}
use Rattle.f32_laws.specs.Key.{Num, Fin, bias, mag, signed, key}
use Rattle.f32_laws.specs.Within.{two, Within, u20}
use Rattle.f32_laws.proofs.Magnitude.{mag_lt}
use Rattle.f32_laws.proofs.Keys.{num, key_in, fin_of_key, le→key, key→le, neg_fin, neg_key}
use Rattle.f32_laws.proofs.Rounding.{srnd_mono, add_key, srnd_fix}
use Rattle.f32_laws.proofs.Sums.{add_num, sub_is}

pub between_fin : {f : Format} {l x h : Float} → Fin f l → Num f x → Fin f h → T (le l x) → T (le x h) → Fin f x
between_fin {f} {l} {x} {h} p q r a b = fin_of_key q (omega (arith, key_in f l p.is, le→key (num p) q a)) (omega (arith, key_in f h r.is, le→key q (num r) b))

-- ---- the powers of two
two_fin : (f : Format) (s : Bool) (n : ℕ) → n ≤ emax f → Fin f (two s n)
unfolding two fits
two_fin f s n h = record { is = go f h }
  where
    below_top : (k : ℕ) → n < k → T (ltb (1 * 2 ^ n) (2 ^ k * 1))
    below_top k l = lt→ltb (1 * 2 ^ n) (2 ^ k * 1) (omega (arith, pow-lt l))

    go : (f : Format) → n ≤ emax f → T (fits f (fin s 1 (pos n)))
    go binary32 h = below_top 128 (omega arith)
    go binary64 h = below_top 1024 (omega arith)

two_key : (f : Format) (s : Bool) (n : ℕ) → key f (two s n) ≡ signed s (bias f) (mag f 1 (pos n))
unfolding two
two_key f s n = refl

two_small : (f : Format) (n : ℕ) → n ≤ emax f → mag f 1 (pos n) < bias f
unfolding two
two_small f n h = mag_lt f false 1 (pos n) (two_fin f false n h).is

mag_double : (f : Format) (n : ℕ) → mag f 1 (pos (suc n)) ≡ mag f 1 (pos n) + mag f 1 (pos n)
unfolding mag
mag_double f n = ap (λ (z : ℕ). 1 * z * (2 ^ low f / 1)) (pow-suc 2 n) ∙ twice (2 ^ n) (2 ^ low f / 1)
  where
    twice : (a b : ℕ) → 1 * (a * 2) * b ≡ 1 * a * b + 1 * a * b
    twice a b = ap (λ (z : ℕ). z * b) (omega arith) ∙ add-mul (1 * a) (1 * a) b

-- ---- within 2 ^ n
module _ {f : Format} {n : ℕ} (h : n ≤ emax f) where
  pub within_of : {x : Float} → Num f x → T (le (two true n) x) → T (le x (two false n)) → Within f n x
  within_of q a b = record { finite = between_fin (two_fin f true n h) q (two_fin f false n h) a b; low = a; high = b }

  pub within_key : {x : Float} → Within f n x → (bias f ≤ key f x + mag f 1 (pos n)) × (key f x ≤ bias f + mag f 1 (pos n))
  within_key r = (
    omega (arith, two_key f true n, le→key (num (two_fin f true n h)) (num r.finite) r.low),
    omega (arith, two_key f false n, le→key (num r.finite) (num (two_fin f false n h)) r.high),
  )

  key_within : {x : Float} → Num f x → bias f ≤ key f x + mag f 1 (pos n) → key f x ≤ bias f + mag f 1 (pos n) → Within f n x
  key_within q a b = within_of q
      (key→le (num (two_fin f true n h)) q (omega (arith, two_key f true n)))
      (key→le q (num (two_fin f false n h)) (omega (arith, two_key f false n)))

  neg_within : {x : Float} → Within f n x → Within f n (neg x)
  neg_within r = let k = within_key r in key_within (num (neg_fin r.finite)) (omega (arith, k, neg_key (num r.finite))) (omega (arith, k, neg_key (num r.finite)))

module _ {f : Format} {n : ℕ} (h : n < emax f) where
  pub add_within : {x y : Float} → Within f n x → Within f n y → Within f (suc n) (add f x y)
  add_within {x} {y} r s =
      let a = within_key (omega arith) r in
      let b = within_key (omega arith) s in
      let d = mag_double f n in
      let l = two_small f (suc n) h in
      let e = add_key r.finite s.finite in
      let lo = two_key f true (suc n) in
      let hi = two_key f false (suc n) in
      key_within h (add_num r.finite s.finite)
      (omega (arith, srnd_fix (two_fin f true (suc n) h), srnd_mono f (key f (two true (suc n)) + bias f) (key f x + key f y) (omega arith)))
      (omega (arith, srnd_fix (two_fin f false (suc n) h), srnd_mono f (key f x + key f y) (key f (two false (suc n)) + bias f) (omega arith)))

  pub sub_within : {x y : Float} → Within f n x → Within f n y → Within f (suc n) (sub f x y)
  sub_within {x} {y} r s = subst (Within f (suc n)) (sym (sub_is f x y)) (add_within r (neg_within (omega arith) s))

-- ---- 2 ^ 20 in units
pub u20_is : mag binary32 1 (pos 20) ≡ u20
unfolding mag u20
u20_is = refl

pub u20_twice : u20 + u20 < bias binary32
unfolding bias u20
u20_twice = lit< tt
