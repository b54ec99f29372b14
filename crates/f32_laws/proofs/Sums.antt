-- Sums and differences are monotone in each argument, since rounding is; and adding what is not negative never makes less.
use mathlib.Core.Path.{◌≡◌, refl, sym, ap, subst}
use Prim.Native.Nat.{ℕ, ◌+◌, ◌-◌, ◌*◌, ◌≤◌}
use native.Mathlib.Omega.{arith}
use mathlib.Core.Bool.{Bool, true, false, ◌&&◌, cond, beq}
use lib.Dec.{T, ltb}
use lib.Ieee.{Float, nan, inf, fin, Format, up, down, le, neg, add, sub, sum}
use Rattle.f32_laws.specs.Numbers.{zero+}
use Rattle.f32_laws.specs.Key.{IsNum, IsFin, Num, Fin, bias, key}
use Rattle.f32_laws.proofs.Magnitude.{bias_pos}
use Rattle.f32_laws.proofs.Keys.{num, key_in, key_top, zero_fin, zero_key, le→key, key→le, neg_fin, neg_key}
use Rattle.f32_laws.proofs.Order.{refl_le}
use Rattle.f32_laws.proofs.Rounding.{round_num, srnd_mono, sum_is, add_key, srnd_fix}

-- ---- no sum with a finite value is a NaN
sum_num : (f : Format) (s : Bool) (a : ℕ) (t : Bool) (b c : ℕ) → Num f (sum f s a t b c)
sum_num f s a t b c = subst (Num f) (sym (sum_is f s a t b c)) (either (beq s t) (round_num f s (a + b) c) (either (ltb a b) (round_num f t (b - a) c) (round_num f (s && ltb b a) (a - b) c)))
  where
    either : {x y : Float} (b : Bool) → Num f x → Num f y → Num f (cond b x y)
    either true p q = p
    either false p q = q

add_inf : (f : Format) (s : Bool) (c : Float) → IsFin f c → add f (inf s) c ≡ inf s
unfolding add
add_inf f s nan r = absurd r
add_inf f s (inf t) r = absurd r
add_inf f s (fin t n d) r = refl

real : (f : Format) (x y : Float) → IsNum f x → IsFin f y → IsNum f (add f x y)
real f nan y p q = absurd p
real f (inf s) y p q = subst (IsNum f) (sym (add_inf f s y q)) tt
real f (fin s m e) nan p q = absurd q
real f (fin s m e) (inf t) p q = absurd q
real f (fin s m e) (fin t n d) p q = unfold add in (sum_num f s (m * up e * down d) t (n * up d * down e) (down e * down d)).is

-- where the first may be an infinity
pub add_num' : {f : Format} {x y : Float} → Num f x → Fin f y → Num f (add f x y)
add_num' {f} {x} {y} p q = record { is = real f x y p.is q.is }

pub add_num : {f : Format} {x y : Float} → Fin f x → Fin f y → Num f (add f x y)
add_num p q = add_num' (num p) q

-- ---- the sum
pub add_mono : {f : Format} {a b c d : Float} → Fin f a → Fin f b → Fin f c → Fin f d → T (le a b) → T (le c d) → T (le (add f a c) (add f b d))
add_mono {f} {a} {b} {c} {d} p q r s h k =
    key→le (add_num p r) (add_num q s)
    (omega (arith, add_key p r, add_key q s, srnd_mono f (key f a + key f c) (key f b + key f d) (omega (arith, le→key (num p) (num q) h, le→key (num r) (num s) k))))

pub add_mono_l : {f : Format} {a b c : Float} → Fin f a → Fin f b → Fin f c → T (le a b) → T (le (add f a c) (add f b c))
add_mono_l p q r h = add_mono p q r r h (refl_le (num r))

pub add_grows : {f : Format} {a w : Float} → Fin f a → Fin f w → T (le zero+ w) → T (le a (add f a w))
add_grows {f} {a} {w} p q h =
    key→le (num p) (add_num p q)
    (omega (arith, add_key p q, srnd_fix p, srnd_mono f (key f a + bias f) (key f a + key f w) (omega (arith, zero_key f, le→key (num (zero_fin f)) (num q) h))))

-- ---- the difference
pub sub_is : (f : Format) (x y : Float) → sub f x y ≡ add f x (neg y)
unfolding sub
sub_is f x y = refl

pub sub_num : {f : Format} {x y : Float} → Fin f x → Fin f y → Num f (sub f x y)
sub_num {f} {x} {y} p q = subst (Num f) (sym (sub_is f x y)) (add_num p (neg_fin q))

pub sub_mono : {f : Format} {a b c d : Float} → Fin f a → Fin f b → Fin f c → Fin f d → T (le a b) → T (le d c) → T (le (sub f a c) (sub f b d))
unfolding sub
sub_mono p q r s h k =
    add_mono p q (neg_fin r) (neg_fin s) h
    (key→le (num (neg_fin r)) (num (neg_fin s)) (omega (arith, le→key (num s) (num r) k, neg_key (num r), neg_key (num s))))

pub sub_anti_r : {f : Format} {a c d : Float} → Fin f a → Fin f c → Fin f d → T (le d c) → T (le (sub f a c) (sub f a d))
sub_anti_r p r s k = sub_mono p p r s (refl_le (num p)) k

-- ---- the sum where its first argument may be an infinity
mono_inf : (f : Format) (a b c : Float) → IsNum f a → IsNum f b → (r : Fin f c) → key f a ≤ key f b → key f (add f a c) ≤ key f (add f b c)
mono_inf f nan b c p q r h = absurd p
mono_inf f (inf true) b c p q r h = omega (arith, ap (key f) (add_inf f true c r.is))
mono_inf f (inf false) nan c p q r h = absurd q
mono_inf f (inf false) (inf true) c p q r h = absurd (omega (arith, bias_pos f))
mono_inf f (inf false) (inf false) c p q r h = omega arith
mono_inf f (inf false) (fin t n d) c p q r h = absurd (omega (arith, key_in f (fin t n d) q))
mono_inf f (fin s m e) nan c p q r h = absurd q
mono_inf f (fin s m e) (inf true) c p q r h = absurd (omega (arith, key_in f (fin s m e) p))
mono_inf f (fin s m e) (inf false) c p q r h =
    let x : Fin f (fin s m e) = record { is = p } in
    omega (arith, ap (key f) (add_inf f false c r.is), key_top (add_num x r))
mono_inf f (fin s m e) (fin t n d) c p q r h =
    let x : Fin f (fin s m e) = record { is = p } in
    let y : Fin f (fin t n d) = record { is = q } in
    omega (arith, add_key x r, add_key y r, srnd_mono f (key f (fin s m e) + key f c) (key f (fin t n d) + key f c) (omega arith))

pub add_mono_num : {f : Format} {a b c : Float} → Num f a → Num f b → Fin f c → T (le a b) → T (le (add f a c) (add f b c))
add_mono_num {f} {a} {b} {c} p q r h = key→le (add_num' p r) (add_num' q r) (mono_inf f a b c p.is q.is r (le→key p q h))
