-- The numbers of a page by their keys; and a box that fits beside insets fits beside smaller ones, for sums and differences are monotone.
use mathlib.Core.Path.{◌≡◌}
use Prim.Native.Nat.{ℕ, ◌+◌, ◌≤◌, ◌<◌}
use native.Mathlib.Omega.{arith}
use mathlib.Core.Bool.{Bool, true, false, ◌||◌}
use lib.IntN.{pos}
use lib.Dec.{T, lit≤}
use lib.Ieee.{Float, inf, binary32, fits as fits_in, add, sub, le, eq}
use Rattle.f32_laws.specs.Numbers.{larger, zero+, tol}
use Rattle.f32_laws.specs.Key.{Num, Fin, key, bias, mag}
use Rattle.f32_laws.specs.Within.{u20}
use Rattle.f32_laws.proofs.Keys.{num, le→key, key→le, eq→key, key→eq, zero_fin, zero_key, fin_of_key}
use Rattle.f32_laws.proofs.Order.{trans_le}
use Rattle.f32_laws.proofs.Larger.{larger_num, larger_key}
use Rattle.f32_laws.proofs.Sums.{add_num, add_num', add_mono_l, add_mono_num, add_grows, sub_num, sub_anti_r}
use Rattle.f32_laws.proofs.Limits.{u20_twice}
use Rattle.f32_laws.proofs.Tolerance.{tol_fin}
use Rattle.float.specs.declared.FloatDirection.{FloatDirection}
use Rattle.float.specs.declared.fit.Ask.{Ask}
use Rattle.float.specs.Numbers.{farthest, in_reach}
use Rattle.float.specs.Bands.{on_side}
use Rattle.float.specs.Fit.{passes, placed_at, fits}
use Rattle.demands.proofs.Halves.{trail_half, lead_half, both_halves}

abbrev pub k : Float → ℕ
k x = key binary32 x

abbrev pub B : ℕ
B = bias binary32

-- 131,072 in units: no bottom, no far edge and no y goes further
abbrev pub far : ℕ
far = mag binary32 1 (pos 17)

far_u20 : far ≤ u20
unfolding mag u20
far_u20 = lit≤ tt

pub far_twice : far + far < B
far_twice = omega (arith, far_u20, u20_twice)

-- a number at most 131,072 either way
pub record Val (x : Float) : Type 0 where
  pub num : Num binary32 x
  pub low : B ≤ k x + far
  pub high : k x ≤ B + far

-- one that is at least 0
pub record Ins (x : Float) : Type 0 where
  pub num : Num binary32 x
  pub low : B ≤ k x
  pub high : k x ≤ B + far

-- a band's start may be minus infinity
pub record Top (x : Float) : Type 0 where
  pub num : Num binary32 x
  pub high : k x ≤ B + far

pub ins_val : {x : Float} → Ins x → Val x
ins_val p = record { num = p.num; low = omega arith; high = p.high }

pub val_top : {x : Float} → Val x → Top x
val_top p = record { num = p.num; high = p.high }

pub top_low : Top (inf true)
top_low = record { num = record { is = tt }; high = omega arith }

pub val_fin : {x : Float} → Val x → Fin binary32 x
val_fin p = fin_of_key p.num (omega (arith, far_twice, p.low)) (omega (arith, far_twice, p.high))

pub ins_fin : {x : Float} → Ins x → Fin binary32 x
ins_fin p = val_fin (ins_val p)

pub zero_k : k zero+ ≡ B
zero_k = zero_key binary32

pub ins_zero : Ins zero+
ins_zero = record { num = num (zero_fin binary32); low = omega (arith, zero_k); high = omega (arith, zero_k) }

-- what holds of both holds on either side
pub on_either {ℓ} : {A : Type ℓ} (P : A → Type 0) (r : FloatDirection) {x y : A} → P x → P y → P (on_side r x y)
on_either P FloatDirection.Left p q = p
on_either P FloatDirection.Right p q = q

-- ---- the larger of two
pub larger_ins : {x y : Float} → Ins x → Ins y → Ins (larger x y)
larger_ins p q = let e = larger_key p.num q.num in record { num = larger_num p.num q.num; low = omega arith; high = omega arith }

pub larger_top : {x y : Float} → Val x → Top y → Val (larger x y)
larger_top p q = let e = larger_key p.num q.num in record { num = larger_num p.num q.num; low = omega (arith, p.low); high = omega (arith, p.high, q.high) }

pub top_larger : {x y : Float} → Top x → Val y → Val (larger x y)
top_larger p q = let e = larger_key p.num q.num in record { num = larger_num p.num q.num; low = omega (arith, q.low); high = omega (arith, p.high, q.high) }

-- ---- sums
pub sum_num : {x y : Float} → Val x → Ins y → Num binary32 (add binary32 x y)
sum_num p q = add_num (val_fin p) (ins_fin q)

pub sum_grows : {x y : Float} → Val x → Ins y → k x ≤ k (add binary32 x y)
sum_grows p q = le→key p.num (sum_num p q) (add_grows (val_fin p) (ins_fin q) (key→le ins_zero.num q.num (omega (arith, zero_k, q.low))))

pub farthest_num : Num binary32 farthest
unfolding fits_in
farthest_num = record { is = tt }

-- a sum that refusal 6 lets pass
pub sum_val : {x y : Float} → Val x → Ins y → T (in_reach (add binary32 x y)) → Val (add binary32 x y)
unfolding in_reach
sum_val p q h = record { num = sum_num p q; low = omega (arith, p.low, sum_grows p q); high = le→key (sum_num p q) farthest_num h }

pub sum_ins : {x y : Float} → Ins x → Ins y → T (in_reach (add binary32 x y)) → Ins (add binary32 x y)
sum_ins p q h = let v = sum_val (ins_val p) q h in record { num = v.num; low = omega (arith, p.low, sum_grows (ins_val p) q); high = v.high }

-- ---- the fit test
or_map : (x y x' y' : Bool) → (T x → T x') → (T y → T y') → T (x || y) → T (x' || y')
or_map true y true y' f g h = tt
or_map true y false y' f g h = absurd (f tt)
or_map false y true y' f g h = tt
or_map false y false y' f g h = g h

pub or_right : (a b : Bool) → (T a → ⊥) → T (a || b) → T b
or_right true b n h = absurd (n tt)
or_right false b n h = h

-- one half of it: the inset and the bound may fall, and the far edge
passes_down : {i i' x x' g t t' : Float} → Ins i → Ins i' → Num binary32 x → Num binary32 x' → Ins g → Ins t → Ins t' → k i ≤ k i' → T (le x x') → k t ≤ k t' → T (passes i' x' g t') → T (passes i x g t)
unfolding passes
passes_down {i} {i'} {x} {x'} {g} {t} {t'} p p' n n' w q q' h o m =
    let room = add_num' (sub_num (ins_fin w) (ins_fin q)) tol_fin in
    let room' = add_num' (sub_num (ins_fin w) (ins_fin q')) tol_fin in
    let wide = add_mono_num (sub_num (ins_fin w) (ins_fin q')) (sub_num (ins_fin w) (ins_fin q)) tol_fin (sub_anti_r (ins_fin w) (ins_fin q') (ins_fin q) (key→le q.num q'.num m)) in
    or_map (eq i' zero+) (le x' (add binary32 (sub binary32 g t') tol)) (eq i zero+) (le x (add binary32 (sub binary32 g t) tol))
    (λ e. key→eq p.num ins_zero.num (omega (arith, eq→key p'.num ins_zero.num e, zero_k, p.low)))
    (λ z. trans_le n n' room o (trans_le n' room' room z wide))

module _ (a : Ask) (w : Ins a.width) (g : Ins a.page) (c : Ins a.cb_lead) (d : Ins a.cb_trail) {l t l' t' : Float} (p : Ins l) (q : Ins t) (p' : Ins l') (q' : Ins t') (h : k l ≤ k l') (i : k t ≤ k t') where
  pub fits_down : T (fits a l' t') → T (fits a l t)
  unfolding placed_at
  fits_down f =
      let v = larger_ins p c in
      let v' = larger_ins p' c in
      let n = sum_num (ins_val v) w in
      let n' = sum_num (ins_val v') w in
      let o = add_mono_l (ins_fin v) (ins_fin v') (ins_fin w) (key→le v.num v'.num (omega (arith, larger_key p.num c.num, larger_key p'.num c.num))) in
      both_halves a l t (passes_down q q' n n' g q q' i o i (trail_half a l' t' f)) (passes_down p p' n n' g d d h o (omega arith) (lead_half a l' t' f))
