-- Whole 64ths, at most 131,072 either way: sums and differences lose nothing, and 0.001 decides nothing.
use mathlib.Core.Path.{◌≡◌, refl, sym, ap, ap₂, ◌∙◌, subst}
use mathlib.Core.Logic.{◌⊎◌, inl, inr}
use Prim.Native.Nat.{ℕ, ◌+◌, ◌-◌, ◌*◌, ◌^◌, ◌≤◌, ◌<◌}
use native.Mathlib.Nat.{le_of_mul-le-mul_right}
use native.Mathlib.Omega.{arith}
use mathlib.Core.Bool.{Bool, ◌&&◌, ◌||◌}
use lib.IntN.{pos}
use lib.Dec.{T, leb→le}
use lib.Ieee.{Float, binary32, binary64, add, sub, le, eq}
use Rattle.f32_laws.specs.Numbers.{larger, zero+, tol}
use Rattle.f32_laws.specs.Key.{Fin, mag}
use Rattle.f32_laws.specs.Sixty.{in64, g64, mid, half, at64}
use Rattle.f32_laws.proofs.Keys.{le→key, eq→key}
use Rattle.f32_laws.proofs.Larger.{larger_one}
use Rattle.f32_laws.proofs.Sums.{sub_num}
use Rattle.f32_laws.proofs.Exact64.{g64_pos, add64, le64}
use Rattle.f32_laws.proofs.Index64.{at64_fin, at64_add, at64_sub, at64_zero, half_twice, mid_is, at64_key, at_pos}
use Rattle.f32_laws.proofs.Tolerance.{tol_le}
use Rattle.f32_laws.proofs.Wide.{wide64}
use Rattle.float.specs.declared.fit.Ask.{Ask}
use Rattle.float.specs.Numbers.{in_reach}
use Rattle.float.specs.Fit.{passes, placed_at, fits}
use Rattle.demands.specs.Runs.{passes_exactly, fits_exactly}
use Rattle.demands.proofs.Halves.{trail_half, lead_half}
use Rattle.demands.proofs.Laws.{k, B, Val, Ins, ins_val, ins_fin, ins_zero, zero_k, larger_ins, sum_num, farthest_num, or_right}
use Rattle.demands.proofs.Seek.{Asked}

abbrev pub g : ℕ
g = g64 binary32

pub record Q (x : Float) : Type 0 where
  pub n : ℕ
  pub is : x ≡ at64 n
  pub low : mid ≤ n + half
  pub high : n ≤ mid + half

pub two : half + half ≡ mid
two = half_twice ∙ sym mid_is

pub q_key : {x : Float} (p : Q x) → k x + mid * g ≡ B + p.n * g
q_key p = ap (λ (z : Float). k z + mid * g) p.is ∙ at64_key p.n (omega (arith, p.high, two))

pub cancel : (a b : ℕ) → a * g ≤ b * g → a ≤ b
cancel a b h = le_of_mul-le-mul_right h (g64_pos binary32)

pub q_zero : Q zero+
q_zero = record { n = mid; is = sym at64_zero; low = omega arith; high = omega arith }

pub q_larger : {x y : Float} → Q x → Q y → Q (larger x y)
q_larger {x} {y} p q = go (larger_one x y)
  where
    go : (larger x y ≡ x) ⊎ (larger x y ≡ y) → Q (larger x y)
    go (inl e) = subst Q (sym e) p
    go (inr e) = subst Q (sym e) q

-- not negative: the index is not below the middle
pub q_up : {x : Float} (p : Q x) → B ≤ k x → mid ≤ p.n
q_up p h = cancel mid p.n (omega (arith, q_key p))

-- ---- sums
module _ {x y : Float} (p : Q x) (q : Q y) where
  pub sum_at : add binary32 x y ≡ at64 (p.n + q.n - mid)
  sum_at = ap₂ (add binary32) p.is q.is ∙ at64_add p.n q.n (p.n + q.n - mid) (omega (arith, p.high, two)) (omega (arith, q.high, two)) (omega (arith, p.low, q.low, two))

  pub sum_exact : k (add binary32 x y) + B ≡ k x + k y
  sum_exact =
      let m = p.n + q.n - mid in
      let e : m + mid ≡ p.n + q.n = omega (arith, p.low, q.low, two) in
      omega (arith, ap k sum_at, at64_key m (omega (arith, p.high, q.high, two)), q_key p, q_key q, ap (λ (z : ℕ). z * g) e)

  pub diff_at : sub binary32 x y ≡ at64 (p.n + mid - q.n)
  diff_at = ap₂ (sub binary32) p.is q.is ∙ at64_sub p.n q.n (p.n + mid - q.n) (omega (arith, p.high, two)) (omega (arith, q.high, two)) (omega (arith, p.low, q.high, two))

  pub diff_exact : k (sub binary32 x y) + k y ≡ k x + B
  diff_exact =
      let m = p.n + mid - q.n in
      let e : m + q.n ≡ p.n + mid = omega (arith, p.low, q.high, two) in
      omega (arith, ap k diff_at, at64_key m (omega (arith, p.high, q.low, two)), q_key p, q_key q, ap (λ (z : ℕ). z * g) e)

farthest_mag : mag binary32 1 (pos 17) ≡ half * g
unfolding mag half g64
farthest_mag = refl

pub q_sum : {x y : Float} → Q x → Q y → Val x → Ins y → T (in_reach (add binary32 x y)) → Q (add binary32 x y)
unfolding in_reach
q_sum p q v w t =
    let e = sum_exact p q in
    let h : p.n + q.n - mid ≤ mid + half = cancel (p.n + q.n - mid) (mid + half)
    (let m = p.n + q.n - mid in omega (arith, ap k (sum_at p q), at64_key m (omega (arith, p.high, q.high, two)), le→key (sum_num v w) farthest_num t, farthest_mag)) in
    record { n = p.n + q.n - mid; is = sum_at p q; low = omega (arith, p.low, q_up q w.low); high = h }

-- ---- the 0.001
-- what is asked of a place, in 64ths
pub record Ask64 (a : Ask) : Type 0 where
  pub asked : Asked a
  pub width : Q a.width
  pub height : Q a.height
  pub page : Q a.page
  pub cb_lead : Q a.cb_lead
  pub cb_trail : Q a.cb_trail

-- x + w against page - t: the tolerance decides nothing
module _ {x w m t : Float} (p : Q x) (q : Q w) (r : Q m) (s : Q t) (m' : Ins m) (t' : Ins t) where
  idle : le (add binary32 x w) (add binary32 (sub binary32 m t) tol) ≡ le (add binary32 x w) (sub binary32 m t)
  idle =
      let a = p.n + q.n - mid in
      let b = r.n + mid - s.n in
      ap₂ (λ (u v : Float). le u (add binary32 v tol)) (sum_at p q) (diff_at r s)
      ∙ tol_le a b (omega (arith, p.high, q.high, two)) (omega (arith, q_up r m'.low, s.high)) (omega (arith, r.high, q_up s t'.low))
      ∙ sym (ap₂ le (sum_at p q) (diff_at r s))

  passes_idle : (i : Float) → passes i (add binary32 x w) m t ≡ passes_exactly i (add binary32 x w) m t
  unfolding passes
  passes_idle i = ap (λ (z : Bool). eq i zero+ || z) idle

  -- what a passed half says, where the inset is not zero
  passes_exact : {i : Float} → Ins i → Ins x → Ins w → B < k i → T (passes i (add binary32 x w) m t) → k x + k w + k t ≤ k m + (B + B)
  passes_exact {i} v x' w' h f =
      let l = le→key (sum_num (ins_val x') w') (sub_num (ins_fin m') (ins_fin t')) (or_right (eq i zero+) (le (add binary32 x w) (sub binary32 m t)) (λ e. omega (arith, eq→key v.num ins_zero.num e, zero_k)) (subst T (passes_idle i) f)) in
      omega (arith, l, sum_exact p q, diff_exact r s)

module _ (a : Ask) (q : Ask64 a) {l t : Float} (lq : Q l) (tq : Q t) (l' : Ins l) (t' : Ins t) where
  pub fits_idle : fits a l t ≡ fits_exactly a l t
  unfolding fits placed_at
  fits_idle = ap₂ ◌&&◌ (passes_idle (q_larger lq q.cb_lead) q.width q.page tq q.asked.page t' t) (passes_idle (q_larger lq q.cb_lead) q.width q.page q.cb_trail q.asked.page q.asked.cb_trail l)

  pub fit_trail : T (fits a l t) → B < k t → k (placed_at a l) + k a.width + k t ≤ k a.page + (B + B)
  unfolding placed_at
  fit_trail f h =
      passes_exact (q_larger lq q.cb_lead) q.width q.page tq q.asked.page t' t' (larger_ins l' q.asked.cb_lead) q.asked.width h (trail_half a l t f)

  pub fit_lead : T (fits a l t) → B < k l → k (placed_at a l) + k a.width + k a.cb_trail ≤ k a.page + (B + B)
  unfolding placed_at
  fit_lead f h =
      passes_exact (q_larger lq q.cb_lead) q.width q.page q.cb_trail q.asked.page q.asked.cb_trail l' (larger_ins l' q.asked.cb_lead) q.asked.width h (lead_half a l t f)

-- ---- a difference that is not negative, as a count of 64ths in f64
pub diff_count : {x y : Float} → Q x → Q y → k y ≤ k x → (d : ℕ) × (sub binary32 x y ≡ in64 binary64 (pos d)) × (d * g + k y ≡ k x) × (d ≤ 2 ^ 24)
diff_count p q h =
    let o : q.n ≤ p.n = cancel q.n p.n (omega (arith, q_key p, q_key q)) in
    let d = p.n - q.n in
    let b : d ≤ 2 ^ 24 = omega (arith, p.high, q.low, half_twice) in
    let e : d + q.n ≡ p.n = omega arith in
    (d, diff_at p q ∙ ap at64 (omega arith) ∙ at_pos d ∙ wide64 (pos d) b, omega (arith, q_key p, q_key q, ap (λ (z : ℕ). z * g) e), b)

-- a number that is not negative, as a count of 64ths in f64
pub count_of : {x : Float} → Q x → B ≤ k x → (d : ℕ) × (x ≡ in64 binary64 (pos d)) × (k x ≡ B + d * g) × (d ≤ 2 ^ 24)
count_of p h =
    let o = q_up p h in
    let d = p.n - mid in
    let b : d ≤ 2 ^ 24 = omega (arith, p.high, half_twice) in
    let e : mid + d ≡ p.n = omega arith in
    (d, p.is ∙ ap at64 (sym e) ∙ at_pos d ∙ wide64 (pos d) b, omega (arith, q_key p, ap (λ (z : ℕ). z * g) e), b)

pub count_add : (m d : ℕ) → m ≤ 2 ^ 25 → d ≤ 2 ^ 24 → add binary64 (in64 binary64 (pos m)) (in64 binary64 (pos d)) ≡ in64 binary64 (pos (m + d))
count_add m d h h' = add64 binary64 (pos m) (pos d) (omega arith) (omega arith)

pub count_le : (m d : ℕ) → m ≤ 2 ^ 25 → d ≤ 2 ^ 25 → T (le (in64 binary64 (pos m)) (in64 binary64 (pos d))) → m ≤ d
count_le m d h h' t = leb→le m d (subst T (le64 binary64 (pos m) (pos d) (omega arith) (omega arith)) t)

-- a difference of two that are not negative
unfoldable pub q_diff : {x y : Float} → Q x → Q y → Ins x → Ins y → Q (sub binary32 x y)
q_diff p q v w = record { n = p.n + mid - q.n; is = diff_at p q; low = omega (arith, q_up p v.low, q.high); high = omega (arith, p.high, q_up q w.low) }

pub q_fin : {x : Float} → Q x → Fin binary32 x
q_fin p = subst (Fin binary32) (sym p.is) (at64_fin p.n (omega (arith, p.high, two)))
