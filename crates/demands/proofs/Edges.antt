-- Boxes that are clear of each other, said with their edges: the answer x is a whole number of 64ths, and so are its sums.
use mathlib.Core.Path.{◌≡◌, sym, ap, ap₂, ◌∙◌, subst}
use Prim.Native.Nat.{suc, ◌+◌, ◌-◌, ◌^◌, ◌≤◌, ◌<◌}
use native.Mathlib.Omega.{arith}
use mathlib.Core.Bool.{Bool, true, false, not, ◌&&◌}
use lib.IntN.{ℤ, pos, negsuc, nat_abs, sub_ℕ, ◌+ℤ◌}
use lib.Dec.{T, ltb, ltb→lt, not_T}
use lib.Ieee.{Float, binary32, add, sub, lt, le}
use lib.Ieee.Fits.{and_l, and_r}
use Rattle.f32_laws.specs.Numbers.{larger, zero+}
use Rattle.f32_laws.specs.Sixty.{mid, half, at64}
use Rattle.f32_laws.proofs.Tests.{both}
use Rattle.f32_laws.proofs.Keys.{num, lt→key, key→le}
use Rattle.f32_laws.proofs.Larger.{larger_num, larger_key}
use Rattle.f32_laws.proofs.Sums.{add_num, sub_num}
use Rattle.f32_laws.proofs.Exact64.{add64}
use Rattle.f32_laws.proofs.Index64.{at64_key, half_twice}
use Rattle.float.specs.declared.FloatDirection.{FloatDirection}
use Rattle.float.specs.Bands.{on_side, same_side}
use Rattle.demands.specs.Runs.{Accepted, side_in, containing_trail, x_from, bottom, right_edge, far_inset, ExactSum, sized, share_height, overlap}
use Rattle.demands.proofs.Laws.{k, B, Ins, ins_fin, ins_zero, ins_val, zero_k, sum_num}
use Rattle.demands.proofs.Exact.{two, Q, q_key, q_up, q_fin, q_diff, sum_at, sum_exact, diff_at, diff_exact, cancel}
use Rattle.demands.proofs.Apart.{Clear, Beside, Box64}

-- ---- exact sums
nat_abs_plus : (j k : ℤ) → nat_abs (j +ℤ k) ≤ nat_abs j + nat_abs k
nat_abs_plus (pos a) (pos b) = omega arith
nat_abs_plus (pos a) (negsuc b) = both (λ z. nat_abs z ≤ a + suc b) (ltb a (suc b)) (λ t. omega arith) (λ t. omega arith)
nat_abs_plus (negsuc a) (pos b) = both (λ z. nat_abs z ≤ suc a + b) (ltb b (suc a)) (λ t. omega arith) (λ t. omega arith)
nat_abs_plus (negsuc a) (negsuc b) = omega arith

-- at most 131,072 either way is at most 2 ^ 23 of them
q_short : {x : Float} (p : Q x) → nat_abs (sub_ℕ p.n mid) ≤ half
q_short p = both (λ z. nat_abs z ≤ half) (ltb p.n mid) (λ t. omega (arith, ltb→lt p.n mid t, p.low)) (λ t. omega (arith, p.high))

pub exact_sum : {x y : Float} → Q x → Q y → ExactSum x y (add binary32 x y)
unfolding at64
exact_sum p q =
    let i = q_short p in
    let o = q_short q in
    let s = nat_abs_plus (sub_ℕ p.n mid) (sub_ℕ q.n mid) in
    let j : nat_abs (sub_ℕ p.n mid) ≤ 2 ^ 24 = omega (arith, half_twice) in
    let k : nat_abs (sub_ℕ q.n mid) ≤ 2 ^ 24 = omega (arith, half_twice) in
    record {
      j = sub_ℕ p.n mid;
      k = sub_ℕ q.n mid;
      first = (p.is, j);
      second = (q.is, k);
      sum = (ap₂ (add binary32) p.is q.is ∙ add64 binary32 (sub_ℕ p.n mid) (sub_ℕ q.n mid) j k, omega (arith, half_twice));
    }

-- page width - inset - width, where inset + width is in reach
twice_off : {w i x : Float} → Q w → Ins w → Q i → Ins i → Q x → Ins x → Q (add binary32 i x) → Q (sub binary32 (sub binary32 w i) x)
unfolding q_diff
twice_off p p' q q' r r' s =
    let d = q_diff p q p' q' in
    let m = q.n + r.n - mid in
    let o : m ≤ s.n = cancel m s.n (omega (arith, ap k (sum_at q r), at64_key m (omega (arith, q.high, r.high, two)), q_key s)) in
    record { n = d.n + mid - r.n; is = diff_at d r; low = omega (arith, o, s.high, q_up p p'.low, q_up q q'.low, q.high); high = omega (arith, d.high, q_up r r'.low) }

-- where the answer x lies, exactly
abbrev XAt : FloatDirection → Float → Accepted → Type 0
XAt FloatDirection.Left w a = k a.x ≡ k a.inset
XAt FloatDirection.Right w a = k a.x + (k a.inset + k a.call.width) ≡ k w + (B + B)

-- an accepted placement on a page of the width w: its numbers, and its x by side
abbrev pub Boxed : Float → Accepted → Type 0
Boxed w a = Box64 a × (a.x ≡ x_from w a)

module _ (w : Float) (wq : Q w) (wi : Ins w) where
  x_of_lem : (a : Accepted) → Boxed w a → Q a.x × XAt (side_in a) w a
  x_of_lem a (p, e) = go (side_in a) e
    where
      go : (s : FloatDirection) → a.x ≡ on_side s a.inset (sub binary32 (sub binary32 w a.inset) a.call.width) → Q a.x × XAt s w a
      go FloatDirection.Left e = (subst Q (sym e) p.inset, ap k e)
      go FloatDirection.Right e = (
        subst Q (sym e) (twice_off wq wi p.inset p.inset' p.width p.width' p.far),
        omega (arith, ap k e, diff_exact wq p.inset, diff_exact (q_diff wq p.inset wi p.inset') p.width),
      )

  -- the far edges are exact
  pub exact_edges : (a : Accepted) → Boxed w a → ExactSum a.x a.call.width (right_edge a) × ExactSum a.y a.call.height (bottom a) × ExactSum a.inset a.call.width (far_inset a)
  exact_edges a p = (exact_sum (x_of_lem a p).0 p.0.width, exact_sum p.0.y p.0.height, exact_sum p.0.inset p.0.width)

  module _ (a b : Accepted) (i : Boxed w a) (j : Boxed w b) (d : Beside w a b) where
    abbrev p : Box64 a
    p = i.0

    abbrev q : Box64 b
    q = j.0

    -- a shared height: the larger of the two tops
    shared : T (sized a) → T (sized b) → T (share_height a b) → Clear (same_side (side_in a) (side_in b)) w a b
    shared s s' h =
        let n = p.y'.num in
        let n' = q.y'.num in
        let e = larger_key n n' in
        let wa = lt→key ins_zero.num p.width'.num (and_l (lt zero+ a.call.width) (lt zero+ a.call.height) s) in
        let ha = lt→key ins_zero.num p.height'.num (and_r (lt zero+ a.call.width) (lt zero+ a.call.height) s) in
        let hb = lt→key ins_zero.num q.height'.num (and_r (lt zero+ b.call.width) (lt zero+ b.call.height) s') in
        let u = lt→key n (sum_num q.y' q.height') (and_l (lt a.y (bottom b)) (lt b.y (bottom a)) h) in
        let u' = lt→key n' (sum_num p.y' p.height') (and_r (lt a.y (bottom b)) (lt b.y (bottom a)) h) in
        d (omega (arith, zero_k)) (larger a.y b.y) (larger_num n n') (omega arith, omega (arith, sum_exact p.y p.height, zero_k)) (omega arith, omega (arith, sum_exact q.y q.height, zero_k))

    -- rule 7
    pub seven : T (same_side (side_in a) (side_in b)) → T (sized a) → T (sized b) → T (share_height a b) → T (le (far_inset b) (sub binary32 w (containing_trail b)))
    seven o s s' h =
        let c = go (same_side (side_in a) (side_in b)) o (shared s s' h) in
        key→le (sum_num (ins_val q.inset') q.width') (sub_num (ins_fin wi) (ins_fin q.trail')) (omega (arith, c, sum_exact q.inset q.width, diff_exact wq q.trail))
      where
        go : (t : Bool) → T t → Clear t w a b → k b.inset + k b.call.width + k (containing_trail b) ≤ k w + (B + B)
        go true o c = c.1
        go false o c = elim o [ ]

    pub apart : T (sized a) → T (sized b) → T (not (overlap a b))
    apart s s' = not_T (overlap a b) (λ h.
        let up = and_l (share_height a b && lt a.x (right_edge b)) (lt b.x (right_edge a)) h in
        let x = x_of_lem a i in
        let x' = x_of_lem b j in
        let r = lt→key (num (q_fin x.0)) (add_num (q_fin x'.0) (q_fin q.width)) (and_r (share_height a b) (lt a.x (right_edge b)) up) in
        let l = lt→key (num (q_fin x'.0)) (add_num (q_fin x.0) (q_fin p.width)) (and_r (share_height a b && lt a.x (right_edge b)) (lt b.x (right_edge a)) h) in
        go (side_in a) (side_in b) (shared s s' (and_l (share_height a b) (lt a.x (right_edge b)) up)) x.1 x'.1 (omega (arith, r, sum_exact x'.0 q.width)) (omega (arith, l, sum_exact x.0 p.width)))
      where
        go : (u v : FloatDirection) → Clear (same_side u v) w a b → XAt u w a → XAt v w b → k a.x + B < k b.x + k b.call.width → k b.x + B < k a.x + k a.call.width → ⊥
        go FloatDirection.Left FloatDirection.Left c e e' r l = omega (arith, c.0)
        go FloatDirection.Left FloatDirection.Right c e e' r l = omega arith
        go FloatDirection.Right FloatDirection.Left c e e' r l = omega arith
        go FloatDirection.Right FloatDirection.Right c e e' r l = omega (arith, c.0)
