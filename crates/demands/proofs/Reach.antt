use Rattle.std.specs.Prelude.{Err}
-- What refusal 6 never comes of: the fit test keeps a placed inset plus width in reach, and no y lies beyond what the page holds.
use mathlib.Core.Path.{◌≡◌, refl, ap, subst}
use Prim.Native.Nat.{ℕ, ◌+◌, ◌≤◌, ◌<◌}
use native.Mathlib.Decide.{dec_le}
use native.Mathlib.Omega.{arith}
use mathlib.Core.Bool.{◌&&◌}
use mathlib.Core.List.{List}
use lib.Count.{count_trailing_zeros}
use lib.Dec.{T, ltb, T_not}
use lib.Ieee.{Float, binary32, add, sub, neg, sum, round, units, odd, size, span, climb, le, eq}
use lib.Ieee.Fits.{and_i}
use lib.ListN.{length}
use Rattle.f32_laws.specs.Numbers.{zero+, tol}
use Rattle.f32_laws.specs.Key.{Fin}
use Rattle.f32_laws.specs.Round.{srnd}
use Rattle.f32_laws.proofs.Tests.{both}
use Rattle.f32_laws.proofs.Keys.{le→key, key→le, eq→key, fin_of_key}
use Rattle.f32_laws.proofs.Order.{trans_le}
use Rattle.f32_laws.proofs.Larger.{larger_key}
use Rattle.f32_laws.proofs.Sums.{add_num', add_mono, add_mono_l, add_mono_num, sub_num, sub_mono}
use Rattle.f32_laws.proofs.Rounding.{add_key, srnd_fix}
use Rattle.f32_laws.proofs.Tolerance.{tol_fin}
use Rattle.float.specs.declared.Refusal.{Refusal}
use Rattle.float.specs.declared.Segment.{Segment}
use Rattle.float.specs.declared.fit.Ask.{Ask}
use Rattle.float.specs.declared.search.Spot.{Spot}
use Rattle.float.specs.Numbers.{most, farthest, in_reach, all_allowed}
use Rattle.float.specs.Refuse.{number_of, side_of}
use Rattle.float.specs.Page.{Page, max_boxes}
use Rattle.float.specs.Fit.{passes, placed_at}
use Rattle.float.specs.Place.{Call, cleaned, numbers, PlaceResult, lowest, first_allowed, ask_of, spot_of, near, flat, put, admitted, checked, place}
use Rattle.demands.specs.Runs.{Each, Accepted, box, handed, F32}
use Rattle.demands.proofs.Halves.{lead_half}
use Rattle.demands.proofs.Laws.{k, B, Ins, far_twice, zero_k, ins_zero, ins_val, ins_fin, val_fin, larger_ins, sum_num, farthest_num, or_right}
use Rattle.demands.proofs.Seek.{Asked, Count, no_count, Fit, Found}
use Rattle.demands.proofs.Input.{most_mag, most_num, Known, known, check_both, cleaned_fits, asked, sizes}
use Rattle.demands.proofs.Whole.{Inv, spot_ok}

-- ---- two sums at the limits
-- 65,536 + 65,536 is 131,072
most_twice : add binary32 most most ≡ farthest
unfolding add sum round units odd size span climb count_trailing_zeros
most_twice = refl

-- 131,072 - 0 + 0.001 is rounded to 131,072
brim : add binary32 (sub binary32 farthest zero+) tol ≡ farthest
unfolding add sub neg sum round units odd size span climb count_trailing_zeros zero+ tol
brim = refl

farthest_fin : Fin binary32 farthest
farthest_fin = fin_of_key farthest_num (omega (arith, far_twice)) (omega (arith, far_twice))

two_most : {x y : Float} → Ins x → Ins y → T (le x most) → T (le y most) → T (in_reach (add binary32 x y))
unfolding in_reach
two_most {x} {y} p q h i = subst (λ (z : Float). T (le (add binary32 x y) z)) most_twice (add_mono (ins_fin p) most_fin (ins_fin q) most_fin h i)
  where
    most_fin : Fin binary32 most
    most_fin = fin_of_key most_num (omega (arith, far_twice, most_mag)) (omega (arith, far_twice, most_mag))

-- ---- a placed inset plus width
module _ (l : List Segment) (a : Ask) (F : ℕ) (y0 : Float) (H : Count l) (p : Spot) (q : Asked a) (w : T (le a.width most)) (c : T (le a.cb_lead most)) (g : Found l a F y0 H p) where
  -- at the containing inset both are at most 65,536
  alone : k p.inset ≤ k a.cb_lead → T (in_reach (add binary32 p.inset a.width))
  alone h = two_most g.inset q.width (key→le g.inset.num most_num (omega (arith, le→key q.cb_lead.num most_num c))) w

  -- past a float the fit test's second half bounds the sum by the page
  past : (f : Fit l a F y0 H p) → B < k f.jl → T (in_reach (add binary32 p.inset a.width))
  unfolding in_reach placed_at passes
  past f h =
      let x = larger_ins f.lead_ins q.cb_lead in
      let m = larger_key f.lead_ins.num q.cb_lead.num in
      let n = sum_num (ins_val g.inset) q.width in
      let n' = sum_num (ins_val x) q.width in
      let d = sub_num (ins_fin q.page) (ins_fin q.cb_trail) in
      let e = sub_num farthest_fin (ins_fin ins_zero) in
      let s = add_mono_l (ins_fin g.inset) (ins_fin x) (ins_fin q.width) (key→le g.inset.num x.num (omega (arith, f.placed))) in
      let t = or_right (eq f.jl zero+) _ (λ z. omega (arith, eq→key f.lead_ins.num ins_zero.num z, zero_k)) (lead_half a f.jl f.jt f.room) in
      let u = add_mono_num d e tol_fin (sub_mono (ins_fin q.page) farthest_fin (ins_fin q.cb_trail) (ins_fin ins_zero) (key→le q.page.num farthest_num q.page.high) (key→le ins_zero.num q.cb_trail.num (omega (arith, zero_k, q.cb_trail.low)))) in
      subst (λ (z : Float). T (le (add binary32 p.inset a.width) z)) brim (trans_le n n' (add_num' e tol_fin) s (trans_le n' (add_num' d tol_fin) (add_num' e tol_fin) t u))

  inset_near : T (in_reach (add binary32 p.inset a.width))
  inset_near = go (dec_le (length l) p.start)
    where
      beside : p.start < length l → T (in_reach (add binary32 p.inset a.width))
      beside h = let f = g.fit h in on f (dec_le (k f.jl) B)
        where
          on : (f : Fit l a F y0 H p) → Dec (k f.jl ≤ B) → T (in_reach (add binary32 p.inset a.width))
          on f (yes o) = alone (omega (arith, f.placed, q.cb_lead.low))
          on f (no o) = past f (omega arith)

      go : Dec (length l ≤ p.start) → T (in_reach (add binary32 p.inset a.width))
      go (yes h) = alone (omega (arith, ap k (g.alone h)))
      go (no h) = beside (omega arith)

-- ---- on pages that calls reach
module _ (p : Page) (g : List Accepted) (c : Call) (v : Inv p g) (n : Each Known (numbers c)) (t : T (all_allowed (numbers c))) where
  found : Found p.bands (ask_of p c) (first_allowed p) (lowest p c) (no_count p.bands) (spot_of p c)
  found = spot_ok p g c v n (no_count p.bands) tt tt

  pub inset_in_reach : T (in_reach (add binary32 (spot_of p c).inset c.width))
  inset_in_reach = let z = sizes c t in inset_near p.bands (ask_of p c) (first_allowed p) (lowest p c) (no_count p.bands) (spot_of p c) (asked p c v.width n) z.0 (z.1 (side_of c.side)) found

  -- a height of 0 adds nothing to y
  flat_near : T (eq c.height zero+) → T (near (ask_of p c) (spot_of p c).inset (spot_of p c).y)
  unfolding in_reach
  flat_near o =
      let y = found.y in
      let h = n.1.0 in
      let e = eq→key h.num ins_zero.num o in
      and_i (in_reach (add binary32 (spot_of p c).y c.height)) (in_reach (add binary32 (spot_of p c).inset c.width))
      (key→le (sum_num y h) farthest_num (omega (arith, add_key (val_fin y) (ins_fin h), ap (λ (z : ℕ). srnd binary32 (k (spot_of p c).y + z)) e, ap (λ (z : ℕ). srnd binary32 (k (spot_of p c).y + z)) zero_k, srnd_fix (val_fin y), y.high)))
      inset_in_reach

pub flat_not_6 : (p : Page) (g : List Accepted) (c : Call) → Inv p g → Each F32 (handed (box c)) → T (eq (cleaned c).height zero+) → (place p c).answer ≡ Err Refusal.TooFar → ⊥
unfolding place checked admitted put flat
flat_not_6 p g c v f h =
    check_both P (ltb c.side 2 && ltb c.clear 4) (numbers d)
    (λ t u. both P (ltb (length p.boxes) max_boxes)
    (λ w. both P (eq d.height zero+)
    (λ x. both P (near (ask_of p d) s.inset s.y) (λ z e. never (let o : ◌≡◌ {A = ℕ} 0 1 = cc in o)) (λ z. absurd (T_not (near (ask_of p d) s.inset s.y) z (flat_near p g d v (known (numbers d) (cleaned_fits c f) t u) u h))))
    (λ x. absurd (T_not (eq d.height zero+) x h)))
    (λ w e. never (let o : ◌≡◌ {A = ℕ} 0 1 = cc in o)))
    (λ n o e. let z : n ≡ Refusal.TooFar = cc in omega (arith, ap number_of z))
  where
    d : Call
    d = cleaned c

    s : Spot
    s = spot_of p d

    P : PlaceResult → Type 0
    P r = r.answer ≡ Err Refusal.TooFar → ⊥

    never : ◌≡◌ {A = ℕ} 0 1 → ⊥
    never o = omega arith
