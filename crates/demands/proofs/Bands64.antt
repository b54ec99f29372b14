-- Bands in whole 64ths: splitting, appending and marking keep them so; the counted height is the way down; so the search finds room down to the box's bottom.
use mathlib.Core.Path.{◌≡◌, refl, sym, ap, ap₂, ◌∙◌, subst}
use mathlib.Core.Logic.{◌⊎◌, inl, inr}
use Prim.Native.Nat.{ℕ, zero, suc, ◌+◌, ◌-◌, ◌*◌, ◌^◌, ◌≤◌, ◌<◌}
use native.Mathlib.Nat.{le_of_suc-le-suc, not-suc-le-zero, mul-le-mul_right}
use native.Mathlib.Decide.{dec_le}
use native.Mathlib.Omega.{arith}
use mathlib.Core.Bool.{Bool, true, false, cond}
use mathlib.Core.List.{List, [], ◌∷◌, ◌++◌}
use lib.IntN.{pos}
use lib.Dec.{T}
use lib.Ieee.{Float, inf, binary32, binary64, add, sub, lt, le}
use lib.ListN.{length, get_or}
use Rattle.f32_laws.specs.Numbers.{larger, zero+}
use Rattle.f32_laws.specs.Key.{Num}
use Rattle.f32_laws.specs.Sixty.{in64}
use Rattle.f32_laws.proofs.Larger.{larger_key, larger_one}
use Rattle.f32_laws.proofs.Index64.{half_twice}
use Rattle.float.specs.declared.FloatDirection.{FloatDirection}
use Rattle.float.specs.declared.Segment.{Segment}
use Rattle.float.specs.declared.fit.Ask.{Ask}
use Rattle.float.specs.declared.search.Spot.{Spot}
use Rattle.float.specs.Numbers.{in_reach}
use Rattle.float.specs.Bands.{lead, none, bare, marked, split_at, mark_all, last_end}
use Rattle.float.specs.Place.{Made, seed, end_of, gapped, walked, started_at, make}
use Rattle.demands.specs.Runs.{Each}
use Rattle.demands.proofs.Laws.{k, far_twice, Val, Ins, Top, on_either, top_low}
use Rattle.demands.proofs.Chain.{Chain, chain_at, chain_next, chain_last, last_is, each_split, each_mark}
use Rattle.demands.proofs.Heights.{nothing, band_at, at_band, at_below}
use Rattle.demands.proofs.Splits.{started_ways, make_ways}
use Rattle.demands.proofs.Seek.{Count, Found}
use Rattle.demands.proofs.Make.{seed_has, started_y}
use Rattle.demands.proofs.Lists.{each_append}
use Rattle.demands.proofs.Exact.{g, Q, q_key, q_zero, q_larger, q_sum, sum_exact, diff_count, count_of, count_add, count_le, cancel, Ask64}

pub record Band64 (b : Segment) : Type 0 where
  pub end : Q b.end
  pub inset : (r : FloatDirection) → Q (lead r b)

pub band_at_lem : (l : List Segment) (i : ℕ) → Each Band64 l → i < length l → Band64 (get_or l i none)
band_at_lem [] i p h = absurd (not-suc-le-zero h)
band_at_lem (b ∷ bs) zero p h = p.0
band_at_lem (b ∷ bs) (suc i) p h = band_at_lem bs i p.1 (le_of_suc-le-suc h)

split64 : (l : List Segment) (i : ℕ) (y : Float) → Each Band64 l → Q y → Each Band64 (split_at l i y)
split64 l i y p q = each_split Band64 y (λ b h. (record { end = q; inset = h.inset }, record { end = h.end; inset = h.inset })) l i p

marked64 : (r : FloatDirection) (num : ℕ) {v : Float} {b : Segment} → Q v → Band64 b → Band64 (marked r v num b)
marked64 FloatDirection.Left num q p = record { end = p.end; inset = λ s. on_either Q s q (p.inset FloatDirection.Right) }
marked64 FloatDirection.Right num q p = record { end = p.end; inset = λ s. on_either Q s (p.inset FloatDirection.Left) q }

pub mark64 : (r : FloatDirection) (v : Float) (num : ℕ) (l : List Segment) (s e : ℕ) → Q v → Each Band64 l → Each Band64 (mark_all r v num l s e)
mark64 r v num l s e q p = each_mark Band64 r v num (λ b h. marked64 r num q h) l s e p

chain_first : (x : Float) (l : List Segment) → Chain x l → 0 < length l → (get_or l 0 none).start ≡ x
chain_first x [] c h = absurd (not-suc-le-zero h)
chain_first x (b ∷ bs) c h = c.0

-- ---- the counted height on 64ths: so many 64ths, no more than from y to the band's end
module _ (l : List Segment) (c : Chain (inf true) l) (p : Each Band64 l) where
  abbrev pub Way : ℕ → Float → Float → Type 0
  Way e y z = (e < length l) × Val y × Q y × ((d : ℕ) × (z ≡ in64 binary64 (pos d)) × (d * g + k y ≤ k (get_or l e none).end) × (d ≤ 2 ^ 25))

  way_short : (d e : ℕ) (y : Float) → e < length l → Q y → d * g + k y ≤ k (get_or l e none).end → d ≤ 2 ^ 24
  way_short d e y h q o =
      let r = (band_at_lem l e p h).end in
      let b : d + q.n ≤ r.n = cancel (d + q.n) r.n (omega (arith, q_key q, q_key r)) in
      omega (arith, q.low, r.high, half_twice)

  pub rise : (i : ℕ) (y : Float) → i < length l → Val y → Q y → Q (larger y (get_or l i none).start)
  rise i y h v q = go i h (larger_one y (get_or l i none).start)
    where
      go : (i : ℕ) → i < length l → (larger y (get_or l i none).start ≡ y) ⊎ (larger y (get_or l i none).start ≡ (get_or l i none).start) → Q (larger y (get_or l i none).start)
      go i h (inl e) = subst Q (sym e) q
      go zero h (inr e) = absurd (not-suc-le-zero {n = 0} (omega (arith, ap k e, ap k (chain_first (inf true) l c h), larger_key v.num (chain_at (inf true) l 0 c h).start.num, v.low, far_twice)))
      go (suc i) h (inr e) = subst Q (sym (e ∙ chain_next (inf true) l i c h)) (band_at_lem l i p (omega arith)).end

  pub next64 : (e : ℕ) (y z : Float) → suc e < length l → Way e y z → Way (suc e) y (add binary64 z (sub binary32 (get_or l (suc e) none).end (get_or l (suc e) none).start))
  next64 e y z h w =
      let d = diff_count (band_at_lem l (suc e) p h).end (band_at_lem l e p w.0).end (omega (arith, ap k (chain_next (inf true) l e c h), (chain_at (inf true) l (suc e) c h).order)) in
      let m = w.3 in
      let o : (m.0 + d.0) * g + k y ≤ k (get_or l (suc e) none).end = omega (arith, m.2, d.2) in (
        h,
        w.1,
        w.2,
        (
          m.0 + d.0,
          ap₂ (add binary64) m.1 (ap (sub binary32 (get_or l (suc e) none).end) (chain_next (inf true) l e c h) ∙ d.1) ∙ count_add m.0 d.0 m.3 d.3,
          o,
          omega (arith, way_short (m.0 + d.0) (suc e) y h w.2 o),
        ),
      )

  -- where the counted height is enough, the box's bottom is not below the band's end
  way_deep : (e : ℕ) (y z h : Float) → Q h → Ins h → Way e y z → T (le h z) → k (add binary32 y h) ≤ k (get_or l e none).end
  way_deep e y z h q v w t =
      let c = count_of q v.low in
      let m = w.3 in
      let o = count_le c.0 m.0 (omega (arith, c.3)) m.3 (subst T (ap₂ le c.1 m.1) t) in
      omega (arith, sum_exact w.2 q, c.2, m.2, mul-le-mul_right g o)

  abbrev pub count64 : Count l
  count64 = record {
    Ok = Q;
    ok_zero = q_zero;
    ok_lead = λ r i h. (band_at_lem l i p h).inset r;
    ok_rise = rise;
    Has = Way;
    open' = λ s y h v q a o. let d = diff_count (band_at_lem l s p h).end q o in (h, v, q, (d.0, d.1, omega (arith, d.2), omega (arith, d.3)));
    next = next64;
    skip = λ e y z h w. (h, w.1, w.2, (w.3.0, w.3.1, omega (arith, w.3.2, ap k (chain_next (inf true) l e c h), (chain_at (inf true) l (suc e) c h).order), w.3.3));
  }

-- ---- the made place
module _ (a : Ask) (q : Ask64 a) where
  seed64 : {s e : Float} → Q e → Band64 (seed a s e)
  seed64 {s} {e} p = record { end = p; inset = seed_has Q a s e q.cb_lead q.cb_trail }

  abbrev Made64 : Made → Type 0
  Made64 m = T (in_reach (add binary32 m.y a.height)) → Val m.y → Each Band64 m.bands × Q m.y

  started64 : (l : List Segment) (s e : ℕ) (y : Float) → Each Band64 l → Q y → Made64 (started_at a l s e y)
  started64 l s e y p q' =
      started_ways Made64 a l s e y
      (λ o u x v. (split64 l (walked l s b e) b p (q_sum q' q.height v q.asked.height x), q'))
      (λ o x v. (p, q'))
      (λ o u x v. (each_append Band64 l (seed a (end_of l) b) p (seed64 (q_sum q' q.height v q.asked.height x)), q'))
      (λ o u x v. (p, q'))
    where
      b : Float
      b = add binary32 y a.height

  last64 : (x : Float) (l : List Segment) (y : Float) → Each Band64 l → Q x → Q (last_end x l)
  unfolding last_end
  last64 x [] y p q = q
  last64 x (b ∷ bs) y p q = last64 b.end bs y p.1 p.0.end

  -- the larger of the last end and y
  below_y : (l : List Segment) (y : Float) → Chain (inf true) l → Each Band64 l → Val y → Q y → Q (larger (end_of l) y)
  unfolding last_end
  below_y [] y c p v q' = go (larger_one (inf true) y)
    where
      go : (larger (inf true) y ≡ (inf true)) ⊎ (larger (inf true) y ≡ y) → Q (larger (inf true) y)
      go (inl e) = absurd (not-suc-le-zero {n = 0} (omega (arith, ap k e, larger_key top_low.num v.num, v.low, far_twice)))
      go (inr e) = subst Q (sym e) q'
  below_y (b ∷ bs) y c p v q' = q_larger (last64 b.end bs y p.1 p.0.end) q'

  pub make64 : (l : List Segment) (p : Spot) → Chain (inf true) l → Each Band64 l → Val p.y → Q p.y → Made64 (make a l p)
  make64 l p c d v q' =
      make_ways Made64 a l p
      (λ o. started64 l p.start p.end p.y d q')
      (λ o u. started64 (split_at l p.start p.y) (suc p.start) (suc p.end) p.y (split64 l p.start p.y d q') q')
      (λ o x w. let z = below_y l p.y c d v q' in
      (each_append Band64 (gapped l (end_of l) p.y) (seed a (larger (end_of l) p.y) (add binary32 (larger (end_of l) p.y) a.height)) (gap (lt (end_of l) p.y)) (seed64 (q_sum z q.height w q.asked.height x)), z))
    where
      gap : (t : Bool) → Each Band64 (cond t (l ++ bare (end_of l) p.y zero+ zero+ ∷ []) l)
      gap true = each_append Band64 l (bare (end_of l) p.y zero+ zero+) d (record { end = q'; inset = λ r. on_either Q r q_zero q_zero })
      gap false = d

  -- the place's y
  abbrev Y : List Segment → Spot → Made → Type 0
  Y l p m = (p.start < length l → m.y ≡ p.y) × (length l ≤ p.start → m.y ≡ larger (end_of l) p.y)

  make_y : (l : List Segment) (p : Spot) → Y l p (make a l p)
  make_y l p =
      make_ways (Y l p) a l p
      (λ h. ((λ o. started_y a l p.start p.end p.y), λ o. absurd (not-suc-le-zero {n = 0} (omega arith))))
      (λ h u. ((λ o. started_y a (split_at l p.start p.y) (suc p.start) (suc p.end) p.y), λ o. absurd (not-suc-le-zero {n = 0} (omega arith))))
      (λ h. ((λ o. absurd (not-suc-le-zero {n = 0} (omega arith))), λ o. refl))

  -- ---- what the old bands are beside the box
  module _ (l : List Segment) (c : Chain (inf true) l) (d : Each Band64 l) (F : ℕ) (y0 : Float) (p : Spot) (f : Found l a F y0 (count64 l c d) p) where
    pub deep : p.start < length l → p.end < length l → k (add binary32 p.y a.height) ≤ k (get_or l p.end none).end
    deep h o = let w = (f.fit h).deep o in way_deep l c d p.end p.y w.0 a.height q.height q.asked.height w.1 w.2

    -- at the height t there is no band, or one from the start to the end
    abbrev pub Met : Float → Type 0
    Met t = (band_at t l ≡ nothing) ⊎ ((p.start < length l) × ((j : ℕ) × (p.start ≤ j) × (j ≤ p.end) × (j < length l) × (band_at t l ≡ get_or l j none)))

    -- so it is at every height of the box
    pub beside : (t : Float) → Num binary32 t → k (make a l p).y ≤ k t → k t < k (add binary32 (make a l p).y a.height) → Met t
    beside t n u v = go (dec_le (length l) p.start)
      where
        lt' : Top (end_of l)
        lt' = chain_last (inf true) l top_low c

        go : Dec (length l ≤ p.start) → Met t
        go (yes h) = inl (at_below (inf true) l t c n (λ o. omega (arith, ap k ((make_y l p).1 h), larger_key lt'.num f.y.num)))
        go (no h') = on (dec_le (length l) p.end)
          where
            h : p.start < length l
            h = omega arith

            e : (make a l p).y ≡ p.y
            e = (make_y l p).0 h

            from : k (get_or l p.start none).start ≤ k t
            from = omega (arith, ap k e, (f.fit h).above)

            on : Dec (length l ≤ p.end) → Met t
            on (no o) =
                let w = at_band (inf true) l t p.start p.end c n from (omega (arith, ap (λ (z : Float). k (add binary32 z a.height)) e, deep h (omega arith))) f.order (omega arith) in
                inr (h, (w.0, w.1, w.2, omega (arith, w.2), w.3))
            on (yes o) = past (dec_le (k (end_of l)) (k t))
              where
                past : Dec (k (end_of l) ≤ k t) → Met t
                past (yes m) = inl (at_below (inf true) l t c n (λ o. m))
                past (no m) =
                    let w = at_band (inf true) l t p.start (length l - 1) c n from (omega (arith, ap k (last_is (inf true) l (length l - 1) (omega arith)))) (omega arith) (omega arith) in
                    inr (h, (w.0, w.1, omega (arith, w.2), omega (arith, w.2), w.3))
