use Rattle.std.specs.Prelude.{Some, Ok}
-- Pages in whole 64ths: an accepted box stands in the bands at each of its heights for good, so a later one is clear of it.
use mathlib.Core.Path.{◌≡◌, refl, sym, ap, ◌∙◌, subst}
use mathlib.Core.Logic.{inl, inr}
use Prim.Native.Nat.{ℕ, ◌+◌, ◌≤◌, ◌<◌}
use native.Mathlib.Nat.{not-suc-le-zero}
use native.Mathlib.Omega.{arith}
use mathlib.Core.Bool.{Bool, true, false}
use mathlib.Core.List.{List, [], ◌∷◌, ◌++◌}
use lib.Dec.{T, leb}
use lib.Ieee.{Float, inf, binary32, add, le, eq}
use lib.Ieee.Fits.{and_l, and_r}
use lib.ListN.{length, get_or}
use Rattle.f32_laws.specs.Numbers.{larger, zero+}
use Rattle.f32_laws.specs.Key.{Num}
use Rattle.f32_laws.proofs.Tests.{both}
use Rattle.f32_laws.proofs.Keys.{le→key, eq→key}
use Rattle.f32_laws.proofs.Larger.{larger_key}
use Rattle.float.specs.declared.FloatDirection.{FloatDirection}
use Rattle.float.specs.declared.Segment.{Segment}
use Rattle.float.specs.declared.fit.Ask.{Ask}
use Rattle.float.specs.declared.search.Spot.{Spot}
use Rattle.float.specs.Numbers.{in_reach}
use Rattle.float.specs.Bands.{same_side, other, lead, has_float, none, mark_all}
use Rattle.float.specs.Page.{Page, max_bands}
use Rattle.float.specs.Fit.{placed_at}
use Rattle.float.specs.Place.{Call, PlaceResult, Made, make, recorded, counted, ask_of, first_allowed, x_of, near, high, flat, put}
use Rattle.demands.specs.Runs.{Each, Pairs, Accepted, noted, side_in, containing_trail, bottom}
use Rattle.demands.proofs.Laws.{k, B, Val, Ins, zero_k, ins_zero, ins_val, sum_ins}
use Rattle.demands.proofs.Chain.{chain_mark, length_mark, mark_in, mark_float, mark_start, mark_end}
use Rattle.demands.proofs.Heights.{nothing_lead, band_at, at_band}
use Rattle.demands.proofs.Whole.{Inv, Step, last_inset_lem}
use Rattle.demands.proofs.Seek.{Found}
use Rattle.demands.proofs.Make.{MadeOk, make_ok}
use Rattle.demands.proofs.Input.{bottom_on, BottomIs, lower_is, counted_is}
use Rattle.demands.proofs.Lists.{each_append, pairs_append, each_map, each_both}
use Rattle.demands.proofs.Exact.{Q, q_larger, q_sum, sum_exact, fit_trail, fit_lead, Ask64}
use Rattle.demands.proofs.Bands64.{Band64, mark64, count64, make64, deep, Met, beside}

-- the height t is one of the box's
abbrev pub Inside : Accepted → Float → Type 0
Inside a t = (k a.y ≤ k t) × (k t < k (bottom a))

-- a band that the box takes: its side's inset reaches to the far edge, and is marked
abbrev pub Takes : Segment → Accepted → Type 0
Takes b a = (k (add binary32 a.inset a.call.width) ≤ k (lead (side_in a) b)) × T (has_float (side_in a) b)

-- it takes the band at each of its heights
abbrev pub Stands : List Segment → Accepted → Type 0
Stands l a = (t : Float) → Num binary32 t → Inside a t → Takes (band_at t l) a

-- exactly: on one side the later begins where the earlier ends or after, and keeps out of the containing trail inset; on two sides both have room on the page
abbrev pub Clear : Bool → Float → Accepted → Accepted → Type 0
Clear true w a b = (k a.inset + k a.call.width ≤ k b.inset + B) × (k b.inset + k b.call.width + k (containing_trail b) ≤ k w + (B + B))
Clear false w a b = k a.inset + k a.call.width + (k b.inset + k b.call.width) ≤ k w + (B + B + B)

abbrev pub Beside : Float → Accepted → Accepted → Type 0
Beside w a b = B < k a.call.width → (t : Float) → Num binary32 t → Inside a t → Inside b t → Clear (same_side (side_in a) (side_in b)) w a b

-- an accepted placement's numbers
pub record Box64 (a : Accepted) : Type 0 where
  pub width : Q a.call.width
  pub height : Q a.call.height
  pub inset : Q a.inset
  pub trail : Q (containing_trail a)
  pub y : Q a.y
  pub width' : Ins a.call.width
  pub height' : Ins a.call.height
  pub inset' : Ins a.inset
  pub trail' : Ins (containing_trail a)
  pub y' : Val a.y
  pub far : Q (add binary32 a.inset a.call.width)

pub record Inv64 (p : Page) (g : List Accepted) : Type 0 where
  pub inv : Inv p g
  pub width : Q p.width
  pub bands : Each Band64 p.bands
  pub bottom : (r : FloatDirection) → BottomIs Q (bottom_on r p)
  pub ceiling : BottomIs Q p.ceiling
  pub boxes : Each Box64 g
  pub stands : Each (Stands p.bands) g
  pub beside : Pairs (Beside p.width) g

pub larger64 : (x y : Float) → Q x → Q y → Q (larger x y)
larger64 x y p q = q_larger p q

-- ---- a box is counted, on a page whose bands were made for it
counted64 : (n : Page) (g : List Accepted) (a : Ask) (i y : Float) (e : Accepted) → Inv (counted n a i y) (g ++ e ∷ []) → Q n.width → Each Band64 n.bands → ((r : FloatDirection) → BottomIs Q (bottom_on r n)) → BottomIs Q n.ceiling → Q y → Q (add binary32 y a.height)
    → Each Box64 g → Box64 e → Each (Stands n.bands) g → Stands n.bands e → Pairs (Beside n.width) g → Each (λ b. Beside n.width b e) g → Inv64 (counted n a i y) (g ++ e ∷ [])
counted64 n g a i y e iv w d bt cl qy qb bs b ss s os o = record {
  inv = iv;
  width = w;
  bands = d;
  bottom = counted_is Q larger64 n a i y bt qb;
  ceiling = lower_is Q larger64 n.ceiling (Some y) cl qy;
  boxes = each_append Box64 g e bs b;
  stands = each_append (Stands n.bands) g e ss s;
  beside = pairs_append (Beside n.width) g e os o;
}

-- ---- a placement
module _ (p : Page) (g : List Accepted) (c : Call) (v : Inv64 p g) (q : Ask64 (ask_of p c)) (y0 : Float) (s : Spot) (f : Found p.bands (ask_of p c) (first_allowed p) y0 (count64 p.bands v.inv.chain v.bands) s) (r : T (le (ask_of p c).cb_lead s.inset)) where
  abbrev ask : Ask
  ask = ask_of p c

  abbrev M : Made
  M = make ask p.bands s

  abbrev entry : Float → Accepted
  entry y = record { call = c; x = x_of ask s.inset; y = y; inset = s.inset }

  entry64 : (y : Float) → Q y → Val y → Q (add binary32 s.inset c.width) → Box64 (entry y)
  entry64 y u w e = record {
    width = q.width;
    height = q.height;
    inset = f.inset_ok;
    trail = q.cb_trail;
    y = u;
    width' = q.asked.width;
    height' = q.asked.height;
    inset' = f.inset;
    trail' = q.asked.cb_trail;
    y' = w;
    far = e;
  }

  -- an earlier box of positive width that shares a height: a band from start to end is taken to its far edge
  abbrev Shared : Accepted → Type 0
  Shared b = (s.start < length p.bands) × (B < k (add binary32 b.inset b.call.width)) × ((j : ℕ) × (s.start ≤ j) × (j ≤ s.end) × (j < length p.bands) × (k (add binary32 b.inset b.call.width) ≤ k (lead (side_in b) (get_or p.bands j none))))

  shared : (b : Accepted) → Box64 b → Stands p.bands b → B < k b.call.width → (t : Float) → Num binary32 t → Inside b t → Inside (entry M.y) t → Shared b
  shared b d st o t n x z = go (beside ask q p.bands v.inv.chain v.bands (first_allowed p) y0 s f t n z.0 z.1)
    where
      up : B < k (add binary32 b.inset b.call.width)
      up = omega (arith, sum_exact d.inset d.width, d.inset'.low)

      go : Met ask q p.bands v.inv.chain v.bands (first_allowed p) y0 s f t → Shared b
      go (inl e) = absurd (not-suc-le-zero {n = 0} (omega (arith, up, (st t n x).0, ap (λ (z : Segment). k (lead (side_in b) z)) e, ap k (nothing_lead (side_in b)), zero_k)))
      go (inr e) = let j = e.1 in (e.0, up, (j.0, j.1, j.2, j.3, omega (arith, (st t n x).0, ap (λ (z : Segment). k (lead (side_in b) z)) j.4)))

  clear_new : (b : Accepted) → Box64 b × Stands p.bands b → Beside p.width b (entry M.y)
  unfolding placed_at
  clear_new b d o t n x z = go (side_in b) (side_in (entry M.y)) refl refl
    where
      h : Shared b
      h = shared b d.0 d.1 o t n x z

      same : side_in b ≡ ask.side → Clear true p.width b (entry M.y)
      same e =
          let j = h.2 in
          let w = f.fit h.0 in
          let l = w.leads j.0 j.1 j.2 j.3 in
          let m = ap (λ (r : FloatDirection). k (lead r (get_or p.bands j.0 none))) e in
          let i = larger_key w.lead_ins.num q.asked.cb_lead.num in
          let r = fit_lead ask q w.lead_ok w.trail_ok w.lead_ins w.trail_ins w.room (omega (arith, h.1, j.4)) in
          (omega (arith, sum_exact d.0.inset d.0.width, j.4, l, m, w.placed), omega (arith, r, i, w.placed))

      opposite : side_in b ≡ other ask.side → Clear false p.width b (entry M.y)
      opposite e =
          let j = h.2 in
          let w = f.fit h.0 in
          let l = w.trails j.0 j.1 j.2 j.3 in
          let m = ap (λ (r : FloatDirection). k (lead r (get_or p.bands j.0 none))) e in
          let i = larger_key w.lead_ins.num q.asked.cb_lead.num in
          let r = fit_trail ask q w.lead_ok w.trail_ok w.lead_ins w.trail_ins w.room (omega (arith, h.1, j.4)) in
          omega (arith, sum_exact d.0.inset d.0.width, j.4, l, m, r, i, w.placed)

      go : (u r : FloatDirection) → side_in b ≡ u → ask.side ≡ r → Clear (same_side u r) p.width b (entry M.y)
      go FloatDirection.Left FloatDirection.Left e e' = same (e ∙ sym e')
      go FloatDirection.Left FloatDirection.Right e e' = opposite (e ∙ sym (ap other e'))
      go FloatDirection.Right FloatDirection.Left e e' = opposite (e ∙ sym (ap other e'))
      go FloatDirection.Right FloatDirection.Right e e' = same (e ∙ sym e')

  -- the box stands in the bands that were made for it
  abbrev Deep : Type 0
  Deep = s.end < length p.bands → k (add binary32 s.y c.height) ≤ k (get_or p.bands s.end none).end

  stands_new : MadeOk p.bands ask (first_allowed p) s.inset Deep M → Ins (add binary32 s.inset c.width) → Stands (recorded p ask s.inset M).bands (entry M.y)
  stands_new o iv t n x =
      let r = ask.side in
      let e = add binary32 s.inset c.width in
      let num = length p.boxes in
      let l = mark_all r e num M.bands M.start M.end in
      let d = deep ask q p.bands v.inv.chain v.bands (first_allowed p) y0 s f in
      let w = at_band (inf true) l t M.start M.end (chain_mark r e num (inf true) M.bands M.start M.end iv o.chain) n
      (omega (arith, ap k (mark_start r e num M.bands M.start M.end M.start), o.top, x.0))
      (omega (arith, ap k (mark_end r e num M.bands M.start M.end M.end), o.bottom (λ h. d (omega (arith, f.order)) h), x.1))
      o.order (omega (arith, length_mark r e num M.bands M.start M.end, o.last)) in
      let j : w.0 < length M.bands = omega (arith, w.2, o.last) in (
        omega (arith, ap (λ (z : Segment). k (lead r z)) w.3, ap k (mark_in r e num M.bands M.start M.end w.0 w.1 w.2 j)),
        subst T (sym (ap (has_float r) w.3 ∙ mark_float r e num M.bands M.start M.end w.0 w.1 w.2 j)) tt,
      )

  abbrev After : PlaceResult → Type 0
  After r = Step p g c r → Inv64 r.page (noted r.answer c r.page g)

  -- the log's entry, by the placed inset
  entered : (n : Page) (y : Float) → (Inv (counted n ask s.inset y) (g ++ entry y ∷ []) → Inv64 (counted n ask s.inset y) (g ++ entry y ∷ [])) → After (record { answer = Ok (record { x = x_of ask s.inset; y = y; steps = s.steps }); page = counted n ask s.inset y })
  entered n y h st =
      subst (λ (i : Float). Inv (counted n ask s.inset y) (g ++ record { call = c; x = x_of ask s.inset; y = y; inset = i } ∷ []) → Inv64 (counted n ask s.inset y) (g ++ record { call = c; x = x_of ask s.inset; y = y; inset = i } ∷ []))
      (sym (last_inset_lem n ask s.inset y)) h st.inv

  pub put64 : After (put p ask s)
  unfolding put flat high
  put64 =
      both After (eq c.height zero+)
      (λ t. both After (near ask s.inset s.y)
      (λ u. let x = and_l (in_reach (add binary32 s.y c.height)) (in_reach (add binary32 s.inset c.width)) u in
      entered p s.y (λ i. counted64 p g ask s.inset s.y (entry s.y) i v.width v.bands v.bottom v.ceiling f.y_ok (q_sum f.y_ok q.height f.y q.asked.height x)
      v.boxes (entry64 s.y f.y_ok f.y (edge s.y u)) v.stands (λ t' n i. absurd (empty t' t i)) v.beside (each_map (Stands p.bands) (λ b. Beside p.width b (entry s.y)) g (λ b z o t' n i i'. absurd (empty t' t i')) v.stands)))
      (λ u st. v))
      (λ t. both After (near ask s.inset M.y)
      (λ u. let x = and_l (in_reach (add binary32 M.y c.height)) (in_reach (add binary32 s.inset c.width)) u in
      let x' = and_r (in_reach (add binary32 M.y c.height)) (in_reach (add binary32 s.inset c.width)) u in
      let d = made.1 x in
      let z = make64 ask q p.bands s v.inv.chain v.bands f.y f.y_ok x made.0.0 in
      let e = edge M.y u in
      both After (leb (length M.bands) max_bands)
      (λ w st. entered (recorded p ask s.inset M) M.y (λ i. counted64 (recorded p ask s.inset M) g ask s.inset M.y (entry M.y) i v.width (mark64 ask.side (add binary32 s.inset c.width) (length p.boxes) M.bands M.start M.end e z.0) v.bottom v.ceiling z.1 (q_sum z.1 q.height made.0.0 q.asked.height x)
      v.boxes (entry64 M.y z.1 made.0.0 e)
      (each_map (Stands p.bands) (Stands (recorded p ask s.inset M).bands) g (λ b h t' n i. let o = st.grows t' n in (omega (arith, (h t' n i).0, o.inset (side_in b)), o.mark (side_in b) (h t' n i).1)) v.stands)
      (stands_new d (sum_ins f.inset q.asked.width x')) v.beside
      (each_map (λ b. Box64 b × Stands p.bands b) (λ b. Beside p.width b (entry M.y)) g clear_new (each_both Box64 (Stands p.bands) g v.boxes v.stands))) st)
      (λ w st. v))
      (λ u st. v))
    where
      edge : (y : Float) → T (near ask s.inset y) → Q (add binary32 s.inset c.width)
      edge y u = q_sum f.inset_ok q.width (ins_val f.inset) q.asked.width (and_r (in_reach (add binary32 y c.height)) (in_reach (add binary32 s.inset c.width)) u)

      made : (Val M.y × (k s.y ≤ k M.y)) × (T (in_reach (add binary32 M.y c.height)) → MadeOk p.bands ask (first_allowed p) s.inset Deep M)
      made = make_ok p.bands ask (first_allowed p) y0 s v.inv.chain q.asked (v.inv.falls ask.side) v.inv.first (count64 p.bands v.inv.chain v.bands) f (le→key q.asked.cb_lead.num f.inset.num r)

      empty : (t' : Float) → T (eq c.height zero+) → Inside (entry s.y) t' → ⊥
      empty t' t i = omega (arith, i.0, i.1, sum_exact f.y_ok q.height, eq→key q.asked.height.num ins_zero.num t, zero_k)
