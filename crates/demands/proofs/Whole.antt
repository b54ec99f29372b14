use Rattle.std.specs.Prelude.{Option, Some, Result, Ok, Err, ⊤}
-- The page's invariant from the fresh page on, for any f32: placing and setting the width keep it, and no inset falls.
use mathlib.Core.Path.{◌≡◌, refl, sym, ap, ◌∙◌, subst}
use mathlib.Core.Logic.{◌⊎◌, inl, inr}
use Prim.Native.Nat.{ℕ, ◌-◌, ◌≤◌, ◌<◌, max}
use native.Mathlib.Nat.{not-suc-le-zero}
use native.Mathlib.Omega.{arith}
use mathlib.Core.Bool.{true, ◌&&◌}
use mathlib.Core.List.{List, [], ◌∷◌, ◌++◌, map, map-append}
use lib.Dec.{T, ltb, leb, eqb, ltb→lt, leb→le, eqb→eq, not_T}
use lib.Ieee.{Float, inf, binary32, add, lt, le, eq}
use lib.Ieee.Fits.{and_l, and_r}
use lib.ListN.{length, get_or, length-append}
use lib.Seq.{get_or-append_seam}
use Rattle.f32_laws.specs.Numbers.{zero+}
use Rattle.f32_laws.proofs.Tests.{both}
use Rattle.f32_laws.proofs.Keys.{le→key, lt→key, key→le}
use Rattle.float.specs.declared.FloatDirection.{FloatDirection}
use Rattle.float.specs.declared.PlacedFloatedBox.{PlacedFloatedBox}
use Rattle.float.specs.declared.Refusal.{Refusal}
use Rattle.float.specs.declared.Segment.{Segment}
use Rattle.float.specs.declared.fit.Ask.{Ask}
use Rattle.float.specs.declared.search.Spot.{Spot}
use Rattle.float.specs.Numbers.{plus_zero, in_reach, size, all_allowed}
use Rattle.float.specs.Refuse.{side_of}
use Rattle.float.specs.Bands.{on_side, other, none, first_below}
use Rattle.float.specs.Page.{Page, page_of, fresh_context, fresh, no_box, max_bands, max_boxes}
use Rattle.float.specs.Place.{Call, cleaned, numbers, PlaceResult, lowest, first_allowed, ask_of, spot_of, Made, make, recorded, box_of, counted, x_of, refuse, near, high, flat, put, admitted, checked, place, width_check, with_width, if_done, set_width}
use Rattle.demands.specs.Runs.{Each, Pairs, Accepted, box_in, last_inset, noted, box, handed, F32, containing_lead, x_from, LowEnough}
use Rattle.demands.proofs.Laws.{k, Val, Ins, on_either, ins_zero, ins_val, sum_val, sum_ins, sum_grows}
use Rattle.demands.proofs.Chain.{Chain, chain_at, chain_under, chain_mark, length_mark, mark_end}
use Rattle.demands.proofs.Heights.{Grows, grows_refl, grows_trans, grows_mark}
use Rattle.demands.proofs.First.{first_end, first_le, first_ge, first_skip}
use Rattle.demands.proofs.Splits.{Taken, start_in}
use Rattle.demands.proofs.Leads.{search_leads}
use Rattle.demands.proofs.Seek.{Falls, Asked, Count, no_count, Found, search_law}
use Rattle.demands.proofs.Make.{MadeOk, make_ok}
use Rattle.demands.proofs.Input.{Known, known, check_both, plus_fits, cleaned_fits, asked, bottom_on, BottomIs, AtMost, lower_is, counted_is, lowest_is, larger_val, lower_keeps, lower_takes, lowest_over, low_enough}
use Rattle.demands.proofs.Lists.{each_append, pairs_append, each_map}
use Rattle.demands.proofs.Ways.{width_ways}
use Rattle.float.specs.declared.Position.{Position}

-- ---- the invariant
-- an accepted y is at or above the ceiling
pub record Under (b : Option Float) (a : Accepted) : Type 0 where
  pub val : Val a.y
  pub under : AtMost a.y b

-- from band f on the insets of one of the two sides do not rise
abbrev pub OneFalls : ℕ → List Segment → Type 0
OneFalls f l = (r : FloatDirection) → Falls r f l ⊎ Falls (other r) f l

pub record Inv (p : Page) (g : List Accepted) : Type 0 where
  pub width : Ins p.width
  pub chain : Chain (inf true) p.bands
  pub count : length p.bands ≤ max_bands
  pub full : length p.boxes ≤ max_boxes
  pub boxes : p.boxes ≡ map box_in g
  pub first : first_allowed p ≤ length p.bands
  pub falls : OneFalls (first_allowed p) p.bands
  pub tops : Each (Under p.ceiling) g
  pub rises : Pairs (λ a b. T (le a.y b.y)) g
  pub leads : Each (λ a. T (le (containing_lead a) a.inset)) g
  pub answers : Each (λ a. a.x ≡ x_from p.width a) g
  pub bottom : (r : FloatDirection) → BottomIs Val (bottom_on r p)
  pub ceiling : BottomIs Val p.ceiling

pub fresh_inv : Inv fresh []
unfolding fresh page_of fresh_context
fresh_inv = record {
  width = ins_zero;
  chain = tt;
  count = omega arith;
  full = omega arith;
  boxes = refl;
  first = omega arith;
  falls = λ r. inl (λ i j f h u. absurd (not-suc-le-zero u));
  bottom = λ r. on_either (BottomIs Val) r tt tt;
  ceiling = tt;
  tops = tt;
  leads = tt;
  answers = tt;
  rises = tt;
}

-- the bands before the first allowed one end at or above the ceiling
abbrev pub Sunk : Page → Type 0
Sunk p = (i : ℕ) → i < first_allowed p → i < length p.bands → AtMost (get_or p.bands i none).end p.ceiling

pub fresh_sunk : Sunk fresh
unfolding fresh page_of fresh_context
fresh_sunk i h u = absurd (not-suc-le-zero u)

-- the y of an answer is low enough
abbrev pub Lies : Page → Call → Result Position Refusal → Type 0
Lies p c (Ok s) = LowEnough p c s.y
Lies p c (Err m) = Unit {0}

-- what one placement does to a page and its log
pub record Step (p : Page) (g : List Accepted) (c : Call) (r : PlaceResult) : Type 0 where
  pub inv : Inv r.page (noted r.answer c r.page g)
  pub grows : Grows p.bands r.page.bands
  pub lies : Lies p c r.answer
  pub sunk : Sunk p → Sunk r.page

refuse_ok : (p : Page) (g : List Accepted) (c : Call) (n : Refusal) → Inv p g → Step p g c (refuse p n)
refuse_ok p g c n v = record { inv = v; grows = grows_refl p.bands; lies = tt; sunk = λ t. t }

-- ---- the two sides
sides : (q r : FloatDirection) (f : ℕ) (l : List Segment) → Falls q f l ⊎ Falls (other q) f l → Falls r f l ⊎ Falls (other r) f l
sides FloatDirection.Left FloatDirection.Left f l d = d
sides FloatDirection.Right FloatDirection.Right f l d = d
sides FloatDirection.Left FloatDirection.Right f l (inl p) = inr p
sides FloatDirection.Left FloatDirection.Right f l (inr p) = inl p
sides FloatDirection.Right FloatDirection.Left f l (inl p) = inr p
sides FloatDirection.Right FloatDirection.Left f l (inr p) = inl p

firsts : (r : FloatDirection) (l m s : ℕ) → max l m ≤ s → max (on_side r (max l s) l) (on_side r m (max m s)) ≡ s
firsts FloatDirection.Left l m s h = omega arith
firsts FloatDirection.Right l m s h = omega arith

-- ---- a box is counted
pub last_inset_lem : (p : Page) (a : Ask) (i y : Float) → last_inset (counted p a i y) ≡ i
last_inset_lem p a i y =
    let n : length (p.boxes ++ box_of a i y ∷ []) - 1 ≡ length p.boxes = omega (arith, length-append p.boxes (box_of a i y ∷ [])) in
    ap (λ (j : ℕ). (get_or (p.boxes ++ box_of a i y ∷ []) j no_box).x_inset) n ∙ ap (λ (b : PlacedFloatedBox). b.x_inset) (get_or-append_seam p.boxes (box_of a i y) [] no_box)

-- the page keeps the box that is noted
box_noted : (p : Page) (c : Call) (i x y : Float) → box_of (ask_of p c) i y ≡ box_in (record { call = c; x = x; y = y; inset = i })
box_noted p c i x y = refl

-- x by side, as it is answered
x_noted : (p : Page) (c : Call) (i y : Float) → x_of (ask_of p c) i ≡ x_from p.width (record { call = c; x = x_of (ask_of p c) i; y = y; inset = i })
x_noted p c i y = refl

-- rule 1: the lead inset that is asked for is the call's own
in_container : (p : Page) (c : Call) (i x y : Float) → T (le (ask_of p c).cb_lead i) → T (le (containing_lead (record { call = c; x = x; y = y; inset = i })) i)
in_container p c i x y h = h

module _ (p : Page) (g : List Accepted) (c : Call) (a : Ask) (i x y : Float) (v : Inv p g) (q : Asked a) (w : Val y) (b : T (in_reach (add binary32 y a.height))) (n : length p.boxes < max_boxes) (h : (z : Float) → AtMost z p.ceiling → k z ≤ k y) where
  bot : Val (add binary32 y a.height)
  bot = sum_val w q.height b

  counted_as : (e : Accepted) → e.y ≡ y → box_of a i y ≡ box_in e → T (le (containing_lead e) e.inset) → e.x ≡ x_from p.width e → Inv (counted p a i y) (g ++ e ∷ [])
  counted_as e m o u r = record {
    width = v.width;
    chain = v.chain;
    count = v.count;
    full = omega (arith, length-append p.boxes (box_of a i y ∷ []));
    boxes = ap (λ (l : List PlacedFloatedBox). l ++ box_of a i y ∷ []) v.boxes ∙ ap (λ (d : PlacedFloatedBox). map box_in g ++ d ∷ []) o ∙ sym (map-append box_in g (e ∷ []));
    first = v.first;
    falls = v.falls;
    bottom = counted_is Val larger_val p a i y v.bottom bot;
    tops = each_append _ g e
        (each_map (Under p.ceiling) _ g (λ d u. record { val = u.val; under = lower_keeps p.ceiling d.y y v.ceiling w u.under }) v.tops)
        (record { val = ew; under = lower_takes p.ceiling e.y y v.ceiling w (omega (arith, ap k m)) });
    leads = each_append (λ d. T (le (containing_lead d) d.inset)) g e v.leads u;
    answers = each_append (λ d. d.x ≡ x_from p.width d) g e v.answers r;
    rises = pairs_append (λ d d'. T (le d.y d'.y)) g e v.rises (each_map (Under p.ceiling) (λ d. T (le d.y e.y)) g (λ d u. key→le u.val.num ew.num (omega (arith, ap k m, h d.y u.under))) v.tops);
    ceiling = lower_is Val larger_val p.ceiling (Some y) v.ceiling w;
  }
    where
      ew : Val e.y
      ew = subst Val (sym m) w

  abbrev entry : Float → Accepted
  entry t = record { call = c; x = x; y = y; inset = t }

  counted_ok : box_of a i y ≡ box_in (entry i) → T (le (containing_lead (entry i)) i) → x ≡ x_from p.width (entry i) → Inv (counted p a i y) (g ++ entry (last_inset (counted p a i y)) ∷ [])
  counted_ok o u r = subst (λ (t : Float). Inv (counted p a i y) (g ++ entry t ∷ [])) (sym (last_inset_lem p a i y)) (counted_as (entry i) refl o u r)

-- ---- a box is recorded
module _ (p : Page) (g : List Accepted) (a : Ask) (i : Float) (m : Made) (v : Inv p g) (q : Asked a) (w : Ins i) (b : T (in_reach (add binary32 i a.width))) (n : length m.bands ≤ max_bands) (D : Type 0) (o : MadeOk p.bands a (first_allowed p) i D m) where
  edge : Ins (add binary32 i a.width)
  edge = sum_ins w q.width b

  wider : k i ≤ k (add binary32 i a.width)
  wider = sum_grows (ins_val w) q.width

  same_length : length (recorded p a i m).bands ≡ length m.bands
  same_length = length_mark _ _ _ m.bands _ _

  recorded_grows : Grows p.bands (recorded p a i m).bands
  recorded_grows = grows_trans p.bands m.bands _ o.grows (grows_mark _ _ _ m.bands _ _ (λ j u x y. omega (arith, wider, o.covers j u (omega (arith, o.order)) y)))

  recorded_ok : Inv (recorded p a i m) g
  recorded_ok = let f = firsts a.side p.left_first p.right_first m.start o.first in record {
    width = v.width;
    chain = chain_mark _ _ _ (inf true) m.bands _ _ edge o.chain;
    count = omega (arith, same_length);
    full = v.full;
    boxes = v.boxes;
    first = omega (arith, same_length, o.order, o.last);
    falls = subst (λ (s : ℕ). OneFalls s l) (sym f) (λ r. sides a.side r m.start l (o.falls (add binary32 i a.width) (length p.boxes) wider));
    bottom = v.bottom;
    ceiling = v.ceiling;
    tops = v.tops;
    leads = v.leads;
    answers = v.answers;
    rises = v.rises;
  }
    where
      l : List Segment
      l = (recorded p a i m).bands

  -- what is before the box ends at or above its y
  recorded_sunk : (j : ℕ) → j < first_allowed (recorded p a i m) → k (get_or (recorded p a i m).bands j none).end ≤ k m.y
  recorded_sunk j h =
      let f = firsts a.side p.left_first p.right_first m.start o.first in
      omega (arith, ap k (mark_end a.side (add binary32 i a.width) (length p.boxes) m.bands m.start m.end j), chain_under (inf true) m.bands j m.start o.chain (omega arith) (omega (arith, o.order, o.last)), o.top)

-- ---- a placement whose input is in order
module _ (p : Page) (g : List Accepted) (c : Call) (s : Spot) (v : Inv p g) (q : Asked (ask_of p c)) (h : (z : Float) → AtMost z p.ceiling → k z ≤ k (lowest p c)) (e : (y : Float) → Val y → k (lowest p c) ≤ k y → LowEnough p c y) (n : length p.boxes < max_boxes) (H : Count p.bands) (f : Found p.bands (ask_of p c) (first_allowed p) (lowest p c) H s) (r : T (le (ask_of p c).cb_lead s.inset)) where
  put_ok : Step p g c (put p (ask_of p c) s)
  unfolding put flat high
  put_ok =
      both (Step p g c) (eq c.height zero+)
      (λ t. both (Step p g c) (near a s.inset s.y)
      (λ u. record {
        inv = counted_ok p g c a s.inset (x_of a s.inset) s.y v q f.y (and_l (in_reach (add binary32 s.y a.height)) (in_reach (add binary32 s.inset a.width)) u) n (λ z o. omega (arith, f.low, h z o)) (box_noted p c s.inset (x_of a s.inset) s.y) (in_container p c s.inset (x_of a s.inset) s.y r) (x_noted p c s.inset s.y);
        grows = grows_refl p.bands;
        lies = e s.y f.y f.low;
        sunk = λ t i b u. lower_keeps p.ceiling (get_or p.bands i none).end s.y v.ceiling f.y (t i b u);
      })
      (λ u. refuse_ok p g c Refusal.TooFar v))
      (λ t. both (Step p g c) (near a s.inset m.y)
      (λ u. let x = and_l (in_reach (add binary32 m.y a.height)) (in_reach (add binary32 s.inset a.width)) u in
      let z = and_r (in_reach (add binary32 m.y a.height)) (in_reach (add binary32 s.inset a.width)) u in
      let o = d.1 x in
      both (Step p g c) (leb (length m.bands) max_bands)
      (λ w. let l = leb→le (length m.bands) max_bands w in record {
        inv = counted_ok (recorded p a s.inset m) g c a s.inset (x_of a s.inset) m.y (recorded_ok p g a s.inset m v q f.inset z l D o) q d.0.0 x n (λ z o. omega (arith, f.low, d.0.1, h z o)) (box_noted p c s.inset (x_of a s.inset) m.y) (in_container p c s.inset (x_of a s.inset) m.y r) (x_noted p c s.inset m.y);
        grows = recorded_grows p g a s.inset m v q f.inset z l D o;
        lies = e m.y d.0.0 (omega (arith, f.low, d.0.1));
        sunk = λ t i b u. lower_takes p.ceiling _ m.y v.ceiling d.0.0 (recorded_sunk p g a s.inset m v q f.inset z l D o i b);
      })
      (λ w. refuse_ok p g c Refusal.BandsFull v))
      (λ u. refuse_ok p g c Refusal.TooFar v))
    where
      a : Ask
      a = ask_of p c

      m : Made
      m = make a p.bands s

      D : Type 0
      D = s.end < length p.bands → k (add binary32 s.y a.height) ≤ k (get_or p.bands s.end none).end

      d : (Val m.y × (k s.y ≤ k m.y)) × (T (in_reach (add binary32 m.y a.height)) → MadeOk p.bands a (first_allowed p) s.inset D m)
      d = make_ok p.bands a (first_allowed p) (lowest p c) s v.chain q (v.falls a.side) v.first H f (le→key q.cb_lead.num f.inset.num r)

-- ---- what the search finds on such a page
module _ (p : Page) (g : List Accepted) (c : Call) (v : Inv p g) (n : Each Known (numbers c)) where
  lowest_val : Val (lowest p c)
  lowest_val = lowest_is Val larger_val p c n.1.1.0 v.ceiling v.bottom

  pub spot_ok : (H : Count p.bands) → H.Ok (ask_of p c).cb_lead → H.Ok (lowest p c) → Found p.bands (ask_of p c) (first_allowed p) (lowest p c) H (spot_of p c)
  unfolding spot_of
  spot_ok H o o' =
      search_law l (ask_of p c) (first_allowed p) y H v.chain (asked p c v.width n) o (first_below l m y) (first_ge l m y v.first) (first_le l m y) lowest_val o'
      (λ h. omega (arith, lt→key lowest_val.num (chain_at (inf true) l (first_below l m y) v.chain h).end.num (first_end l m y h)))
      (v.falls (side_of c.side))
    where
      l : List Segment
      l = p.bands

      m : ℕ
      m = first_allowed p

      y : Float
      y = lowest p c

  pub spot_leads : T (le (ask_of p c).cb_lead (spot_of p c).inset)
  unfolding spot_of
  spot_leads = search_leads p.bands (ask_of p c) v.chain (asked p c v.width n).cb_lead.num _ _ (first_le p.bands _ _)

  pub spot_in : Taken p.bands (ask_of p c) v.chain (spot_of p c)
  unfolding spot_of
  spot_in = start_in p.bands (ask_of p c) v.chain _ _ (first_le p.bands _ _) lowest_val.num (first_end p.bands _ _)

  -- the made place is no higher
  pub made_low : Val (make (ask_of p c) p.bands (spot_of p c)).y × (k (spot_of p c).y ≤ k (make (ask_of p c) p.bands (spot_of p c)).y)
  made_low =
      let q = asked p c v.width n in
      let f = spot_ok (no_count p.bands) tt tt in
      (make_ok p.bands (ask_of p c) (first_allowed p) (lowest p c) (spot_of p c) v.chain q (v.falls (side_of c.side)) v.first (no_count p.bands) f (le→key q.cb_lead.num f.inset.num spot_leads)).0

  -- rule 2 never decides: it passes over what rule 1 has passed already
  pub first_idle : Sunk p → first_below p.bands (first_allowed p) (lowest p c) ≡ first_below p.bands 0 (lowest p c)
  first_idle t =
      first_skip p.bands (first_allowed p) (lowest p c)
      (λ i b u. not_T (lt (lowest p c) (get_or p.bands i none).end) (λ w. not-suc-le-zero {n = 0} (omega (arith, lt→key lowest_val.num (chain_at (inf true) p.bands i v.chain u).end.num w, lowest_over p c n.1.1.0 v.ceiling v.bottom (get_or p.bands i none).end (t i b u)))))

admitted_ok : (p : Page) (g : List Accepted) (c : Call) → Inv p g → Each Known (numbers c) → Step p g c (admitted p c)
unfolding admitted
admitted_ok p g c v n =
    both (Step p g c) (ltb (length p.boxes) max_boxes)
    (λ w. put_ok p g c (spot_of p c) v (asked p c v.width n) (lowest_over p c n.1.1.0 v.ceiling v.bottom) (low_enough p c n.1.1.0 v.ceiling v.bottom) (ltb→lt (length p.boxes) max_boxes w) (no_count p.bands) (spot_ok p g c v n (no_count p.bands) tt tt) (spot_leads p g c v n))
    (λ w. refuse_ok p g c Refusal.BoxesFull v)

-- one placement
pub place_ok : (p : Page) (g : List Accepted) (c : Call) → Inv p g → Each F32 (handed (box c)) → Step p g (cleaned c) (place p c)
unfolding place checked
place_ok p g c v f =
    check_both (Step p g (cleaned c)) (ltb c.side 2 && ltb c.clear 4) (numbers (cleaned c))
    (λ t u. admitted_ok p g (cleaned c) v (known (numbers (cleaned c)) (cleaned_fits c f) t u))
    (λ n o. refuse_ok p g (cleaned c) n v)

-- ---- the width: set on a page with no box, or refused
pub width_both : (P : Result ⊤ Refusal → Type 0) (bs : List PlacedFloatedBox) (w : Float) → F32 w → (Ins w → T (all_allowed (size w ∷ [])) → length bs ≡ 0 → P (Ok tt)) → ((n : Refusal) → P (Err n)) → P (width_check bs w)
unfolding width_check
width_both P bs w f p q =
    check_both P true (size w ∷ [])
    (λ t u. both P (eqb (length bs) 0) (λ x. p (known (size w ∷ []) (f, tt) t u).0 u (eqb→eq (length bs) 0 x)) (λ x. q Refusal.WidthFixed))
    (λ n o. q n)

-- with no box there is no accepted placement
none_accepted : (P : Accepted → Type 0) (g : List Accepted) → length (map box_in g) ≡ 0 → Each P g
none_accepted P [] e = tt
none_accepted P (a ∷ g) e = absurd (not-suc-le-zero {n = 0} (omega arith))

pub wide_ok : (p : Page) (g : List Accepted) (w : Float) → Inv p g → F32 w → Inv (set_width p w) g × ((set_width p w).bands ≡ p.bands)
unfolding set_width
wide_ok p g w v f =
    width_both (λ d. Inv (if_done d (with_width p (plus_zero w)) p) g × ((if_done d (with_width p (plus_zero w)) p).bands ≡ p.bands)) p.boxes (plus_zero w) (plus_fits w f)
    (λ i t n. (
      record {
        width = i;
        chain = v.chain;
        count = v.count;
        full = v.full;
        boxes = v.boxes;
        first = v.first;
        falls = v.falls;
        bottom = v.bottom;
        ceiling = v.ceiling;
        tops = v.tops;
        leads = v.leads;
        answers = none_accepted (λ a. a.x ≡ x_from (plus_zero w) a) g (ap length (sym v.boxes) ∙ n);
        rises = v.rises;
      },
      refl,
    ))
    (λ n. (v, refl))

pub wide_sunk : (p : Page) (w : Float) → Sunk p → Sunk (set_width p w)
wide_sunk p w t = width_ways Sunk p w t t
