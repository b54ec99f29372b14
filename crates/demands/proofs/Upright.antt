use Rattle.std.specs.Prelude.{Some}
-- No height that a page keeps is a minus zero: min_y is handed in without one, and the larger of two and a sum make none. So a kept height is told by its key.
use mathlib.Core.Path.{◌≡◌, refl, sym, ◌∙◌}
use Prim.Native.Nat.{ℕ, suc}
use native.Mathlib.Omega.{arith}
use mathlib.Core.Bool.{Bool, true, false, not}
use mathlib.Core.List.{List, [], ◌∷◌}
use lib.Dec.{T, ltb, eqb, T_not}
use lib.Ieee.{Float, nan, inf, fin, binary32, lt, le, eq}
use lib.Ieee.Fits.{nan-fits, inf-fits}
use lib.ListN.{length, get_or}
use Rattle.f32_laws.specs.Numbers.{larger, zero+}
use Rattle.f32_laws.specs.Key.{Num}
use Rattle.f32_laws.proofs.Tests.{both}
use Rattle.f32_laws.proofs.Keys.{num, zero_fin, eq→key, key→eq, zero_key}
use Rattle.f32_laws.proofs.Magnitude.{bias_pos}
use Rattle.f32_laws.proofs.Plain.{Plain, plain_zero, plain_larger, plain_same, plain_add}
use Rattle.float.specs.declared.FloatDirection.{FloatDirection}
use Rattle.float.specs.declared.Segment.{Segment}
use Rattle.float.specs.declared.fit.Ask.{Ask}
use Rattle.float.specs.declared.search.Reach.{Reach}
use Rattle.float.specs.declared.search.Spot.{Spot}
use Rattle.float.specs.Numbers.{plus_zero}
use Rattle.float.specs.Bands.{lead, trail, none, marked, split_at, last_end}
use Rattle.float.specs.Page.{Page, page_of, fresh_context, fresh}
use Rattle.float.specs.Fit.{fits}
use Rattle.float.specs.Search.{Try, State, at_start, at_end, joined, opened, taller, high_turn, join_turn, end_turn, fit_turn, start_turn, turn}
use Rattle.float.specs.Place.{Call, cleaned, ask_of, spot_of, Made, end_of, gapped, started_at, make, recorded, counted, place, set_width}
use Rattle.demands.specs.Runs.{Each, box, handed, F32}
use Rattle.demands.proofs.Laws.{on_either}
use Rattle.demands.proofs.Chain.{each_split, each_mark}
use Rattle.demands.proofs.First.{first_le}
use Rattle.demands.proofs.Turns.{Ordered, Keeps, search_has}
use Rattle.demands.proofs.Splits.{started_ways, make_ways}
use Rattle.demands.proofs.Ways.{place_ways, width_ways}
use Rattle.demands.proofs.Lists.{each_append, each_at}
use Rattle.demands.proofs.Input.{plus_fits, bottom_on, BottomIs, lower_is, counted_is, lowest_is}

abbrev pub Plus : Float → Type 0
Plus x = Plain binary32 x

-- ---- minus zero is read as plus zero
pub larger_plus : (x y : Float) → Plus x → Plus y → Plus (larger x y)
larger_plus x y p q = plain_larger p q

not_zero : (x : Float) → F32 x → T (not (eq x zero+)) → Plus x
not_zero nan f t = record { fit = f; plus = λ e. refl }
not_zero (inf true) f t = record { fit = f; plus = λ e. absurd (let z = bias_pos binary32 in omega (arith, e)) }
not_zero (inf false) f t = record { fit = f; plus = λ e. refl }
not_zero (fin s m e) f t = record { fit = f; plus = λ h. absurd (T_not (eq (fin s m e) zero+) t (key→eq (record { is = f }) (num (zero_fin binary32)) (h ∙ sym (zero_key binary32)))) }

pub plus_plain : (x : Float) → F32 x → Plus (plus_zero x)
unfolding plus_zero
plus_plain x f = both Plus (eq x zero+) (λ t. plain_zero) (λ t. not_zero x f t)

-- so it is read so once, and what is none stands
pub plain_stands : (x : Float) → Num binary32 x → Plus x → plus_zero x ≡ x
unfolding plus_zero
plain_stands x n p = both (λ (z : Float). z ≡ x) (eq x zero+) (λ t. sym (plain_same n (num (zero_fin binary32)) p plain_zero (eq→key n (num (zero_fin binary32)) t))) (λ t. refl)

pub plus_zero_lem : plus_zero zero+ ≡ zero+
unfolding plus_zero
plus_zero_lem = both (λ (z : Float). z ≡ zero+) (eq zero+ zero+) (λ t. refl) (λ t. refl)

pub plus_twice : (x : Float) → plus_zero (plus_zero x) ≡ plus_zero x
unfolding plus_zero
plus_twice x = go (eq x zero+) refl
  where
    go : (t : Bool) → eq x zero+ ≡ t → plus_zero (plus_zero x) ≡ plus_zero x
    go true e = simp (e, plus_zero) plus_zero_lem
    go false e = simp (e, plus_zero)

-- ---- a page
abbrev Edged : Segment → Type 0
Edged b = Plus b.start × Plus b.end

pub record Upright (p : Page) : Type 0 where
  pub bands : Each Edged p.bands
  pub ceiling : BottomIs Plus p.ceiling
  pub bottom : (r : FloatDirection) → BottomIs Plus (bottom_on r p)

pub fresh_upright : Upright fresh
unfolding fresh page_of fresh_context
fresh_upright = record { bands = tt; ceiling = tt; bottom = λ r. on_either (BottomIs Plus) r tt tt }

-- a read past the last band gives no zero
band_plus : (l : List Segment) (i : ℕ) → Each Edged l → Edged (get_or l i none)
band_plus l i h = each_at Edged l i none (no_edge, no_edge) h
  where
    no_edge : Plus nan
    no_edge = record { fit = nan-fits binary32; plus = λ e. refl }

top_plus : Plus (inf true)
unfolding eq zero+
top_plus = not_zero (inf true) (inf-fits binary32 true) tt

last_plus : (x : Float) (l : List Segment) → Plus x → Each Edged l → Plus (last_end x l)
unfolding last_end
last_plus x [] p h = p
last_plus x (b ∷ bs) p h = last_plus b.end bs h.0.1 h.1

-- ---- the search: y is where it began, or raised to a start
module _ (l : List Segment) (a : Ask) (e : Each Edged l) where
  abbrev At : State → Type 0
  At (at_start t) = Plus t.y
  At (at_end t j) = Plus t.y

  abbrev Found : Spot → Type 0
  Found p = Plus p.y

  end_plus : (t : Try) (j : Reach) → Plus t.y → Keeps l a At Found (end_turn l a t j)
  unfolding end_turn join_turn high_turn
  end_plus t j v =
      let b = get_or l t.end none in
      let i = joined a.side j b in
      let K = Keeps l a At Found in
      both K (ltb t.end (length l))
      (λ r. both K (fits a i.lead i.trail) (λ u. both K (le a.height (taller i b (eqb t.end t.start)).height) (λ w. v) (λ w. v)) (λ u. v))
      (λ r. v)

  turn_plus : (st : State) → Ordered l a st → At st → Keeps l a At Found (turn l a st)
  unfolding start_turn fit_turn
  turn_plus (at_start t) o v =
      let b = get_or l t.start none in
      let z = larger t.y b.start in
      let K = Keeps l a At Found in
      both K (ltb t.start (length l))
      (λ r. both K (fits a (lead a.side b) (trail a.side b)) (λ u. end_plus _ (opened a.side b z) (plain_larger v (band_plus l t.start e).0)) (λ u. v))
      (λ r. v)
  turn_plus (at_end t j) o v = end_plus t j v

-- ---- the made bands
split_edged : (l : List Segment) (i : ℕ) (y : Float) → Plus y → Each Edged l → Each Edged (split_at l i y)
split_edged l i y v = each_split Edged y (λ b d. ((d.0, v), (v, d.1))) l i

module _ (a : Ask) (f : F32 a.height) where
  abbrev Kept : Made → Type 0
  Kept m = Each Edged m.bands × Plus m.y

  started_edged : (l : List Segment) (s e : ℕ) (y : Float) → Plus y → Each Edged l → Kept (started_at a l s e y)
  started_edged l s e y v h =
      let b = plain_add a.height v f in
      started_ways Kept a l s e y (λ o u. (split_edged l _ _ b h, v)) (λ o. (h, v)) (λ o u. (each_append Edged l _ h (last_plus (inf true) l top_plus h, b), v)) (λ o u. (h, v))

  pub made_edged : (l : List Segment) (p : Spot) → Plus p.y → Each Edged l → Kept (make a l p)
  made_edged l p v h =
      let z = last_plus (inf true) l top_plus h in
      let y = plain_larger z v in
      make_ways Kept a l p
      (λ o. started_edged l p.start p.end p.y v h)
      (λ o u. started_edged (split_at l p.start p.y) (suc p.start) (suc p.end) p.y v (split_edged l p.start p.y v h))
      (λ o. (each_append Edged (gapped l (end_of l) p.y) _ (both (Each Edged) (lt (end_of l) p.y) (λ t. each_append Edged l _ h (z, v)) (λ t. h)) (y, plain_add a.height y f), y))

-- ---- a placement
module _ (p : Page) (v : Upright p) where
  pub spot_plus : (c : Call) → Plus c.min_y → Plus (spot_of p c).y
  unfolding spot_of
  spot_plus c m = search_has p.bands (ask_of p c) _ _ (turn_plus p.bands (ask_of p c) v.bands) _ _ (first_le p.bands _ _) (lowest_is Plus larger_plus p c m v.ceiling v.bottom)

  counted_upright : (a : Ask) (i y : Float) → F32 a.height → Plus y → Upright (counted p a i y)
  counted_upright a i y f w = record {
    bands = v.bands;
    ceiling = lower_is Plus larger_plus p.ceiling (Some y) v.ceiling w;
    bottom = counted_is Plus larger_plus p a i y v.bottom (plain_add a.height w f);
  }

  recorded_upright : (a : Ask) (i : Float) (m : Made) → Each Edged m.bands → Upright (recorded p a i m)
  recorded_upright a i m h = record {
    bands = each_mark Edged a.side _ _ (λ b d. on_mark a.side _ _ b d) m.bands m.start m.end h;
    ceiling = v.ceiling;
    bottom = v.bottom;
  }
    where
      on_mark : (r : FloatDirection) (x : Float) (k : ℕ) (b : Segment) → Edged b → Edged (marked r x k b)
      on_mark FloatDirection.Left x k b d = d
      on_mark FloatDirection.Right x k b d = d

pub place_upright : (p : Page) (c : Call) → Upright p → Each F32 (handed (box c)) → Upright (place p c).page
place_upright p c v f =
    let d = cleaned c in
    let a = ask_of p d in
    let s = spot_of p d in
    let h = plus_fits c.height f.1.0 in
    let y = spot_plus p v d (plus_plain c.min_y f.1.1.0) in
    let m = made_edged a h p.bands s y v.bands in
    place_ways (λ r. Upright r.page) p c (λ n. v) (counted_upright p v a s.inset s.y h y)
    (counted_upright (recorded p a s.inset (make a p.bands s)) (recorded_upright p v a s.inset (make a p.bands s) m.0) a s.inset _ h m.1)

-- ---- the width
pub wide_upright : (p : Page) (w : Float) → Upright p → Upright (set_width p w)
wide_upright p w v = width_ways Upright p w v (record { bands = v.bands; ceiling = v.ceiling; bottom = v.bottom })
