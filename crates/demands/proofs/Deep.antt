use Rattle.std.specs.Prelude.{Option, Some, None}
-- The depth, for any f32: it is the largest bottom of the accepted boxes and the larger of the two kept bottoms, no band ends below it, and it never falls.
use mathlib.Core.Path.{◌≡◌, refl, sym, ap, ◌∙◌, subst}
use mathlib.Core.Logic.{◌⊎◌, inl, inr}
use Prim.Native.Nat.{ℕ, suc, ◌≤◌}
use native.Mathlib.Omega.{arith}
use mathlib.Core.Bool.{true}
use mathlib.Core.List.{List, [], ◌∷◌, ◌++◌}
use lib.Dec.{T}
use lib.Ieee.{Float, inf, binary32, add, lt, le}
use lib.Ieee.Fits.{and_l}
use lib.ListN.{length}
use Rattle.f32_laws.specs.Numbers.{larger}
use Rattle.f32_laws.proofs.Tests.{both}
use Rattle.f32_laws.proofs.Keys.{le→key, key→le}
use Rattle.f32_laws.proofs.Larger.{larger_key, larger_one}
use Rattle.f32_laws.proofs.Plain.{plain_add, plain_same}
use Rattle.float.specs.declared.FloatDirection.{FloatDirection}
use Rattle.float.specs.declared.Segment.{Segment}
use Rattle.float.specs.declared.fit.Ask.{Ask}
use Rattle.float.specs.declared.search.Spot.{Spot}
use Rattle.float.specs.Numbers.{in_reach}
use Rattle.float.specs.Bands.{on_side, marked, split_at}
use Rattle.float.specs.Page.{Page, page_of, fresh_context, fresh}
use Rattle.float.specs.Clear.{lower}
use Rattle.float.specs.Place.{Call, cleaned, numbers, PlaceResult, ask_of, spot_of, Made, end_of, gapped, started_at, make, place, set_width}
use Rattle.demands.specs.Runs.{Each, Any, Accepted, noted, box, handed, F32, bottom, AtOrAbove, Largest}
use Rattle.demands.proofs.Laws.{k, Val, sum_val, sum_grows}
use Rattle.demands.proofs.Chain.{Chain, each_split, each_mark}
use Rattle.demands.proofs.Splits.{started_ways, make_ways}
use Rattle.demands.proofs.Seek.{no_count}
use Rattle.demands.proofs.Ways.{Nears, place_facts, width_ways}
use Rattle.demands.proofs.Lists.{each_append, each_map, some_last, some_append, some_each}
use Rattle.demands.proofs.Input.{Known, known, cleaned_fits, plus_fits, BottomIs, AtMost, lower_is, larger_val, lower_keeps, lower_takes}
use Rattle.demands.proofs.Whole.{Inv, spot_ok, made_low}
use Rattle.demands.proofs.Upright.{Plus, larger_plus, plus_plain, Upright, spot_plus, made_edged}

-- ---- numbers in reach that are no minus zero: told by their keys
pub record Kept (x : Float) : Type 0 where
  pub val : Val x
  pub plus : Plus x

kept_same : {x y : Float} → Kept x → Kept y → k x ≡ k y → x ≡ y
kept_same p q = plain_same p.val.num q.val.num p.plus q.plus

larger_kept : (x y : Float) → Kept x → Kept y → Kept (larger x y)
larger_kept x y p q = record { val = larger_val x y p.val q.val; plus = larger_plus x y p.plus q.plus }

both_kept : (b : Option Float) → BottomIs Val b → BottomIs Plus b → BottomIs Kept b
both_kept None v u = tt
both_kept (Some x) v u = record { val = v; plus = u }

kept_val : (b : Option Float) → BottomIs Kept b → BottomIs Val b
kept_val None v = tt
kept_val (Some x) v = v.val

-- the lower of two, whichever of them is lowered to x
sides_lower : (s : FloatDirection) (l r : Option Float) (x : Float) → BottomIs Kept l → BottomIs Kept r → Kept x → lower (lower l r) (Some x) ≡ lower (on_side s (lower l (Some x)) l) (on_side s r (lower r (Some x)))
unfolding lower
sides_lower FloatDirection.Left None None x p q v = refl
sides_lower FloatDirection.Left None (Some z) x p q v = ap Some (kept_same (larger_kept z x q v) (larger_kept x z v q) (omega (arith, larger_key q.val.num v.val.num, larger_key v.val.num q.val.num)))
sides_lower FloatDirection.Left (Some y) None x p q v = refl
sides_lower FloatDirection.Left (Some y) (Some z) x p q v =
    let a = larger_kept y z p q in
    let b = larger_kept y x p v in
    ap Some (kept_same (larger_kept _ x a v) (larger_kept _ z b q) (omega (arith, larger_key a.val.num v.val.num, larger_key b.val.num q.val.num, larger_key p.val.num q.val.num, larger_key p.val.num v.val.num)))
sides_lower FloatDirection.Right None r x p q v = refl
sides_lower FloatDirection.Right (Some y) None x p q v = refl
sides_lower FloatDirection.Right (Some y) (Some z) x p q v =
    let a = larger_kept y z p q in
    let b = larger_kept z x q v in
    ap Some (kept_same (larger_kept _ x a v) (larger_kept y _ p b) (omega (arith, larger_key a.val.num v.val.num, larger_key p.val.num b.val.num, larger_key p.val.num q.val.num, larger_key q.val.num v.val.num)))

-- ---- the invariant: the depth d beside the two bottoms, the bands and the log
pub record Low (d : Option Float) (a : Accepted) : Type 0 where
  pub kept : Kept (bottom a)
  pub under : AtMost (bottom a) d

abbrev Ends : Option Float → Segment → Type 0
Ends d b = AtMost b.end d

pub record DeepAt (d l r : Option Float) (bs : List Segment) (g : List Accepted) : Type 0 where
  pub kept : BottomIs Kept d
  pub low : Each (Low d) g
  pub met : BottomIs (λ x. Any (λ a. bottom a ≡ x) g) d
  pub sides : d ≡ lower l r
  pub ends : Each (Ends d) bs

abbrev pub Deep : Page → List Accepted → Type 0
Deep p g = DeepAt p.depth p.left_bottom p.right_bottom p.bands g

pub fresh_deep : Deep fresh []
unfolding fresh page_of fresh_context lower
fresh_deep = record { kept = tt; low = tt; met = tt; sides = refl; ends = tt }

pub wide_deep : (p : Page) (g : List Accepted) (w : Float) → Deep p g → Deep (set_width p w) g
wide_deep p g w v = width_ways (λ q. Deep q g) p w v v

-- ---- a height that is kept, lowered to x: what was at or above it stays so, and what is at or above x is
abbrev pub Sinks : Option Float → Option Float → Type 0
Sinks d e = (x : Float) → AtMost x d → AtMost x e

sinks : {x : Float} (d : Option Float) → BottomIs Kept d → Kept x → Sinks d (lower d (Some x))
sinks {x} d v w z h = lower_keeps d z x (kept_val d v) w.val h

takes : {x : Float} (d : Option Float) → BottomIs Kept d → Kept x → (z : Float) → k z ≤ k x → AtMost z (lower d (Some x))
takes {x} d v w z h = lower_takes d z x (kept_val d v) w.val h

-- ---- an accepted box
module _ (d l r : Option Float) (bs : List Segment) (g : List Accepted) (v : DeepAt d l r bs g) (left : BottomIs Kept l) (right : BottomIs Kept r) (s : FloatDirection) (e : Accepted) (w : Kept (bottom e)) where
  abbrev down : Option Float
  down = lower d (Some (bottom e))

  met_more : (d : Option Float) → BottomIs (λ x. Any (λ a. bottom a ≡ x) g) d → BottomIs (λ x. Any (λ a. bottom a ≡ x) (g ++ e ∷ [])) (lower d (Some (bottom e)))
  unfolding lower
  met_more None m = some_last (λ a. bottom a ≡ bottom e) g e refl
  met_more (Some x) m = go (larger_one x (bottom e))
    where
      go : (larger x (bottom e) ≡ x) ⊎ (larger x (bottom e) ≡ bottom e) → Any (λ a. bottom a ≡ larger x (bottom e)) (g ++ e ∷ [])
      go (inl i) = some_append (λ a. bottom a ≡ x) _ g e (λ a h. h ∙ sym i) m
      go (inr i) = some_last _ g e (sym i)

  deepened : (cs : List Segment) → Each (Ends down) cs → DeepAt down (on_side s (lower l (Some (bottom e))) l) (on_side s r (lower r (Some (bottom e)))) cs (g ++ e ∷ [])
  deepened cs h = record {
    kept = lower_is Kept larger_kept d (Some (bottom e)) v.kept w;
    low = each_append (Low down) g e (each_map (Low d) (Low down) g (λ a o. record { kept = o.kept; under = sinks d v.kept w (bottom a) o.under }) v.low) (record { kept = w; under = takes d v.kept w (bottom e) (omega arith) });
    met = met_more d v.met;
    sides = ap (λ (z : Option Float). lower z (Some (bottom e))) v.sides ∙ sides_lower s l r (bottom e) left right w;
    ends = h;
  }

-- ---- the made bands end where the old ones do, at y or at the bottom
module _ (a : Ask) (E : Option Float) where
  abbrev MadeEnds : Float → Made → Type 0
  MadeEnds y m = AtMost y E → AtMost (add binary32 m.y a.height) E → Each (Ends E) m.bands

  split_ends : (l : List Segment) (i : ℕ) (z : Float) → AtMost z E → Each (Ends E) l → Each (Ends E) (split_at l i z)
  split_ends l i z t = each_split (Ends E) z (λ b h. (t, h)) l i

  started_ends : (l : List Segment) (s e : ℕ) (y : Float) → Each (Ends E) l → MadeEnds y (started_at a l s e y)
  started_ends l s e y h = started_ways (MadeEnds y) a l s e y (λ o u t b. split_ends l _ _ b h) (λ o t b. h) (λ o u t b. each_append (Ends E) l _ h b) (λ o u t b. h)

  made_ends : (l : List Segment) (p : Spot) → Each (Ends E) l → MadeEnds p.y (make a l p)
  made_ends l p h =
      make_ways (MadeEnds p.y) a l p
      (λ o. started_ends l p.start p.end p.y h)
      (λ o u t. started_ends (split_at l p.start p.y) (suc p.start) (suc p.end) p.y (split_ends l p.start p.y t h) t)
      (λ o t b. each_append (Ends E) (gapped l (end_of l) p.y) _ (both (Each (Ends E)) (lt (end_of l) p.y) (λ u. each_append (Ends E) l _ h t) (λ u. h)) b)

marked_ends : (E : Option Float) (r : FloatDirection) (x : Float) (n : ℕ) (b : Segment) → Ends E b → Ends E (marked r x n b)
marked_ends E FloatDirection.Left x n b h = h
marked_ends E FloatDirection.Right x n b h = h

-- ---- a placement
module _ (p : Page) (g : List Accepted) (c : Call) (v : Inv p g) (u : Upright p) (d : Deep p g) (f : Each F32 (handed (box c))) where
  abbrev After : PlaceResult → Type 0
  After r = Deep r.page (noted r.answer (cleaned c) r.page g) × Sinks p.depth r.page.depth

  abbrev ask : Ask
  ask = ask_of p (cleaned c)

  abbrev spot : Spot
  spot = spot_of p (cleaned c)

  abbrev made : Made
  made = make ask p.bands spot

  numbers_known : (y : Float) → Nears p (cleaned c) y → Each Known (numbers (cleaned c))
  numbers_known y t = known (numbers (cleaned c)) (cleaned_fits c f) t.0 t.1

  spot_plain : Plus spot.y
  spot_plain = spot_plus p u (cleaned c) (plus_plain c.min_y f.1.1.0)

  made_plain : Plus made.y
  made_plain = (made_edged ask (plus_fits c.height f.1.0) p.bands spot spot_plain u.bands).1

  bottom_kept : (r : FloatDirection) → BottomIs Kept (on_side r p.left_bottom p.right_bottom)
  bottom_kept r = both_kept (on_side r p.left_bottom p.right_bottom) (v.bottom r) (u.bottom r)

  -- the bottom of a box that is near enough
  bottom_of : (y : Float) → Val y → Plus y → Nears p (cleaned c) y → Kept (add binary32 y ask.height)
  bottom_of y w q t = record {
    val = sum_val w (numbers_known y t).1.0 (and_l (in_reach (add binary32 y ask.height)) (in_reach (add binary32 spot.inset ask.width)) t.2);
    plus = plain_add ask.height q (plus_fits c.height f.1.0);
  }

  abbrev entry : (x y i : Float) → Accepted
  entry x y i = record { call = cleaned c; x = x; y = y; inset = i }

  entered : (e : Accepted) → Kept (bottom e) → (bs : List Segment) → Each (Ends (lower p.depth (Some (bottom e)))) bs → DeepAt (lower p.depth (Some (bottom e))) (on_side ask.side (lower p.left_bottom (Some (bottom e))) p.left_bottom) (on_side ask.side p.right_bottom (lower p.right_bottom (Some (bottom e)))) bs (g ++ e ∷ [])
  entered = deepened p.depth p.left_bottom p.right_bottom p.bands g d (bottom_kept FloatDirection.Left) (bottom_kept FloatDirection.Right) ask.side

  -- the depth after a box at y: what ends above the old one does, and what ends at or above the bottom
  abbrev to : Float → Option Float
  to y = lower p.depth (Some (add binary32 y ask.height))

  still : (y : Float) → Kept (add binary32 y ask.height) → Each (Ends (to y)) p.bands
  still y w = each_map (Ends p.depth) (Ends (to y)) p.bands (λ b h. sinks p.depth d.kept w b.end h) d.ends

  below : (y z : Float) → Kept (add binary32 y ask.height) → k z ≤ k (add binary32 y ask.height) → AtMost z (to y)
  below y z w = takes p.depth d.kept w z

  pub place_deep : After (place p c)
  place_deep =
      place_facts After p c (λ n. (d, λ x h. h))
      (λ t. let w = bottom_of spot.y (spot_ok p g (cleaned c) v (numbers_known spot.y t) (no_count p.bands) tt tt).y spot_plain t in
      (entered (entry _ spot.y _) w p.bands (still spot.y w), sinks p.depth d.kept w))
      (λ t. let n = numbers_known made.y t in
      let m = made_low p g (cleaned c) v n in
      let w = bottom_of made.y m.0 made_plain t in
      let e = made_ends ask (to made.y) p.bands spot (still made.y w) (below made.y spot.y w (omega (arith, m.1, sum_grows m.0 n.1.0))) (below made.y (add binary32 made.y ask.height) w (omega arith)) in
      (entered (entry _ made.y _) w _ (each_mark (Ends (to made.y)) ask.side _ _ (marked_ends (to made.y) ask.side (add binary32 spot.inset ask.width) (length p.boxes)) made.bands made.start made.end e), sinks p.depth d.kept w))

-- ---- the words of the promises
module _ (d l r : Option Float) (bs : List Segment) (g : List Accepted) (v : DeepAt d l r bs g) where
  pub at_or_above : (x : Float) → Val x → AtMost x d → AtOrAbove x d
  at_or_above x w = go d v.kept
    where
      go : (e : Option Float) → BottomIs Kept e → AtMost x e → AtOrAbove x e
      go None q h = h
      go (Some y) q h = key→le w.num q.val.num h

  pub largest : Largest g d
  largest = go d g v.kept v.low v.met
    where
      go : (e : Option Float) (g : List Accepted) → BottomIs Kept e → Each (Low e) g → BottomIs (λ x. Any (λ a. bottom a ≡ x) g) e → Largest g e
      go None [] q h m = refl
      go None (a ∷ g) q h m = absurd h.0.under
      go (Some x) g q h m = (m, each_map (Low (Some x)) _ g (λ a o. key→le o.kept.val.num q.val.num o.under) h)

  -- and nothing else is
  pub alone : (e : Option Float) → Largest g e → e ≡ d
  alone = go d v.kept v.low v.met
    where
      go : (d : Option Float) → BottomIs Kept d → Each (Low d) g → BottomIs (λ x. Any (λ a. bottom a ≡ x) g) d → (e : Option Float) → Largest g e → e ≡ d
      go None q h m None o = refl
      go None q h m (Some z) o = absurd (some_each (λ a. bottom a ≡ z) (Low None) g (λ a i w. w.under) o.0 h)
      go (Some x) q h m None o = absurd (subst (Any (λ a. bottom a ≡ x)) o m)
      go (Some x) q h m (Some z) o =
          some_each (λ a. bottom a ≡ z) (Low (Some x)) g
          (λ a i w. let n = subst Kept i w.kept in
          some_each (λ b. bottom b ≡ x) (λ b. T (le (bottom b) z)) g
          (λ b j t. ap Some (kept_same n q (omega (arith, ap k i, w.under, le→key q.val.num n.val.num (subst (λ (y : Float). T (le y z)) j t)))))
          m o.1)
          o.0 h

-- of a height that was the depth
pub fallen : (d : Option Float) → BottomIs Kept d → (x : Float) → d ≡ Some x → (e : Option Float) → ((z : Float) → Val z → AtMost z e → AtOrAbove z e) → Sinks d e → AtOrAbove x e
fallen d v x i e f h = f x (subst (BottomIs Kept) i v).val (h x (subst (AtMost x) (sym i) (omega arith)))

-- of the ends of a page's bands
pub ends_above : (p : Page) (g : List Accepted) → Chain (inf true) p.bands → Deep p g → Each (λ b. AtOrAbove b.end p.depth) p.bands
ends_above p g c v = go (inf true) p.bands c v.ends
  where
    go : (x : Float) (l : List Segment) → Chain x l → Each (Ends p.depth) l → Each (λ b. AtOrAbove b.end p.depth) l
    go x [] c h = tt
    go x (b ∷ l) c h = (at_or_above _ _ _ _ _ v b.end c.1.end h.0, go b.end l c.2 h.1)
