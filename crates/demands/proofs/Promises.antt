use Rattle.std.specs.Prelude.{Option, Some, None, Result, Ok, Err, ⊤}
-- The promises over any sequence of calls from a fresh page, and CSS rules 1, 5 and 7. To read them takes the definitions and no other proof.
use mathlib.Core.Path.{◌≡◌, refl, sym, ap, subst}
use Prim.Native.Nat.{ℕ, ◌+◌, ◌≤◌, ◌<◌}
use mathlib.Core.Bool.{true, false, not}
use mathlib.Core.List.{List, map}
use lib.Dec.{T}
use lib.Ieee.{Float, inf, binary32, add, sub, lt, le, eq}
use lib.ListN.{length, get_or}
use Rattle.f32_laws.specs.Numbers.{zero+}
use Rattle.float.specs.declared.Clear.{Clear}
use Rattle.float.specs.declared.ContentSlot.{ContentSlot}
use Rattle.float.specs.declared.Direction.{Direction}
use Rattle.float.specs.declared.FloatContext.{FloatContext}
use Rattle.float.specs.declared.FloatDirection.{FloatDirection}
use Rattle.float.specs.declared.FloatIntrinsicWidthCalculator.{FloatIntrinsicWidthCalculator}
use Rattle.float.specs.declared.Refusal.{Refusal}
use Rattle.float.specs.declared.Segment.{Segment}
use Rattle.float.specs.declared.fit.Ask.{Ask}
use Rattle.float.specs.declared.bfc.BfcInsets.{BfcInsets}
use Rattle.float.specs.declared.slot.Insets.{Insets}
use Rattle.float.specs.Numbers.{plus_zero, in_reach}
use Rattle.float.specs.Refuse.{side_of}
use Rattle.float.specs.Bands.{same_side, other, lead, has_float, box_on, none, first_below}
use Rattle.float.specs.Page.{Page, page_of, stored}
use Rattle.float.specs.Calculator.{add_of}
use Rattle.float.specs.Clear.{raise_to, cleared}
use Rattle.float.specs.Fit.{fits}
use Rattle.float.specs.Place.{Call, cleaned, numbers, input_check, lowest, first_allowed, ask_of, spot_of, end_of, admitted, place, placed_page, held, place_of, with_width, width_of, if_done}
use Rattle.float.specs.Slot.{depth_of, active, seek, innermost, ContentCall, content_cleaned, content_slot, content, BfcCall, bfc_cleaned, bfc_slot, bfc}
use Rattle.demands.specs.Runs.{Each, Pairs, Act, box, box_in, next, run, after, page_in, bands_in, Stays, handed, Handed, F32, Whole64, inset_at, NoSmaller, EdgeToEdge, StartSplit, EndSplit, side_in, containing_lead, containing_trail, x_from, bottom, right_edge, far_inset, LowEnough, present, Names, Holds, StandsAt, AtOrAbove, Largest, ExactSum, unclear, content_unclear, bfc_unclear, Raises, content_at, Between, high, sized, share_height, overlap, fits_exactly, Joins, Page64}
use Rattle.demands.proofs.Steps.{StepsTo, place_few}
use Rattle.demands.proofs.Added.{place_more}
use Rattle.demands.proofs.Splits.{start_split, end_split}
use Rattle.demands.proofs.Input.{cleaned_fits, min_y_lem}
use Rattle.demands.proofs.Lists.{each_map}
use Rattle.demands.proofs.Whole.{Lies, spot_in, first_idle, place_ok}
use Rattle.demands.proofs.Numbers.{Numbered}
use Rattle.demands.proofs.Deep.{at_or_above, largest, alone, fallen, ends_above}
use Rattle.demands.proofs.Reach.{inset_in_reach, flat_not_6}
use Rattle.demands.proofs.Structs.{page_placed}
use Rattle.demands.proofs.Exact.{fits_idle}
use Rattle.demands.proofs.Adding.{LeftAs, add_left}
use Rattle.demands.proofs.Whole64.{known64, ask64}
use Rattle.demands.proofs.Content.{Answers, content_told}
use Rattle.demands.proofs.Cleared.{placed_same, content_same, bfc_same, placed_by_rules, content_by_rules, bfc_by_rules}
use Rattle.demands.proofs.Reached.{named, reached, upright, deep, sunk, grown, sinking, reached64}
use Rattle.demands.proofs.Edges.{exact_edges, seven, apart}
use Rattle.demands.proofs.Said.{edges, held_inset, no_smaller, told_names, told_unmarked, passed, page64, joins_ins, joins64, taken_in, taken_marked, ends_in_bands, each_boxed, each_standing, clear_pairs}
use Rattle.float.specs.declared.Position.{Position}

-- ---- any numbers: `os` is what was called so far

-- the bands lie edge to edge from minus infinity, no start exceeds its end, and they are at most 96
pub bands_lie : (os : List Act) → Handed F32 os → EdgeToEdge (inf true) (bands_in (after os)) × (length (bands_in (after os)) ≤ 96)
bands_lie os f = let v = reached os f in (edges (inf true) (bands_in (after os)) v.chain, v.count)

-- the page's boxes are those accepted, at most 64
pub boxes_kept : (os : List Act) → Handed F32 os → ((page_in (after os)).boxes ≡ map box_in (after os).accepted) × (length (page_in (after os)).boxes ≤ 64)
boxes_kept os f = let v = reached os f in (v.boxes, v.full)

-- the inset at a height is that of the band that holds it
pub inset_of_band : (os : List Act) → Handed F32 os → (s : FloatDirection) (h : Float) (i : ℕ) → F32 h → i < length (bands_in (after os))
    → T (le (get_or (bands_in (after os)) i none).start h) → T (lt h (get_or (bands_in (after os)) i none).end) → inset_at s h (bands_in (after os)) ≡ lead s (get_or (bands_in (after os)) i none)
inset_of_band os f = held_inset (bands_in (after os)) (reached os f).chain

-- whatever is called after, accepted or refused: at no height does an inset get smaller
pub no_inset_smaller : (os more : List Act) → Handed F32 os → Handed F32 more → Each Stays more → NoSmaller (bands_in (after os)) (bands_in (run (after os) more))
no_inset_smaller os more f g s =
    let v = reached os f in
    let w = grown (after os) more v g s in
    no_smaller (bands_in (after os)) (bands_in (run (after os) more)) v.chain w.0.chain w.1

-- a further box adds at most two bands
pub two_bands_more : (os : List Act) (c : Call) → length (bands_in (next (after os) (box c))) ≤ length (bands_in (after os)) + 2
two_bands_more os c = subst (λ (q : Page). length q.bands ≤ length (bands_in (after os)) + 2) (sym (page_placed (after os).struct c)) (place_more (page_in (after os)) c)

-- on n bands it takes at most 2n steps
pub steps_at_most : (os : List Act) (c : Call) (x y : Float) (k : ℕ) → (place_of (after os).struct c).answer ≡ Ok (record { x = x; y = y; steps = k }) → k ≤ length (bands_in (after os)) + length (bands_in (after os))
unfolding place_of
steps_at_most os c x y k e = subst (StepsTo (length (bands_in (after os)))) e (place_few (page_in (after os)) c)

-- the start band is left whole or split strictly inside; then so is the end band, of the bands as they stand
pub splits_inside : (os : List Act) (c : Call) → Handed F32 os → Each F32 (handed (box c)) → input_check (cleaned c) ≡ Ok tt → (spot_of (page_in (after os)) (cleaned c)).start < length (bands_in (after os))
    → StartSplit (ask_of (page_in (after os)) (cleaned c)) (bands_in (after os)) (spot_of (page_in (after os)) (cleaned c))
splits_inside os c f g e h =
    let p = page_in (after os) in
    let v = reached os f in
    start_split p.bands (ask_of p (cleaned c)) v.chain (spot_of p (cleaned c)) (spot_in p (after os).accepted (cleaned c) v (passed c g e).0) h

pub end_splits_inside : (a : Ask) (l : List Segment) (s e : ℕ) (y : Float) → e < length l → EndSplit a l s e y
end_splits_inside = end_split

-- a refused call hands back the very struct, or the very calculator, whichever it was given
pub refused_box : (p : FloatContext) (c : Call) (n : Refusal) → (place_of p c).answer ≡ Err n → (place_of p c).page ≡ p
unfolding place_of
refused_box p c n e = subst (λ (a : Result Position Refusal). placed_page a (place (page_of p) c).page p ≡ p) (sym e) refl

pub refused_width : (p : FloatContext) (w : Float) (n : Refusal) → (width_of p w).answer ≡ Err n → (width_of p w).page ≡ p
unfolding width_of
refused_width p w n e = subst (λ (d : Result ⊤ Refusal). if_done d (stored (with_width (page_of p) (plus_zero w)) p) p ≡ p) (sym e) refl

pub refused_add : (c : FloatIntrinsicWidthCalculator) (w : Float) (side clear : ℕ) (n : Refusal) → (add_of c w side clear).answer ≡ Err n → (add_of c w side clear).calculator ≡ c
refused_add c w side clear n e = subst (λ (d : Result ⊤ Refusal). LeftAs c (record { answer = d; calculator = (add_of c w side clear).calculator })) e (add_left c w side clear)

-- rule 5: no box is put higher than an earlier one
pub rule_5 : (os : List Act) → Handed F32 os → Pairs (λ a b. T (le a.y b.y)) (after os).accepted
rule_5 os f = (reached os f).rises

-- rule 1, of every box: the placed inset is at least the containing lead inset
pub rule_1 : (os : List Act) → Handed F32 os → Each (λ a. T (le (containing_lead a) a.inset)) (after os).accepted
rule_1 os f = (reached os f).leads

-- the answered x by side, from the placed inset
pub x_by_side : (os : List Act) → Handed F32 os → Each (λ a. a.x ≡ x_from (page_in (after os)).width a) (after os).accepted
x_by_side os f = (reached os f).answers

-- the answered y is at least min_y, the ceiling and the cleared bottoms of the page before
pub y_low_enough : (os : List Act) (c : Call) → Handed F32 os → Each F32 (handed (box c)) → (x y : Float) (k : ℕ) → (place_of (after os).struct c).answer ≡ Ok (record { x = x; y = y; steps = k }) → LowEnough (page_in (after os)) (cleaned c) y
unfolding place_of
y_low_enough os c f g x y k e = subst (Lies (page_in (after os)) (cleaned c)) e (place_ok (page_in (after os)) (after os).accepted c (reached os f) g).lies

-- refusal 6 comes of the bottom alone: placed inset plus width is in reach
pub inset_never_far : (os : List Act) (c : Call) → Handed F32 os → Each F32 (handed (box c)) → input_check (cleaned c) ≡ Ok tt → T (in_reach (add binary32 (spot_of (page_in (after os)) (cleaned c)).inset (cleaned c).width))
inset_never_far os c f g e = let n = passed c g e in inset_in_reach (page_in (after os)) (after os).accepted (cleaned c) (reached os f) n.0 n.1

-- so a box of no height is never refused with 6
pub flat_never_far : (os : List Act) (c : Call) → Handed F32 os → Each F32 (handed (box c)) → T (eq (cleaned c).height zero+) → (place_of (after os).struct c).answer ≡ Err Refusal.TooFar → ⊥
unfolding place_of
flat_never_far os c f g = flat_not_6 (page_in (after os)) (after os).accepted c (reached os f) g

-- a content question at a height, with insets 0, no clear and after none, answers that height and what stands there
pub content_insets : (os : List Act) → Handed F32 os → (h : Float) → F32 h → (s : ContentSlot) → content (page_in (after os)) (content_at h) ≡ Ok s → Between (page_in (after os)) (plus_zero h) s
content_insets os f h g s e = subst (Answers (page_in (after os)) (plus_zero h)) e (content_told (page_in (after os)) h (reached os f).chain g)

-- the box that a band names (1/14): on either side a number is present exactly where the mark is set
pub number_with_mark : (os : List Act) → Each (λ b. (s : FloatDirection) → present (box_on s b) ≡ has_float s b) (bands_in (after os))
number_with_mark os = each_map (Numbered (after os).accepted) _ (bands_in (after os)) (λ b n. n.shown) (named os).bands

-- it names the box of that number: of that side, and its inset plus width, rounded, is the band's inset
pub number_names : (os : List Act) → Each (λ b. (s : FloatDirection) (k : ℕ) → box_on s b ≡ Some k → Names (after os).accepted s b k) (bands_in (after os))
number_names os = each_map (Numbered (after os).accepted) _ (bands_in (after os)) (λ b n. n.names) (named os).bands

-- and `innermost` answers it
pub innermost_told : (os : List Act) (i s k : ℕ) → innermost (page_in (after os)) (Some i) s ≡ Ok (Some k) → Names (after os).accepted (side_of s) (get_or (bands_in (after os)) i none) k
innermost_told os = told_names (page_in (after os)) (after os).accepted (named os)

-- or none, where the mark is not set or there is no such band
pub innermost_none : (os : List Act) (i s : ℕ) → innermost (page_in (after os)) (Some i) s ≡ Ok None → has_float (side_of s) (get_or (bands_in (after os)) i none) ≡ false
innermost_none os = told_unmarked (page_in (after os)) (after os).accepted (named os)

-- clearing goes by the cleared bottoms alone (2/14): a placement with any clear is the one without clear at min_y raised to them, same answer, same page
pub clear_placement : (os : List Act) (c : Call) → Handed F32 os → F32 c.min_y → Raises (page_in (after os)) c.clear (cleaned c).min_y → place_of (after os).struct c ≡ place_of (after os).struct (unclear (page_in (after os)) (cleaned c))
unfolding place_of
clear_placement os c f g r = ap (held (after os).struct) (placed_same (page_in (after os)) (after os).accepted (reached os f) (upright os f) c g r)

-- and so is a question that passes the early answer: some band ends below min_y
pub clear_content : (os : List Act) (c : ContentCall) → Handed F32 os → F32 c.min_y → Raises (page_in (after os)) c.clear (content_cleaned c).min_y → active (bands_in (after os)) (content_cleaned c).min_y ≡ true
    → content (page_in (after os)) c ≡ content (page_in (after os)) (content_unclear (page_in (after os)) (content_cleaned c))
clear_content os c f = content_same (page_in (after os)) (after os).accepted (reached os f) (upright os f) c

pub clear_bfc : (os : List Act) (c : BfcCall) → Handed F32 os → F32 c.min_y → Raises (page_in (after os)) c.clear (bfc_cleaned c).min_y → active (bands_in (after os)) (bfc_cleaned c).min_y ≡ true
    → bfc (page_in (after os)) c ≡ bfc (page_in (after os)) (bfc_unclear (page_in (after os)) (bfc_cleaned c))
clear_bfc os c f = bfc_same (page_in (after os)) (after os).accepted (reached os f) (upright os f) c

-- a min_y raised beyond 65,536 could not be handed in: there too the rules after refusals 1 to 3 give the same, of a question on any page
pub clear_placement_far : (os : List Act) (c : Call) → Handed F32 os → Each F32 (handed (box c)) → input_check (cleaned c) ≡ Ok tt → place (page_in (after os)) c ≡ admitted (page_in (after os)) (unclear (page_in (after os)) (cleaned c))
clear_placement_far os c f g e = placed_by_rules (page_in (after os)) (after os).accepted (reached os f) (upright os f) c g.1.1.0 e (min_y_lem (cleaned c) (passed c g e).1)

pub clear_content_far : (p : Page) (k : Clear) (n : Option ℕ) (y : Float) → active p.bands y ≡ true → (i : Insets) → content_slot p i (seek p k n y) ≡ content_slot p i (seek p Clear.None n (raise_to y (cleared p k)))
clear_content_far = content_by_rules

pub clear_bfc_far : (p : Page) (k : Clear) (n : Option ℕ) (y : Float) → active p.bands y ≡ true → (d : Direction) (i : BfcInsets) → bfc_slot p d i (seek p k n y) ≡ bfc_slot p d i (seek p Clear.None n (raise_to y (cleared p k)))
clear_bfc_far = bfc_by_rules

-- rule 2 never decides: the first band from the kept firsts on that ends below min_y, raised by rule 1, is the first of all
pub firsts_idle : (os : List Act) (c : Call) → Handed F32 os → Each F32 (handed (box c)) → input_check (cleaned c) ≡ Ok tt
    → first_below (bands_in (after os)) (first_allowed (page_in (after os))) (lowest (page_in (after os)) (cleaned c)) ≡ first_below (bands_in (after os)) 0 (lowest (page_in (after os)) (cleaned c))
firsts_idle os c f g e = first_idle (page_in (after os)) (after os).accepted (cleaned c) (reached os f) (passed c g e).0 (sunk os f)

-- how deep the page is (3/14): the largest bottom of the accepted placements, none exactly where there is none; and no other value is that
pub depth_largest : (os : List Act) → Handed F32 os → Largest (after os).accepted (depth_of (page_in (after os)))
unfolding depth_of
depth_largest os f = largest _ _ _ _ _ (deep os f)

pub depth_alone : (os : List Act) → Handed F32 os → (d : Option Float) → Largest (after os).accepted d → d ≡ depth_of (page_in (after os))
unfolding depth_of
depth_alone os f = alone _ _ _ _ _ (deep os f)

-- it is the larger of the two kept bottoms, so what clearing both asks for
pub depth_of_sides : (os : List Act) → Handed F32 os → depth_of (page_in (after os)) ≡ cleared (page_in (after os)) Clear.Both
unfolding depth_of cleared
depth_of_sides os f = (deep os f).sides

-- whatever is called after on that page, accepted or refused, it never falls
pub depth_never_falls : (os more : List Act) → Handed F32 os → Handed F32 more → Each Stays more → (x : Float) → depth_of (page_in (after os)) ≡ Some x → AtOrAbove x (depth_of (page_in (run (after os) more)))
unfolding depth_of
depth_never_falls os more f g s x e =
    let v = sinking os more f g s in
    fallen (page_in (after os)).depth (deep os f).kept x e (page_in (run (after os) more)).depth (at_or_above _ _ _ _ _ v.0) v.1

-- no band ends below it
pub ends_above_depth : (os : List Act) → Handed F32 os → Each (λ b. AtOrAbove b.end (depth_of (page_in (after os)))) (bands_in (after os))
unfolding depth_of
ends_above_depth os f = ends_above (page_in (after os)) (after os).accepted (reached os f).chain (deep os f)

-- ---- if every number handed in was whole 64ths

-- all numbers that the page then holds are whole 64ths
pub page_in_64ths : (os : List Act) → Handed F32 os → Handed Whole64 os → Page64 (page_in (after os))
page_in_64ths os f s = page64 (page_in (after os)) (after os).accepted (reached64 os f s) (deep os f)

-- 0.001 never decides: whatever insets the search asks for, the fit test says the same without it
pub tolerance_idle : (os : List Act) (c : Call) → Handed F32 os → Handed Whole64 os → Each F32 (handed (box c)) → Each Whole64 (handed (box c)) → input_check (cleaned c) ≡ Ok tt
    → (lead trail : Float) → Joins (side_of c.side) (bands_in (after os)) lead → Joins (other (side_of c.side)) (bands_in (after os)) trail
    → fits (ask_of (page_in (after os)) (cleaned c)) lead trail ≡ fits_exactly (ask_of (page_in (after os)) (cleaned c)) lead trail
tolerance_idle os c f s g h e l t j i =
    let p = page_in (after os) in
    let d = cleaned c in
    let v = reached64 os f s in
    let n = passed c g e in
    fits_idle (ask_of p d) (ask64 p (after os).accepted d v n.0 (known64 (numbers d) (cleaned_fits c g) h n.1 n.0)) (joins64 v.bands j) (joins64 v.bands i) (joins_ins v.inv.chain j) (joins_ins v.inv.chain i)

-- the far edges x + width, y + height and inset + width are not rounded
pub edges_exact : (os : List Act) → Handed F32 os → Handed Whole64 os
    → Each (λ a. ExactSum a.x a.call.width (right_edge a) × ExactSum a.y a.call.height (bottom a) × ExactSum a.inset a.call.width (far_inset a)) (after os).accepted
edges_exact os f s = each_boxed os f s exact_edges

-- rule 7: beside an earlier box of its side, inset + width is at most page width - containing trail inset
pub rule_7 : (os : List Act) → Handed F32 os → Handed Whole64 os
    → Pairs (λ a b. T (same_side (side_in a) (side_in b)) → T (sized a) → T (sized b) → T (share_height a b) → T (le (far_inset b) (sub binary32 (page_in (after os)).width (containing_trail b)))) (after os).accepted
rule_7 os f s = clear_pairs os f s seven

-- no two accepted boxes of positive size overlap
pub no_overlap : (os : List Act) → Handed F32 os → Handed Whole64 os → Pairs (λ a b. T (sized a) → T (sized b) → T (not (overlap a b))) (after os).accepted
no_overlap os f s = clear_pairs os f s apart

-- no accepted box that shares a height with a band reaches in further than the band's inset of its side
pub none_further_in : (os : List Act) → Handed F32 os → Handed Whole64 os → (i : ℕ) → i < length (bands_in (after os)) → (h : Float) → F32 h → Holds (get_or (bands_in (after os)) i none) h
    → Each (λ a. StandsAt a h → T (le (far_inset a) (lead (side_in a) (get_or (bands_in (after os)) i none)))) (after os).accepted
none_further_in os f s i o h g w = each_standing os f s (taken_in (bands_in (after os)) (reached64 os f s).inv.chain i o h g w)

-- the bands reach down to the bottom of every accepted box with a height (3/14)
pub bands_reach : (os : List Act) → Handed F32 os → Handed Whole64 os → Each (λ a. T (high a) → T (le (bottom a) (end_of (bands_in (after os))))) (after os).accepted
bands_reach os f s = each_standing os f s (ends_in_bands (bands_in (after os)) (reached64 os f s).inv.chain)

-- and where a side is not marked, no accepted box of that side shares a height with the band
pub unmarked_free : (os : List Act) → Handed F32 os → Handed Whole64 os → (i : ℕ) → i < length (bands_in (after os)) → (s : FloatDirection) → has_float s (get_or (bands_in (after os)) i none) ≡ false → (h : Float) → F32 h → Holds (get_or (bands_in (after os)) i none) h
    → Each (λ a. side_in a ≡ s → StandsAt a h → ⊥) (after os).accepted
unmarked_free os f s i o r e h g w = each_standing os f s (taken_marked (bands_in (after os)) (reached64 os f s).inv.chain i o h g w r e)
