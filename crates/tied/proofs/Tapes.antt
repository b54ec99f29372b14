-- The promises of every tape, whatever its bytes: each cites the promise of the calls that its first n records make. To read them takes the definitions and no other proof.
use Rattle.std.specs.Prelude.{Option, Some, Ok}
use Prim.Native.Nat.{ℕ, suc, ◌+◌, ◌≤◌, ◌<◌}
use mathlib.Core.Bool.{true, false, not}
use mathlib.Core.Path.{◌≡◌, sym, ap, ◌∙◌}
use mathlib.Core.List.{List, map}
use lib.Dec.{T}
use lib.Ieee.{Float, inf, binary32, add, sub, le}
use lib.IntN.{pos}
use lib.ListN.{length, get_or}
use Rattle.float.specs.declared.FloatContext.{FloatContext}
use Rattle.float.specs.declared.FloatDirection.{FloatDirection}
use Rattle.float.specs.Refuse.{side_of}
use Rattle.float.specs.Bands.{same_side, has_float, box_on, lead, none}
use Rattle.float.specs.Page.{page_of}
use Rattle.float.specs.Place.{Call, cleaned, end_of, place_of}
use Rattle.float.specs.Slot.{depth_of, active, innermost, ContentCall, content_cleaned, content, BfcCall, bfc_cleaned, bfc}
use Rattle.tape.specs.Record.{place_record}
use Rattle.tape.specs.Tape.{returned_box, innermost_after, returned_height, depth_after}
use Rattle.demands.specs.Runs.{Each, Pairs, box_in, run, page_in, bands_in, Stays, Handed, Whole64, NoSmaller, EdgeToEdge, side_in, containing_lead, containing_trail, bottom, high, sized, share_height, overlap, present, Names, far_inset, Holds, StandsAt, AtOrAbove, Largest, F32, unclear, content_unclear, bfc_unclear, Raises, Page64}
use Rattle.demands.proofs.Promises.{bands_lie, boxes_kept, no_inset_smaller, two_bands_more, steps_at_most, rule_1, rule_5, number_with_mark, number_names, innermost_told, clear_placement, clear_content, clear_bfc, depth_largest, depth_alone, depth_never_falls, ends_above_depth, page_in_64ths, rule_7, no_overlap, none_further_in, unmarked_free, bands_reach}
use Rattle.tied.specs.Acts.{records_of, RecordAt, calls_at, run_at, whole_run, calls_next}
use Rattle.tied.proofs.Handed.{tape_f32, next_f32}
use Rattle.tied.proofs.Calls.{run_next, run_one, page_after_tape, returned_number}

-- ---- any numbers: after the first n records of the tape t

-- the bands lie edge to edge from minus infinity, no start exceeds its end, and they are at most 96
pub tape_bands_lie : (t : List ℕ) (n : ℕ) → EdgeToEdge (inf true) (bands_in (run_at t n)) × (length (bands_in (run_at t n)) ≤ 96)
tape_bands_lie t n = bands_lie (calls_at t n) (tape_f32 t n)

-- the page's boxes are those accepted, at most 64
pub tape_boxes_kept : (t : List ℕ) (n : ℕ) → ((page_in (run_at t n)).boxes ≡ map box_in (run_at t n).accepted) × (length (page_in (run_at t n)).boxes ≤ 64)
tape_boxes_kept t n = boxes_kept (calls_at t n) (tape_f32 t n)

-- k records later, none of them a fresh page: at no height is an inset smaller
pub tape_no_inset_smaller : (t : List ℕ) (n k : ℕ) → Each Stays (calls_next t n k) → NoSmaller (bands_in (run_at t n)) (bands_in (run_at t (n + k)))
tape_no_inset_smaller t n k h = rw (run_next t n k) (no_inset_smaller (calls_at t n) (calls_next t n k) (tape_f32 t n) (next_f32 t n k) h)

-- a placement adds at most two bands
pub tape_two_bands_more : (t : List ℕ) (n : ℕ) (c : Call) → RecordAt t n (place_record c) → length (bands_in (run_at t (suc n))) ≤ length (bands_in (run_at t n)) + 2
unfolding run
tape_two_bands_more t n c e = rw (run_one t n (place_record c) e) (two_bands_more (calls_at t n) c)

-- on m bands it takes at most 2m steps
pub tape_steps_at_most : (t : List ℕ) (n : ℕ) (c : Call) (x y : Float) (k : ℕ) → (place_of (run_at t n).struct c).answer ≡ Ok (record { x = x; y = y; steps = k }) → k ≤ length (bands_in (run_at t n)) + length (bands_in (run_at t n))
tape_steps_at_most t n = steps_at_most (calls_at t n)

-- rule 5: no box is put higher than an earlier one
pub tape_rule_5 : (t : List ℕ) (n : ℕ) → Pairs (λ a b. T (le a.y b.y)) (run_at t n).accepted
tape_rule_5 t n = rule_5 (calls_at t n) (tape_f32 t n)

-- rule 1: the placed inset is at least the containing lead inset
pub tape_rule_1 : (t : List ℕ) (n : ℕ) → Each (λ a. T (le (containing_lead a) a.inset)) (run_at t n).accepted
tape_rule_1 t n = rule_1 (calls_at t n) (tape_f32 t n)

-- on each side a band names a box exactly where its mark is set: one of that side, and the band's inset is its inset plus width
pub tape_number_with_mark : (t : List ℕ) (n : ℕ) → Each (λ b. (s : FloatDirection) → present (box_on s b) ≡ has_float s b) (bands_in (run_at t n))
tape_number_with_mark t n = number_with_mark (calls_at t n)

pub tape_number_names : (t : List ℕ) (n : ℕ) → Each (λ b. (s : FloatDirection) (k : ℕ) → box_on s b ≡ Some k → Names (run_at t n).accepted s b k) (bands_in (run_at t n))
tape_number_names t n = number_names (calls_at t n)

-- what C is told of the page after the tape: a number from 0 up is that of such a box
pub tape_innermost : (t : List ℕ) → length t ≤ 65536 → (i s k : ℕ) → innermost_after t i s ≡ pos k → Names (whole_run t).accepted (side_of s) (get_or (bands_in (whole_run t)) i none) k
unfolding innermost_after
tape_innermost t h i s k e = innermost_told (calls_at t (length (records_of t))) i s k (returned_number _ k (ap (λ (p : FloatContext). returned_box (innermost (page_of p) (Some i) s)) (sym (page_after_tape t h)) ∙ e))

-- a call with any clear is the one without clear at min_y raised to the cleared bottoms: a placement, and a question that passes the early answer
pub tape_clear_placement : (t : List ℕ) (n : ℕ) (c : Call) → F32 c.min_y → Raises (page_in (run_at t n)) c.clear (cleaned c).min_y → place_of (run_at t n).struct c ≡ place_of (run_at t n).struct (unclear (page_in (run_at t n)) (cleaned c))
tape_clear_placement t n c = clear_placement (calls_at t n) c (tape_f32 t n)

pub tape_clear_content : (t : List ℕ) (n : ℕ) (c : ContentCall) → F32 c.min_y → Raises (page_in (run_at t n)) c.clear (content_cleaned c).min_y → active (bands_in (run_at t n)) (content_cleaned c).min_y ≡ true
    → content (page_in (run_at t n)) c ≡ content (page_in (run_at t n)) (content_unclear (page_in (run_at t n)) (content_cleaned c))
tape_clear_content t n c = clear_content (calls_at t n) c (tape_f32 t n)

pub tape_clear_bfc : (t : List ℕ) (n : ℕ) (c : BfcCall) → F32 c.min_y → Raises (page_in (run_at t n)) c.clear (bfc_cleaned c).min_y → active (bands_in (run_at t n)) (bfc_cleaned c).min_y ≡ true
    → bfc (page_in (run_at t n)) c ≡ bfc (page_in (run_at t n)) (bfc_unclear (page_in (run_at t n)) (bfc_cleaned c))
tape_clear_bfc t n c = clear_bfc (calls_at t n) c (tape_f32 t n)

-- the depth (3/14) is the largest bottom of what was accepted, and k records later, none of them a fresh page, no smaller; no band ends below it
pub tape_depth_largest : (t : List ℕ) (n : ℕ) → Largest (run_at t n).accepted (depth_of (page_in (run_at t n)))
tape_depth_largest t n = depth_largest (calls_at t n) (tape_f32 t n)

pub tape_depth_never_falls : (t : List ℕ) (n k : ℕ) → Each Stays (calls_next t n k) → (x : Float) → depth_of (page_in (run_at t n)) ≡ Some x → AtOrAbove x (depth_of (page_in (run_at t (n + k))))
tape_depth_never_falls t n k h = rw (run_next t n k) (depth_never_falls (calls_at t n) (calls_next t n k) (tape_f32 t n) (next_f32 t n k) h)

pub tape_ends_above_depth : (t : List ℕ) (n : ℕ) → Each (λ b. AtOrAbove b.end (depth_of (page_in (run_at t n)))) (bands_in (run_at t n))
tape_ends_above_depth t n = ends_above_depth (calls_at t n) (tape_f32 t n)

-- and what C is told of the page after the tape
pub tape_depth : (t : List ℕ) → length t ≤ 65536 → (d : Option Float) → Largest (whole_run t).accepted d → depth_after t ≡ returned_height d
unfolding depth_after
tape_depth t h d l = ap (λ (p : FloatContext). returned_height (depth_of (page_of p))) (page_after_tape t h) ∙ ap returned_height (sym (depth_alone (calls_at t (length (records_of t))) (tape_f32 t (length (records_of t))) d l))

-- ---- if every number that they handed in was whole 64ths

-- all numbers that the page then holds are whole 64ths
pub tape_page_in_64ths : (t : List ℕ) (n : ℕ) → Handed Whole64 (calls_at t n) → Page64 (page_in (run_at t n))
tape_page_in_64ths t n = page_in_64ths (calls_at t n) (tape_f32 t n)

-- rule 7: beside an earlier box of its side, inset + width is at most page width - containing trail inset
pub tape_rule_7 : (t : List ℕ) (n : ℕ) → Handed Whole64 (calls_at t n)
    → Pairs (λ a b. T (same_side (side_in a) (side_in b)) → T (sized a) → T (sized b) → T (share_height a b) → T (le (add binary32 b.inset b.call.width) (sub binary32 (page_in (run_at t n)).width (containing_trail b)))) (run_at t n).accepted
tape_rule_7 t n = rule_7 (calls_at t n) (tape_f32 t n)

-- no two accepted boxes of positive size overlap
pub tape_no_overlap : (t : List ℕ) (n : ℕ) → Handed Whole64 (calls_at t n) → Pairs (λ a b. T (sized a) → T (sized b) → T (not (overlap a b))) (run_at t n).accepted
tape_no_overlap t n = no_overlap (calls_at t n) (tape_f32 t n)

-- at no height of a band does a box of that side reach further in than the band's inset: the box that the band names stands innermost
pub tape_none_further_in : (t : List ℕ) (n : ℕ) → Handed Whole64 (calls_at t n) → (i : ℕ) → i < length (bands_in (run_at t n)) → (h : Float) → F32 h → Holds (get_or (bands_in (run_at t n)) i none) h
    → Each (λ a. StandsAt a h → T (le (far_inset a) (lead (side_in a) (get_or (bands_in (run_at t n)) i none)))) (run_at t n).accepted
tape_none_further_in t n = none_further_in (calls_at t n) (tape_f32 t n)

-- where a side of a band has no mark, and so no number, no box of that side stands at a height of it
pub tape_unmarked_free : (t : List ℕ) (n : ℕ) → Handed Whole64 (calls_at t n) → (i : ℕ) → i < length (bands_in (run_at t n)) → (s : FloatDirection) → has_float s (get_or (bands_in (run_at t n)) i none) ≡ false → (h : Float) → F32 h → Holds (get_or (bands_in (run_at t n)) i none) h
    → Each (λ a. side_in a ≡ s → StandsAt a h → ⊥) (run_at t n).accepted
tape_unmarked_free t n = unmarked_free (calls_at t n) (tape_f32 t n)

-- the bands reach down to the bottom of every box with a height
pub tape_bands_reach : (t : List ℕ) (n : ℕ) → Handed Whole64 (calls_at t n) → Each (λ a. T (high a) → T (le (bottom a) (end_of (bands_in (run_at t n))))) (run_at t n).accepted
tape_bands_reach t n = bands_reach (calls_at t n) (tape_f32 t n)
