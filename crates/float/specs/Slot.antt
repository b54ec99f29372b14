-- Questions: what the page tells, the search of both slot questions, content and BFC. Definitions only.
use Rattle.std.specs.Prelude.{ℕ, suc, Bool, true, false, cond, ◌&&◌, List, [], ◌∷◌, length, get_or, replicate, nat_lt, slice_index_or, Float, Option, Some, None, Result, Ok, Err, ⊤}
use Rattle.std.specs.Float.{binary32}
use Rattle.std.specs.Float.Ieee.{add, sub}
use Rattle.f32_laws.specs.Numbers.{larger, smaller}
use Rattle.float.specs.declared.BfcSlot.{BfcSlot}
use Rattle.float.specs.declared.Clear.{Clear}
use Rattle.float.specs.declared.ContentSlot.{ContentSlot}
use Rattle.float.specs.declared.Direction.{Direction}
use Rattle.float.specs.declared.FloatDirection.{FloatDirection}
use Rattle.float.specs.declared.FloatList.{FloatList}
use Rattle.float.specs.declared.PlacedFloatedBox.{PlacedFloatedBox}
use Rattle.float.specs.declared.Segment.{Segment}
use Rattle.float.specs.declared.bfc.BfcBoxes.{BfcBoxes}
use Rattle.float.specs.declared.bfc.BfcInsets.{BfcInsets}
use Rattle.float.specs.declared.slot.Insets.{Insets}
use Rattle.float.specs.declared.slot.Sought.{Sought}
use Rattle.float.specs.Numbers.{size, offset, plus_zero}
use Rattle.float.specs.Refuse.{side_of, clear_of, direction_of, check_of}
use Rattle.float.specs.Bands.{none, on_side, same_side, lead, has_float, box_on, last_end, first_below}
use Rattle.float.specs.Page.{Page, front, no_box, max_boxes}
use Rattle.float.specs.Clear.{raise_to, cleared}
use Rattle.float.specs.declared.Refusal.{Refusal}

-- ---- what the page tells

-- `has_floats`: a box was accepted
unfoldable pub has_floats : Page → Bool
has_floats p = nat_lt 0 (length p.boxes)

-- some band's end is greater than y
unfoldable pub active : List Segment → Float → Bool
active l y = nat_lt (first_below l 0 y) (length l)

-- `has_active_floats`: refusals 2 and 3
unfoldable pub has_active_floats : Page → Float → Result Bool Refusal
has_active_floats p x =
    let y = plus_zero x in
    elim (check_of true (offset y ∷ [])) [ Ok _ ↦ Ok (active p.bands y) | Err n ↦ Err n ]

-- `cleared_threshold`: refusal 1
unfoldable pub cleared_threshold : Page → ℕ → Result (Option Float) Refusal
cleared_threshold p c = elim (check_of (nat_lt c 4) []) [ Ok _ ↦ Ok (cleared p (clear_of c)) | Err n ↦ Err n ]

-- `depth` (3/14): the largest bottom of all accepted boxes, as the page keeps it
unfoldable pub depth_of : Page → Option Float
depth_of p = p.depth

-- the box last recorded in a band on a side; none where the mark is not set
abbrev pub recorded_on : FloatDirection → Segment → Option ℕ
recorded_on s b = cond (has_float s b) (box_on s b) None

-- in the band with this number; none where there is no such band
abbrev pub innermost_on : FloatDirection → List Segment → Option ℕ → Option ℕ
innermost_on s l None = None
innermost_on s l (Some i) = recorded_on s (slice_index_or l i none)

-- `innermost` (1/14): refusal 1
unfoldable pub innermost : Page → Option ℕ → ℕ → Result (Option ℕ) Refusal
innermost p i s = elim (check_of (nat_lt s 2) []) [ Ok _ ↦ Ok (innermost_on (side_of s) p.bands i) | Err n ↦ Err n ]

-- `left_floats` and `right_floats`: the boxes of one side, in order
unfoldable pub of_side : FloatDirection → List PlacedFloatedBox → List PlacedFloatedBox
of_side d [] = []
of_side d (b ∷ bs) = elim (same_side d b.side) [ true ↦ b ∷ of_side d bs | false ↦ of_side d bs ]

-- a list of boxes as it is handed out: at the front of the array, the other places empty
abbrev pub list_of : List PlacedFloatedBox → FloatList
list_of l = record { boxes = front l (replicate max_boxes no_box); count = length l }

unfoldable pub floats_of : FloatDirection → Page → FloatList
floats_of d p = list_of (of_side d p.boxes)

-- ---- the search of both questions

-- the first band number allowed, by `after` alone (2/14)
abbrev pub from : Option ℕ → ℕ
from None = 0
from (Some k) = suc k

-- the band i at y, or past the last
abbrev pub landed : List Segment → ℕ → Float → Sought
landed l i y = cond (nat_lt i (length l)) (Sought.At i y) (Sought.Past y)

-- with no band below min_y clear isn't looked at; else min_y is raised to the cleared bottoms
unfoldable pub seek : Page → Clear → Option ℕ → Float → Sought
seek p c after y =
    cond (active p.bands y)
    (landed p.bands (first_below p.bands (from after) (raise_to y (cleared p c))) (raise_to y (cleared p c)))
    (Sought.Quiet y)

-- the page width less left less right
abbrev pub less : Page → Insets → Float
less p i = sub binary32 (sub binary32 p.width i.left) i.right

-- ---- content

-- a content question as it is handed in
pub record ContentCall : Type 0 where
  pub min_y : Float
  pub left : Float
  pub right : Float
  pub clear : ℕ
  pub after : Option ℕ

-- the same with plus zero for minus zero
abbrev pub content_cleaned : ContentCall → ContentCall
content_cleaned c = record { min_y = plus_zero c.min_y; left = plus_zero c.left; right = plus_zero c.right; clear = c.clear; after = c.after }

abbrev pub content_check : ContentCall → Result ⊤ Refusal
content_check c = check_of (nat_lt c.clear 4) (offset c.min_y ∷ size c.left ∷ size c.right ∷ [])

-- each inset is the larger of the band's and the containing one
abbrev pub beside_band : Segment → Insets → Insets
beside_band b cb = record { left = larger b.left cb.left; right = larger b.right cb.right }

-- x is the left inset
abbrev pub content_at : Page → Option ℕ → Float → Insets → ContentSlot
content_at p n y i = record { band = n; x = i.left; y = y; width = less p i }

-- y is the larger of min_y and the band's start, or min_y as it stands
unfoldable pub content_slot : Page → Insets → Sought → ContentSlot
content_slot p cb (Sought.Quiet y) = content_at p None y cb
content_slot p cb (Sought.Past y) = content_at p None y cb
content_slot p cb (Sought.At i y) =
    let b = get_or p.bands i none in
    content_at p (Some i) (larger y b.start) (beside_band b cb)

abbrev pub content_asked : Page → ContentCall → Result ContentSlot Refusal
content_asked p c =
    elim (content_check c) [
      | Ok _ ↦ Ok (content_slot p (record { left = c.left; right = c.right }) (seek p (clear_of c.clear) c.after c.min_y))
      | Err n ↦ Err n
    ]

-- `find_content_slot`
unfoldable pub content : Page → ContentCall → Result ContentSlot Refusal
content p c = content_asked p (content_cleaned c)

-- ---- BFC

-- a BFC question as it is handed in
pub record BfcCall : Type 0 where
  pub min_y : Float
  pub left : Float
  pub right : Float
  pub left_margin : Float
  pub right_margin : Float
  pub direction : ℕ
  pub clear : ℕ
  pub after : Option ℕ

-- the same with plus zero for minus zero
abbrev pub bfc_cleaned : BfcCall → BfcCall
bfc_cleaned c = record { min_y = plus_zero c.min_y; left = plus_zero c.left; right = plus_zero c.right; left_margin = plus_zero c.left_margin; right_margin = plus_zero c.right_margin; direction = c.direction; clear = c.clear; after = c.after }

abbrev pub bfc_check : BfcCall → Result ⊤ Refusal
bfc_check c = check_of (nat_lt c.direction 2 && nat_lt c.clear 4) (offset c.min_y ∷ size c.left ∷ size c.right ∷ offset c.left_margin ∷ offset c.right_margin ∷ [])

-- a margin inset is containing inset plus margin
abbrev pub bfc_insets : BfcCall → BfcInsets
bfc_insets c = record {
  containing = record { left = c.left; right = c.right };
  margin = record { left = add binary32 c.left c.left_margin; right = add binary32 c.right c.right_margin };
}

-- the inset of one side
abbrev pub inset_on : FloatDirection → Insets → Float
inset_on s i = on_side s i.left i.right

-- the lead side of a direction
abbrev pub lead_side : Direction → FloatDirection
lead_side Direction.Ltr = FloatDirection.Left
lead_side Direction.Rtl = FloatDirection.Right

-- lead, for both widths, and trail for stretch: the margin inset, raised to the band's if marked
abbrev pub stretch_inset : Segment → BfcInsets → FloatDirection → Float
stretch_inset b i s = cond (has_float s b) (larger (lead s b) (inset_on s i.margin)) (inset_on s i.margin)

-- trail for border: marked, the larger of the band's and the containing inset; unmarked, the smaller of margin inset and containing inset
abbrev pub trail_inset : Segment → BfcInsets → FloatDirection → Float
trail_inset b i s = cond (has_float s b) (larger (lead s b) (inset_on s i.containing)) (smaller (inset_on s i.margin) (inset_on s i.containing))

abbrev pub border_inset : Direction → Segment → BfcInsets → FloatDirection → Float
border_inset d b i s = cond (same_side s (lead_side d)) (stretch_inset b i s) (trail_inset b i s)

-- both boxes of a direction beside a band
abbrev pub beside_both : Direction → Segment → BfcInsets → BfcBoxes
beside_both d b i = record {
  border = record { left = border_inset d b i FloatDirection.Left; right = border_inset d b i FloatDirection.Right };
  stretch = record { left = stretch_inset b i FloatDirection.Left; right = stretch_inset b i FloatDirection.Right };
}

-- no band: border and stretch both use the margin insets
abbrev pub beside_none : BfcInsets → BfcBoxes
beside_none i = record { border = i.margin; stretch = i.margin }

-- x is the left border inset
abbrev pub bfc_at : Page → Option ℕ → Float → BfcBoxes → BfcSlot
bfc_at p n y o = record { band = n; x = o.border.left; y = y; border_width = less p o.border; stretch_width = less p o.stretch }

-- no band: y is min_y, or, after a search, the larger of that and the last end; with a band, y as for content
unfoldable pub bfc_slot : Page → Direction → BfcInsets → Sought → BfcSlot
bfc_slot p d i (Sought.Quiet y) = bfc_at p None y (beside_none i)
bfc_slot p d i (Sought.Past y) = bfc_at p None (larger y (last_end y p.bands)) (beside_none i)
bfc_slot p d i (Sought.At k y) =
    let b = get_or p.bands k none in
    bfc_at p (Some k) (larger y b.start) (beside_both d b i)

abbrev pub bfc_asked : Page → BfcCall → Result BfcSlot Refusal
bfc_asked p c =
    elim (bfc_check c) [
      | Ok _ ↦ Ok (bfc_slot p (direction_of c.direction) (bfc_insets c) (seek p (clear_of c.clear) c.after c.min_y))
      | Err n ↦ Err n
    ]

-- `find_bfc_slot`
unfoldable pub bfc : Page → BfcCall → Result BfcSlot Refusal
bfc p c = bfc_asked p (bfc_cleaned c)
