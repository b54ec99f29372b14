-- Any sequence of calls from a fresh page, the page after it and the placements that it had accepted; and the words of the promises. Definitions only.
use Rattle.std.specs.Prelude.{◌⊎◌, ℕ, suc, ◌-◌, ◌^◌, ◌≤◌, ◌<◌, ◌≡◌, Bool, true, false, ◌&&◌, ◌||◌, List, [], ◌∷◌, ◌++◌, T, ℤ, nat_abs, ◌+ℤ◌, Float, length, get_or, Option, Some, None, Result, Ok, Err}
use Rattle.std.proofs.Math.Option.{some}
use Rattle.std.specs.Float.{binary32}
use Rattle.std.specs.Float.Ieee.{fits as fits_in, add, sub, lt, le, eq}
use Rattle.std.proofs.Math.ListN.{get_elem?}
use Rattle.f32_laws.specs.Numbers.{larger, zero+, is64}
use Rattle.f32_laws.specs.Sixty.{in64}
use Rattle.float.specs.declared.ContentSlot.{ContentSlot}
use Rattle.float.specs.declared.FloatContext.{FloatContext}
use Rattle.float.specs.declared.FloatDirection.{FloatDirection}
use Rattle.float.specs.declared.PlacedFloatedBox.{PlacedFloatedBox}
use Rattle.float.specs.declared.Segment.{Segment}
use Rattle.float.specs.declared.fit.Ask.{Ask}
use Rattle.float.specs.declared.search.Spot.{Spot}
use Rattle.float.specs.Numbers.{most, least, plus_zero, within}
use Rattle.float.specs.Refuse.{side_of, clear_of}
use Rattle.float.specs.Bands.{on_side, lead, none, split_at}
use Rattle.float.specs.Page.{Page, page_of, fresh_context, no_box}
use Rattle.float.specs.Clear.{raise_to, cleared}
use Rattle.float.specs.Fit.{placed_at}
use Rattle.float.specs.Place.{Call, cleaned, walked, started_at, make, place_of, width_of}
use Rattle.float.specs.Slot.{ContentCall, BfcCall}
use Rattle.float.specs.declared.Refusal.{Refusal}
use Rattle.float.specs.declared.Position.{Position}

-- ---- lists

-- P holds of each
abbrev pub Each : {A : Type 0} → (A → Type 0) → List A → Type 0
Each P [] = Unit {0}
Each P (x ∷ xs) = P x × Each P xs

-- P holds of every two, the earlier first
abbrev pub Pairs : {A : Type 0} → (A → A → Type 0) → List A → Type 0
Pairs P [] = Unit {0}
Pairs P (x ∷ xs) = Each (P x) xs × Pairs P xs

-- P holds of one at least
abbrev pub Any : {A : Type 0} → (A → Type 0) → List A → Type 0
Any P [] = ⊥
Any P (x ∷ xs) = P x ⊎ Any P xs

-- ---- runs

-- A call that changes a page, with any codes and numbers. Questions and calculators hand back no page.
pub data Act : Type 0 where
  new_page : Act
  width : Float → Act
  box : Call → Act

-- an accepted placement: the call with plus zero for minus zero, its answer, and the inset that the page keeps of it
pub record Accepted : Type 0 where
  pub call : Call
  pub x : Float
  pub y : Float
  pub inset : Float

-- the box that a page keeps of it
abbrev pub box_in : Accepted → PlacedFloatedBox
box_in a = record { width = a.call.width; height = a.call.height; x_inset = a.inset; y = a.y; side = side_of a.call.side }

-- the struct, and the placements accepted since it was fresh
pub record Run : Type 0 where
  pub struct : FloatContext
  pub accepted : List Accepted

-- the placed inset of the page's last box
abbrev pub last_inset : Page → Float
last_inset p = (get_or p.boxes (length p.boxes - 1) no_box).x_inset

-- an accepted call is noted after the earlier ones
abbrev pub noted : Result Position Refusal → Call → Page → List Accepted → List Accepted
noted (Ok s) c p l = l ++ record { call = c; x = s.x; y = s.y; inset = last_inset p } ∷ []
noted (Err n) c p l = l

-- a fresh page, one call, and one after the other
abbrev pub started : Run
started = record { struct = fresh_context; accepted = [] }

abbrev pub next : Run → Act → Run
next r new_page = started
next r (width w) = record { struct = (width_of r.struct w).page; accepted = r.accepted }
next r (box c) = record { struct = (place_of r.struct c).page; accepted = noted (place_of r.struct c).answer (cleaned c) (page_of (place_of r.struct c).page) r.accepted }

unfoldable pub run : Run → List Act → Run
run r [] = r
run r (o ∷ os) = run (next r o) os

-- any sequence of calls from a fresh page
abbrev pub after : List Act → Run
after os = run started os

-- the page that the struct holds, and its bands
abbrev pub page_in : Run → Page
page_in r = page_of r.struct

abbrev pub bands_in : Run → List Segment
bands_in r = (page_in r).bands

-- the same page goes on
abbrev pub Stays : Act → Type 0
Stays new_page = ⊥
Stays (width w) = Unit {0}
Stays (box c) = Unit {0}

-- ---- what is handed in

abbrev pub handed : Act → List Float
handed new_page = []
handed (width w) = w ∷ []
handed (box c) = c.width ∷ c.height ∷ c.min_y ∷ c.left ∷ c.right ∷ []

-- P holds of every number that is handed in
abbrev pub Handed : (Float → Type 0) → List Act → Type 0
Handed P os = Each (λ o. Each P (handed o)) os

-- a value of f32, whichever: NaN and the infinities too
abbrev pub F32 : Float → Type 0
F32 x = T (fits_in binary32 x)

-- whole 64ths, minus zero read as plus zero; a number beyond every limit is refused, so it may be any
abbrev pub Whole64 : Float → Type 0
Whole64 x = T (within least most (plus_zero x)) → T (is64 (plus_zero x))

-- ---- bands

-- the inset of a side at a height: that of the first band that ends below it, so of the band that holds it; 0 where no band lies
unfoldable pub inset_at : FloatDirection → Float → List Segment → Float
inset_at s h [] = zero+
inset_at s h (b ∷ bs) = elim (lt h b.end) [ true ↦ lead s b | false ↦ inset_at s h bs ]

-- at no height is an inset of the first bands above that of the second
abbrev pub NoSmaller : List Segment → List Segment → Type 0
NoSmaller l m = (s : FloatDirection) (h : Float) → F32 h → T (le (inset_at s h l) (inset_at s h m))

-- the bands lie edge to edge from x on, and no start exceeds its end
abbrev pub EdgeToEdge : Float → List Segment → Type 0
EdgeToEdge x [] = Unit {0}
EdgeToEdge x (b ∷ bs) = (b.start ≡ x) × T (le b.start b.end) × EdgeToEdge b.end bs

-- what the crate's `assert!` asks of a split: y is strictly inside the band
abbrev pub StrictlyIn : Segment → Float → Type 0
StrictlyIn b y = T (lt b.start y) × T (lt y b.end)

-- the start band, found at p, is left whole, or split at y strictly inside it
abbrev pub StartSplit : Ask → List Segment → Spot → Type 0
StartSplit a l p =
    (make a l p ≡ started_at a l p.start p.end p.y)
    ⊎ (StrictlyIn (get_or l p.start none) p.y × (make a l p ≡ started_at a (split_at l p.start p.y) (suc p.start) (suc p.end) p.y))

-- and of the bands as they then stand, the end band at the bottom
abbrev pub EndSplit : Ask → List Segment → ℕ → ℕ → Float → Type 0
EndSplit a l s e y =
    let b = add binary32 y a.height in
    let i = walked l s b e in
    ((started_at a l s e y).bands ≡ l) ⊎ (StrictlyIn (get_or l i none) b × ((started_at a l s e y).bands ≡ split_at l i b))

-- ---- accepted placements

-- the side
abbrev pub side_in : Accepted → FloatDirection
side_in a = side_of a.call.side

-- the containing insets by lead and trail
abbrev pub containing_lead : Accepted → Float
containing_lead a = on_side (side_in a) a.call.left a.call.right

abbrev pub containing_trail : Accepted → Float
containing_trail a = on_side (side_in a) a.call.right a.call.left

-- x by side: a left box's inset, a right box's page width - inset - width, rounded left to right
abbrev pub x_from : Float → Accepted → Float
x_from w a = on_side (side_in a) a.inset (sub binary32 (sub binary32 w a.inset) a.call.width)

-- the far edges; the last as an inset
abbrev pub bottom : Accepted → Float
bottom a = add binary32 a.y a.call.height

abbrev pub right_edge : Accepted → Float
right_edge a = add binary32 a.x a.call.width

abbrev pub far_inset : Accepted → Float
far_inset a = add binary32 a.inset a.call.width

-- y is at or below a kept height, if there is one
abbrev pub AtOrBelow : Option Float → Float → Type 0
AtOrBelow None y = Unit {0}
AtOrBelow (Some x) y = T (le x y)

-- y is at or below min_y, the page's ceiling and the bottoms that the call clears
abbrev pub LowEnough : Page → Call → Float → Type 0
LowEnough p c y = T (le c.min_y y) × AtOrBelow p.ceiling y × AtOrBelow (cleared p (clear_of c.clear)) y

-- x is j / 64, y is k / 64 and s is (j + k) / 64, each held exactly: the sum s of x and y is not rounded
pub record ExactSum (x y s : Float) : Type 0 where
  pub j : ℤ
  pub k : ℤ
  pub first : (x ≡ in64 binary32 j) × (nat_abs j ≤ 2 ^ 24)
  pub second : (y ≡ in64 binary32 k) × (nat_abs k ≤ 2 ^ 24)
  pub sum : (s ≡ in64 binary32 (j +ℤ k)) × (nat_abs (j +ℤ k) ≤ 2 ^ 24)

-- height is above zero, and so is width
abbrev pub high : Accepted → Bool
high a = lt zero+ a.call.height

abbrev pub sized : Accepted → Bool
sized a = lt zero+ a.call.width && high a

abbrev pub share_height : Accepted → Accepted → Bool
share_height a b = lt a.y (bottom b) && lt b.y (bottom a)

-- the rectangles that the answers give have a point inside in common
abbrev pub overlap : Accepted → Accepted → Bool
overlap a b = share_height a b && lt a.x (right_edge b) && lt b.x (right_edge a)

-- ---- the box that a band names (1/14)

-- there is a number
abbrev pub present : Option ℕ → Bool
present None = false
present (Some k) = true

-- on the side s the band b names the box k of those accepted, counted from 0: it is of that side, and the band's inset is its inset plus width, rounded
pub record Names (g : List Accepted) (s : FloatDirection) (b : Segment) (k : ℕ) : Type 0 where
  pub named : Accepted
  pub kth : get_elem? g k ≡ some named
  pub side : side_in named ≡ s
  pub inset : lead s b ≡ far_inset named

-- the height h is in the band, and in the box
abbrev pub Holds : Segment → Float → Type 0
Holds b h = T (le b.start h) × T (lt h b.end)

abbrev pub StandsAt : Accepted → Float → Type 0
StandsAt a h = T (le a.y h) × T (lt h (bottom a))

-- ---- how deep the page is (3/14)

-- x is at or above a kept height; where none is kept nothing is
abbrev pub AtOrAbove : Float → Option Float → Type 0
AtOrAbove x None = ⊥
AtOrAbove x (Some y) = T (le x y)

-- d is the largest bottom of these placements: one of them has it and none has a larger one; it is missing exactly where there is no placement
abbrev pub Largest : List Accepted → Option Float → Type 0
Largest g None = g ≡ []
Largest g (Some d) = Any (λ a. bottom a ≡ d) g × Each (λ a. T (le (bottom a) d)) g

-- ---- a call without its clear (2/14): none, at min_y raised to the cleared bottoms

abbrev pub raised : Page → ℕ → Float → Float
raised p clear y = raise_to y (cleared p (clear_of clear))

abbrev pub unclear : Page → Call → Call
unclear p c = record { side = c.side; clear = 0; width = c.width; height = c.height; min_y = raised p c.clear c.min_y; left = c.left; right = c.right }

abbrev pub content_unclear : Page → ContentCall → ContentCall
content_unclear p c = record { min_y = raised p c.clear c.min_y; left = c.left; right = c.right; clear = 0; after = c.after }

abbrev pub bfc_unclear : Page → BfcCall → BfcCall
bfc_unclear p c = record { min_y = raised p c.clear c.min_y; left = c.left; right = c.right; left_margin = c.left_margin; right_margin = c.right_margin; direction = c.direction; clear = 0; after = c.after }

-- the clear is known, and min_y may be handed in, as it stands and raised
pub record Raises (p : Page) (clear : ℕ) (y : Float) : Type 0 where
  pub code : clear < 4
  pub stands : T (within least most y)
  pub lifted : T (within least most (raised p clear y))

-- ---- a content question

-- at the height h, with insets 0, no clear and after none
abbrev pub content_at : Float → ContentCall
content_at h = record { min_y = h; left = zero+; right = zero+; clear = 0; after = None }

-- the slot lies at the height y, between the insets that stand there
pub record Between (p : Page) (y : Float) (s : ContentSlot) : Type 0 where
  pub at : s.y ≡ y
  pub left : s.x ≡ inset_at FloatDirection.Left y p.bands
  pub room : s.width ≡ sub binary32 (sub binary32 p.width (inset_at FloatDirection.Left y p.bands)) (inset_at FloatDirection.Right y p.bands)

-- ---- the fit test with 0.001 left out

abbrev pub passes_exactly : Float → Float → Float → Float → Bool
passes_exactly inset far page bound = eq inset zero+ || le far (sub binary32 page bound)

abbrev pub fits_exactly : Ask → Float → Float → Bool
fits_exactly a lead trail =
    passes_exactly trail (add binary32 (placed_at a lead) a.width) a.page trail
    && passes_exactly lead (add binary32 (placed_at a lead) a.width) a.page a.cb_trail

-- an inset that the search can ask the test for: 0, a band's, or the larger of two such
pub data Joins (s : FloatDirection) (l : List Segment) : Float → Type 0 where
  unjoined : Joins s l zero+
  joins : (i : ℕ) → i < length l → Joins s l (lead s (get_or l i none))
  joins_two : {x y : Float} → Joins s l x → Joins s l y → Joins s l (larger x y)

-- ---- a page whose every number is whole 64ths; a band's start is the end above it

abbrev pub Bottom64 : Option Float → Type 0
Bottom64 None = Unit {0}
Bottom64 (Some x) = T (is64 x)

pub record Page64 (p : Page) : Type 0 where
  pub width : T (is64 p.width)
  pub bands : Each (λ b. T (is64 b.end) × T (is64 b.left) × T (is64 b.right)) p.bands
  pub boxes : Each (λ b. T (is64 b.width) × T (is64 b.height) × T (is64 b.x_inset) × T (is64 b.y)) p.boxes
  pub left_bottom : Bottom64 p.left_bottom
  pub right_bottom : Bottom64 p.right_bottom
  pub ceiling : Bottom64 p.ceiling
  pub depth : Bottom64 p.depth
