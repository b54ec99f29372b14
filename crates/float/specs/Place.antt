-- Placing by rules 1 to 8, its refusals, and the width. Definitions only.
use Rattle.std.specs.Prelude.{ℕ, zero, suc, ◌-◌, max, Bool, true, false, cond, ◌&&◌, List, [], ◌∷◌, ◌++◌, length, get_or, ◌==◌, nat_le, nat_lt, Float, Some, Result, Ok, Err, ⊤}
use Rattle.std.specs.Float.{inf, binary32}
use Rattle.std.specs.Float.Ieee.{add, sub, lt, le, eq}
use Rattle.f32_laws.specs.Numbers.{larger, zero+}
use Rattle.float.specs.declared.FloatContext.{FloatContext}
use Rattle.float.specs.declared.Placed.{Placed}
use Rattle.float.specs.declared.PlacedFloatedBox.{PlacedFloatedBox}
use Rattle.float.specs.declared.Refusal.{Refusal}
use Rattle.float.specs.declared.Segment.{Segment}
use Rattle.float.specs.declared.Widened.{Widened}
use Rattle.float.specs.declared.fit.Ask.{Ask}
use Rattle.float.specs.declared.search.Spot.{Spot}
use Rattle.float.specs.Numbers.{Given, size, offset, plus_zero, in_reach}
use Rattle.float.specs.Refuse.{side_of, clear_of, check_of}
use Rattle.float.specs.Bands.{none, bare, on_side, split_at, mark_all, last_end, first_below}
use Rattle.float.specs.Page.{Page, page_of, stored, max_bands, max_boxes}
use Rattle.float.specs.Clear.{lower, raise_to, cleared}
use Rattle.float.specs.Search.{search_from}
use Rattle.float.specs.declared.Position.{Position}

-- a placement as it is handed in: two codes and five numbers
pub record Call : Type 0 where
  pub side : ℕ
  pub clear : ℕ
  pub width : Float
  pub height : Float
  pub min_y : Float
  pub left : Float
  pub right : Float

-- the same with plus zero for minus zero
abbrev pub cleaned : Call → Call
cleaned c = record { side = c.side; clear = c.clear; width = plus_zero c.width; height = plus_zero c.height; min_y = plus_zero c.min_y; left = plus_zero c.left; right = plus_zero c.right }

abbrev pub numbers : Call → List Given
numbers c = size c.width ∷ size c.height ∷ offset c.min_y ∷ size c.left ∷ size c.right ∷ []

abbrev pub input_check : Call → Result ⊤ Refusal
input_check c = check_of (nat_lt c.side 2 && nat_lt c.clear 4) (numbers c)

-- an answer and the page after it
pub record PlaceResult : Type 0 where
  pub answer : Result Position Refusal
  pub page : Page

-- rule 1: min_y raised to the ceiling and to the cleared bottoms
unfoldable pub lowest : Page → Call → Float
lowest p c = raise_to (raise_to c.min_y p.ceiling) (cleared p (clear_of c.clear))

-- rule 2 (2/14): the first band number allowed is the larger of the two kept firsts, whatever clear says
abbrev pub first_allowed : Page → ℕ
first_allowed p = max p.left_first p.right_first

-- rules 3 and 4: what is asked of a place, and the spot that the search finds
abbrev pub ask_of : Page → Call → Ask
ask_of p c = record {
  width = c.width;
  height = c.height;
  page = p.width;
  cb_lead = on_side (side_of c.side) c.left c.right;
  cb_trail = on_side (side_of c.side) c.right c.left;
  side = side_of c.side;
}

unfoldable pub spot_of : Page → Call → Spot
spot_of p c = search_from p.bands (ask_of p c) (first_below p.bands (first_allowed p) (lowest p c)) (lowest p c)

-- the bands with the box's place made, the bands from start to end that it takes, and its y
pub record Made : Type 0 where
  pub bands : List Segment
  pub start : ℕ
  pub end : ℕ
  pub y : Float

-- an added band of containing insets, unmarked
abbrev pub seed : Ask → (start end : Float) → Segment
seed a s e = bare s e (on_side a.side a.cb_lead a.cb_trail) (on_side a.side a.cb_trail a.cb_lead)

-- the end of no band counts as minus infinity
abbrev pub end_of : List Segment → Float
end_of l = last_end (inf true) l

-- rule 6: below all; z is the last end
abbrev pub gapped : List Segment → (z y : Float) → List Segment
gapped l z y = cond (lt z y) (l ++ bare z y zero+ zero+ ∷ []) l

abbrev pub below_all : Ask → List Segment → (z y : Float) → Made
below_all a l z y = record {
  bands = gapped l z y ++ seed a (larger z y) (add binary32 (larger z y) a.height) ∷ [];
  start = length (gapped l z y);
  end = length (gapped l z y);
  y = larger z y;
}

-- rule 7: the end walked back while it is above the start and the bottom is at or before its start
unfoldable pub walked : List Segment → (start : ℕ) (bottom : Float) (end : ℕ) → ℕ
walked l s bottom zero = zero
walked l s bottom (suc e) = elim (nat_lt s (suc e) && le bottom (get_or l (suc e) none).start) [ true ↦ walked l s bottom e | false ↦ suc e ]

abbrev pub inside : Segment → Float → Bool
inside b y = lt b.start y && lt y b.end

-- rule 7: the end band split where the bottom is strictly inside; the end stays the upper part
abbrev pub ended : List Segment → (start end : ℕ) (y bottom : Float) → Made
ended l s e y bottom = cond (inside (get_or l e none) bottom) (record { bands = split_at l e bottom; start = s; end = e; y = y }) (record { bands = l; start = s; end = e; y = y })

-- rule 7: running past the last band
abbrev pub past_last : Ask → List Segment → (start : ℕ) (y bottom : Float) → Made
past_last a l s y bottom =
    cond (lt (end_of l) bottom)
    (record { bands = l ++ seed a (end_of l) bottom ∷ []; start = s; end = length l; y = y })
    (record { bands = l; start = s; end = length l - 1; y = y })

abbrev pub started_at : Ask → List Segment → (start end : ℕ) (y : Float) → Made
started_at a l s e y = cond (nat_lt e (length l)) (ended l s (walked l s (add binary32 y a.height) e) y (add binary32 y a.height)) (past_last a l s y (add binary32 y a.height))

-- rules 6 and 7: the start band is split at y unless y is its start; start is then the lower part, and the end moves along
unfoldable pub make : Ask → List Segment → Spot → Made
make a l p =
    cond (nat_lt p.start (length l))
    (cond (eq p.y (get_or l p.start none).start)
    (started_at a l p.start p.end p.y)
    (started_at a (split_at l p.start p.y) (suc p.start) (suc p.end) p.y))
    (below_all a l (end_of l) p.y)

-- rule 8: the bands from start to end get placed inset + width, the mark and the box's number, counted over the boxes before it (1/14); the side's kept first is raised to start (2/14)
abbrev pub recorded : Page → Ask → (inset : Float) → Made → Page
recorded p a i m = record {
  width = p.width;
  bands = mark_all a.side (add binary32 i a.width) (length p.boxes) m.bands m.start m.end;
  boxes = p.boxes;
  left_bottom = p.left_bottom;
  right_bottom = p.right_bottom;
  ceiling = p.ceiling;
  depth = p.depth;
  left_first = on_side a.side (max p.left_first m.start) p.left_first;
  right_first = on_side a.side p.right_first (max p.right_first m.start);
}

-- what every accepted box does, one of no height too: its side's bottom, the ceiling, the depth (3/14), and the box itself
abbrev pub box_of : Ask → (inset y : Float) → PlacedFloatedBox
box_of a i y = record { width = a.width; height = a.height; x_inset = i; y = y; side = a.side }

abbrev pub counted : Page → Ask → (inset y : Float) → Page
counted p a i y = record {
  width = p.width;
  bands = p.bands;
  boxes = p.boxes ++ box_of a i y ∷ [];
  left_bottom = on_side a.side (lower p.left_bottom (Some (add binary32 y a.height))) p.left_bottom;
  right_bottom = on_side a.side p.right_bottom (lower p.right_bottom (Some (add binary32 y a.height)));
  ceiling = lower p.ceiling (Some y);
  depth = lower p.depth (Some (add binary32 y a.height));
  left_first = p.left_first;
  right_first = p.right_first;
}

-- a left box answers its inset as x, a right box page width - inset - width
abbrev pub x_of : Ask → (inset : Float) → Float
x_of a i = on_side a.side i (sub binary32 (sub binary32 a.page i) a.width)

abbrev pub refuse : Page → Refusal → PlaceResult
refuse p n = record { answer = Err n; page = p }

abbrev pub accept : Page → Ask → Spot → (y : Float) → PlaceResult
accept p a s y = record { answer = Ok (record { x = x_of a s.inset; y = y; steps = s.steps }); page = counted p a s.inset y }

-- refusal 6 is given where this fails
abbrev pub near : Ask → (inset y : Float) → Bool
near a i y = in_reach (add binary32 y a.height) && in_reach (add binary32 i a.width)

-- a box with a height: refusals 6 and 7, then rule 8
unfoldable pub high : Page → Ask → Spot → Made → PlaceResult
high p a s m =
    cond (near a s.inset m.y)
    (cond (nat_le (length m.bands) max_bands) (accept (recorded p a s.inset m) a s m.y) (refuse p Refusal.BandsFull))
    (refuse p Refusal.TooFar)

-- rule 5: a box of no height answers y as it stands; no band and no kept band number changes
unfoldable pub flat : Page → Ask → Spot → PlaceResult
flat p a s = cond (near a s.inset s.y) (accept p a s s.y) (refuse p Refusal.TooFar)

unfoldable pub put : Page → Ask → Spot → PlaceResult
put p a s = cond (eq a.height zero+) (flat p a s) (high p a s (make a p.bands s))

-- refusal 5
unfoldable pub admitted : Page → Call → PlaceResult
admitted p c = cond (nat_lt (length p.boxes) max_boxes) (put p (ask_of p c) (spot_of p c)) (refuse p Refusal.BoxesFull)

unfoldable pub checked : Page → Call → PlaceResult
checked p c = elim (input_check c) [ Ok _ ↦ admitted p c | Err n ↦ refuse p n ]

-- `place_floated_box`, on pages
unfoldable pub place : Page → Call → PlaceResult
place p c = checked p (cleaned c)

-- and on structs: a refusal hands back the very struct
abbrev pub placed_page : Result Position Refusal → Page → FloatContext → FloatContext
placed_page (Err n) q p = p
placed_page (Ok s) q p = stored q p

abbrev pub held : FloatContext → PlaceResult → Placed
held p r = record { answer = r.answer; page = placed_page r.answer r.page p }

unfoldable pub place_of : FloatContext → Call → Placed
place_of p c = held p (place (page_of p) c)

-- `set_width`: refusals 2, 3 and 4
unfoldable pub width_check : List PlacedFloatedBox → Float → Result ⊤ Refusal
width_check boxes w =
    elim (check_of true (size w ∷ [])) [
      | Ok _ ↦ cond (length boxes == 0) (Ok tt) (Err Refusal.WidthFixed)
      | Err n ↦ Err n
    ]

abbrev pub with_width : Page → Float → Page
with_width p w = record { width = w; bands = p.bands; boxes = p.boxes; left_bottom = p.left_bottom; right_bottom = p.right_bottom; ceiling = p.ceiling; depth = p.depth; left_first = p.left_first; right_first = p.right_first }

abbrev pub if_done {ℓ} : {A : Type ℓ} → Result ⊤ Refusal → A → A → A
if_done (Ok _) new old = new
if_done (Err n) new old = old

-- on pages
unfoldable pub set_width : Page → Float → Page
set_width p w = if_done (width_check p.boxes (plus_zero w)) (with_width p (plus_zero w)) p

-- and on structs: a refusal hands back the very struct
unfoldable pub width_of : FloatContext → Float → Widened
width_of p w =
    let d = width_check (page_of p).boxes (plus_zero w) in
    record { answer = d; page = if_done d (stored (with_width (page_of p) (plus_zero w)) p) p }
