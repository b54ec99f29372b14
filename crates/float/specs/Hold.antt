-- Placing in two phases, by a holder that keeps its page where it lies: what each part says of the whole. No promise to a reader names them. Definitions only.
use Rattle.std.specs.Prelude.{◌≡◌, ℕ, ◌+◌, ◌<◌, ◌≤◌, min, max, Bool, cond, List, length, take, nat_le, slice_set, Float, Option, Some, Result, Ok, Err}
use Rattle.std.specs.Float.{binary32}
use Rattle.std.specs.Float.Ieee.{add}
use Rattle.float.specs.declared.FloatDirection.{FloatDirection}
use Rattle.float.specs.declared.Head.{Head}
use Rattle.float.specs.declared.PlacedFloatedBox.{PlacedFloatedBox}
use Rattle.float.specs.declared.Refusal.{Refusal}
use Rattle.float.specs.declared.Segment.{Segment}
use Rattle.float.specs.declared.fit.Ask.{Ask}
use Rattle.float.specs.declared.hold.Admission.{Admission}
use Rattle.float.specs.declared.hold.Entry.{Entry}
use Rattle.float.specs.declared.plan.Plan.{Plan}
use Rattle.float.specs.declared.search.Spot.{Spot}
use Rattle.float.specs.Bands.{same_side, first_below}
use Rattle.float.specs.Clear.{lower}
use Rattle.float.specs.Head.{page_with}
use Rattle.float.specs.Page.{page_of, max_bands}
use Rattle.float.specs.Place.{Call, near, box_of, x_of, walked, put, held, place_of, width_of}
use Rattle.float.specs.Plan.{source, shaped, Tab}
use Rattle.float.specs.Search.{search_from}

-- r is what the width does to a page of the head h: its refusal, or the head of the page after it
abbrev pub Widens : Head → List Segment → List PlacedFloatedBox → Float → Result Head Refusal → Type 0
Widens h bs xs w (Ok r) = width_of (page_with h bs xs) w ≡ record { answer = Ok tt; page = page_with r bs xs }
Widens h bs xs w (Err n) = width_of (page_with h bs xs) w ≡ record { answer = Err n; page = page_with h bs xs }

-- where what is admitted goes among the bands of an array
abbrev pub sought_in : List Segment → Admission → Spot
sought_in bs r = search_from (take r.n bs) r.ask (first_below (take r.n bs) r.first r.y) r.y

-- r admits the call c to a page with the head h: the placement is what `put` makes of the spot
pub record Admitted (h : Head) (c : Call) (r : Admission) : Type 0 where
  pub few : r.n ≤ 96
  pub live : r.n ≡ min h.count 96
  pub boxes : h.box_count < 64
  pub passed : (bs : List Segment) (xs : List PlacedFloatedBox) → length bs ≡ 96 → length xs ≡ 64 → place_of (page_with h bs xs) c ≡ held (page_with h bs xs) (put (page_of (page_with h bs xs)) r.ask (sought_in bs r))

-- or refuses it: the whole placement is refused, and the page stays
abbrev pub Admits : Head → Call → Result Admission Refusal → Type 0
Admits h c (Ok r) = Admitted h c r
Admits h c (Err n) = (bs : List Segment) (xs : List PlacedFloatedBox) → length bs ≡ 96 → length xs ≡ 64 → place_of (page_with h bs xs) c ≡ record { answer = Err n; page = page_with h bs xs }

-- e is the end of the spot s, walked back over the bands l where it is one of them
pub record WalkedBack (l : List Segment) (a : Ask) (s : Spot) (e : ℕ) : Type 0 where
  pub inside : s.end < length l → e ≡ walked l s.start (add binary32 s.y a.height) s.end
  pub past : length l ≤ s.end → e ≡ s.end

-- the kept height b of the side `of` after a box of the side s with this bottom
abbrev pub bottom_after : FloatDirection → FloatDirection → Option Float → Float → Option Float
bottom_after s of b bottom = cond (same_side s of) (lower b (Some bottom)) b

-- the kept first of the side `of`, raised to n by a box of the side s
abbrev pub number_after : FloatDirection → FloatDirection → ℕ → ℕ → ℕ
number_after s of k n = cond (same_side s of) (max k n) k

-- the head after an accepted box; a count of boxes past the array's length is no page's that takes one
unfoldable pub head_after : Head → Ask → Plan → Head
head_after h a p = record {
  width = h.width;
  count = p.count;
  box_count = min h.box_count 63 + 1;
  left_bottom = bottom_after a.side FloatDirection.Left h.left_bottom (add binary32 p.y a.height);
  right_bottom = bottom_after a.side FloatDirection.Right h.right_bottom (add binary32 p.y a.height);
  ceiling = lower h.ceiling (Some p.y);
  depth = lower h.depth (Some (add binary32 p.y a.height));
  left_first = number_after a.side FloatDirection.Left h.left_first p.first;
  right_first = number_after a.side FloatDirection.Right h.right_first p.first;
}

-- what the plan p answers and keeps, where its box is near enough and its bands are few enough
abbrev pub entered_as : Head → Ask → Spot → Plan → Bool → Bool → Result Entry Refusal
entered_as h a s p near few =
    cond near
    (cond few
    (Ok (record { position = record { x = x_of a s.inset; y = p.y; steps = s.steps }; head = head_after h a p; plan = p; floated = box_of a s.inset p.y }))
    (Err Refusal.BandsFull))
    (Err Refusal.TooFar)

-- refusals 6 and 7
unfoldable pub entered_of : Head → Ask → Spot → Plan → Result Entry Refusal
entered_of h a s p = entered_as h a s p (near a s.inset p.y) (nat_le p.count max_bands)

-- r enters the call c on the page of h, bs and xs: it is the new head with the bands that the plan writes and the box
pub record Entered (bs : List Segment) (xs : List PlacedFloatedBox) (h : Head) (c : Call) (a : Ask) (r : Entry) : Type 0 where
  pub room : (r.plan.low ≤ r.plan.high) × (r.plan.high ≤ 96) × (h.box_count < 64)
  pub accepted : (q : List Segment) → Tab (shaped a r.plan) (source r.plan) bs q r.plan.low r.plan.high → place_of (page_with h bs xs) c ≡ record { answer = Ok r.position; page = page_with r.head q (slice_set xs h.box_count r.floated) }

-- or refuses it: the placement is refused, and the page stays
abbrev pub Enters : List Segment → List PlacedFloatedBox → Head → Call → Ask → Result Entry Refusal → Type 0
Enters bs xs h c a (Ok r) = Entered bs xs h c a r
Enters bs xs h c a (Err n) = place_of (page_with h bs xs) c ≡ record { answer = Err n; page = page_with h bs xs }
