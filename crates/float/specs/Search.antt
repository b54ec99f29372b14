-- Rules 3 and 4: the search for a start and an end. Definitions only.
use Rattle.std.specs.Prelude.{ℕ, zero, suc, ◌+◌, max, Bool, cond, List, length, ◌==◌, nat_lt, slice_index_or, Float}
use Rattle.std.specs.Float.{binary32, binary64}
use Rattle.std.specs.Float.Ieee.{add, sub, le}
use Rattle.f32_laws.specs.Numbers.{larger, zero+}
use Rattle.float.specs.declared.FloatDirection.{FloatDirection}
use Rattle.float.specs.declared.Segment.{Segment}
use Rattle.float.specs.declared.fit.Ask.{Ask}
use Rattle.float.specs.declared.search.Reach.{Reach}
use Rattle.float.specs.declared.search.Spot.{Spot}
use Rattle.float.specs.Bands.{none, lead, trail}
use Rattle.float.specs.Fit.{placed_at, fits}

-- where the search stands: the bands tried as start and end, y and the steps so far
pub record Try : Type 0 where
  pub start : ℕ
  pub end : ℕ
  pub y : Float
  pub steps : ℕ

-- at a start that is not looked at yet; or with the start taken, and what is joined
pub data State : Type 0 where
  at_start : Try → State
  at_end : Try → Reach → State

pub data Turn : Type 0 where
  stop : Spot → Turn
  again : State → Turn

-- the end begins at the start
abbrev pub try_from : (first : ℕ) (y : Float) → Try
try_from first y = record { start = first; end = first; y = y; steps = 0 }

-- found where the search stands, with the placed inset
abbrev pub spot : Try → (inset : Float) → Spot
spot t i = record { start = t.start; end = t.end; y = t.y; inset = i; steps = t.steps }

-- the insets of one more band joined: the larger of each
unfoldable pub joined : FloatDirection → Reach → Segment → Reach
joined d j b = record { lead = larger j.lead (lead d b); trail = larger j.trail (trail d b); height = j.height }

-- the start band taken at y: joined from 0, the counted height is its end - y
abbrev pub opened : FloatDirection → Segment → Float → Reach
opened d b y = joined d (record { lead = zero+; trail = zero+; height = sub binary32 b.end y }) b

-- each end but the start adds its height, summed in f64
unfoldable pub taller : Reach → Segment → Bool → Reach
taller j b same = record { lead = j.lead; trail = j.trail; height = cond same j.height (add binary64 j.height (sub binary32 b.end b.start)) }

-- the start is given up for the next; the end is raised to it if it lies above
abbrev pub give_up : Try → Turn
give_up t = again (at_start (record { start = suc t.start; end = max t.end (suc t.start); y = t.y; steps = suc t.steps }))

-- the counted height is enough: found; else the end is given up
unfoldable pub high_turn : Ask → Try → Reach → Turn
high_turn a t j =
    cond (le a.height j.height) (stop (spot t (placed_at a j.lead)))
    (again (at_end (record { start = t.start; end = suc t.end; y = t.y; steps = suc t.steps }) j))

-- the end band b is joined: where the joined insets do not fit, the start is given up
unfoldable pub join_turn : Ask → Try → Segment → Reach → Turn
join_turn a t b j = cond (fits a j.lead j.trail) (high_turn a t (taller j b (t.end == t.start))) (give_up t)

-- the end is moved on; no band left: found, running past the last
unfoldable pub end_turn : List Segment → Ask → Try → Reach → Turn
end_turn l a t j =
    cond (nat_lt t.end (length l))
    (join_turn a t (slice_index_or l t.end none) (joined a.side j (slice_index_or l t.end none)))
    (stop (spot t (placed_at a j.lead)))

-- the start band alone fits: y becomes the larger of y and its start
unfoldable pub fit_turn : List Segment → Ask → Try → Segment → Turn
fit_turn l a t b =
    let y = larger t.y b.start in end_turn l a (record { start = t.start; end = t.end; y = y; steps = t.steps }) (opened a.side b y)

-- a start beyond the last band: the box goes below all; a start that alone does not fit is given up
unfoldable pub start_turn : List Segment → Ask → Try → Turn
start_turn l a t =
    cond (nat_lt t.start (length l))
    (cond (fits a (lead a.side (slice_index_or l t.start none)) (trail a.side (slice_index_or l t.start none)))
    (fit_turn l a t (slice_index_or l t.start none))
    (give_up t))
    (stop (spot t a.cb_lead))

abbrev pub turn : List Segment → Ask → State → Turn
turn l a (at_start t) = start_turn l a t
turn l a (at_end t j) = end_turn l a t j

-- the search with at most f moves given up
unfoldable pub search : ℕ → List Segment → Ask → State → Spot
search zero l a st = elim (turn l a st) [ stop s ↦ s | again x ↦ spot (try_from 0 zero+) zero+ ]
search (suc f) l a st = elim (turn l a st) [ stop s ↦ s | again x ↦ search f l a x ]

-- from the band `first` on. The fuel, two moves a band, is never used up: `fuel_enough` (proofs/Spot.antt)
unfoldable pub search_from : List Segment → Ask → (first : ℕ) (y : Float) → Spot
search_from l a first y = search (length l + length l) l a (at_start (try_from first y))
