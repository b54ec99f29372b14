-- The paper's table "Numbered no", row by row, over every call that can be refused. Definitions only.
use Rattle.std.specs.Prelude.{ℕ, ◌≤◌, ◌<◌, ◌≡◌, ◌≢◌, Bool, not, cond, List, [], ◌∷◌, T, Float, length, Option, Some, None}
use Rattle.std.specs.Float.{binary32}
use Rattle.std.specs.Float.Ieee.{add, le, eq}
use Rattle.f32_laws.specs.Numbers.{zero+}
use Rattle.float.specs.declared.AvailableSpace.{AvailableSpace}
use Rattle.float.specs.declared.FloatDirection.{FloatDirection}
use Rattle.float.specs.declared.FloatIntrinsicWidthCalculator.{FloatIntrinsicWidthCalculator}
use Rattle.float.specs.Numbers.{farthest, plus_zero, Given, size, offset}
use Rattle.float.specs.Refuse.{side_of, clear_of}
use Rattle.float.specs.Page.{Page}
use Rattle.float.specs.Place.{Call, cleaned, ask_of, spot_of, Made, make}
use Rattle.float.specs.Slot.{ContentCall, BfcCall}
use Rattle.float.specs.Calculator.{zeroed, plus_on}
use Rattle.demands.specs.Runs.{Any}
use Rattle.demands.specs.Rows.{NotFinite, Outside}
use Rattle.tape.specs.Tape.{lines_of}

-- What can be asked, as it is handed in. Of a page: a width, has_active_floats at a min_y, a box, the two slot questions, cleared_threshold of a clear, innermost of a band and a side.
-- Of a calculator: start with a mode, add a width, side and clear, the result. Of a tape: its lines, into the room lent for them.
pub data Asked : Type 0 where
  width active : Float → Asked
  box : Call → Asked
  content : ContentCall → Asked
  bfc : BfcCall → Asked
  threshold : ℕ → Asked
  innermost : Option ℕ → ℕ → Asked
  start : Option AvailableSpace → Asked
  add_box : Float → ℕ → ℕ → Asked
  result : Asked
  lines : List ℕ → List ℕ → Asked

-- its codes, each with how many are known: 2 sides, 4 clears, 2 directions, 3 modes, of which only the unknown is read as a code; and its numbers by their rows of the table of limits
pub record Handed : Type 0 where
  pub codes : List (ℕ × ℕ)
  pub numbers : List Given

abbrev pub handed : Asked → Handed
handed (width w) = record { codes = []; numbers = size w ∷ [] }
handed (active y) = record { codes = []; numbers = offset y ∷ [] }
handed (box c) = record { codes = (c.side, 2) ∷ (c.clear, 4) ∷ []; numbers = size c.width ∷ size c.height ∷ offset c.min_y ∷ size c.left ∷ size c.right ∷ [] }
handed (content c) = record { codes = (c.clear, 4) ∷ []; numbers = offset c.min_y ∷ size c.left ∷ size c.right ∷ [] }
handed (bfc c) = record { codes = (c.direction, 2) ∷ (c.clear, 4) ∷ []; numbers = offset c.min_y ∷ size c.left ∷ size c.right ∷ offset c.left_margin ∷ offset c.right_margin ∷ [] }
handed (threshold k) = record { codes = (k, 4) ∷ []; numbers = [] }
handed (innermost i s) = record { codes = (s, 2) ∷ []; numbers = [] }
handed (start (Some (AvailableSpace.Definite w))) = record { codes = []; numbers = size w ∷ [] }
handed (start (Some AvailableSpace.MinContent)) = record { codes = []; numbers = [] }
handed (start (Some AvailableSpace.MaxContent)) = record { codes = []; numbers = [] }
handed (start None) = record { codes = (3, 3) ∷ []; numbers = [] }
handed (add_box w s k) = record { codes = (s, 2) ∷ (k, 4) ∷ []; numbers = size w ∷ [] }
handed result = record { codes = []; numbers = [] }
handed (lines t a) = record { codes = []; numbers = [] }

-- a code past the known ones; what is said of a number stands in demands, Rows
abbrev pub Unknown : ℕ × ℕ → Type 0
Unknown c = c.1 ≤ c.0

-- x is not at most 131,072
abbrev pub Passes : Float → Type 0
Passes x = T (not (le x farthest))

-- rule 5 is for a box of no height: it needs no band and keeps y as the search found it
abbrev pub has_height : Call → Bool
has_height c = not (eq (cleaned c).height zero+)

-- the bands and the y that rules 1 to 7 give a box with a height
abbrev pub made_of : Page → Call → Made
made_of p c = make (ask_of p (cleaned c)) p.bands (spot_of p (cleaned c))

-- the y of either
abbrev pub y_of : Page → Call → Float
y_of p c = cond (has_height c) (made_of p c).y (spot_of p (cleaned c)).y

-- the calculator's sums after a box, and the two together
abbrev pub sums : FloatIntrinsicWidthCalculator → Float → ℕ → ℕ → List Float
sums c w s k =
    let l = plus_on (side_of s) FloatDirection.Left (zeroed (clear_of k) FloatDirection.Left c.left_sum) (plus_zero w) in
    let r = plus_on (side_of s) FloatDirection.Right (zeroed (clear_of k) FloatDirection.Right c.right_sum) (plus_zero w) in
    l ∷ r ∷ add binary32 l r ∷ []

-- the table: what is asked on the page p with the calculator q, and the numbers that apply to it
pub data Applies (p : Page) (q : Option FloatIntrinsicWidthCalculator) : Asked → ℕ → Type 0 where
  unknown_code : {a : Asked} → Any Unknown (handed a).codes → Applies p q a 1
  not_finite : {a : Asked} → Any NotFinite (handed a).numbers → Applies p q a 2
  out_of_limits : {a : Asked} → Any Outside (handed a).numbers → Applies p q a 3
  width_fixed : {w : Float} → 0 < length p.boxes → Applies p q (width w) 4
  boxes_full : {c : Call} → 64 ≤ length p.boxes → Applies p q (box c) 5
  too_far : {c : Call} → Any Passes (add binary32 (y_of p c) (cleaned c).height ∷ add binary32 (spot_of p (cleaned c)).inset (cleaned c).width ∷ []) → Applies p q (box c) 6
  sums_too_far : {w : Float} {s k : ℕ} (c : FloatIntrinsicWidthCalculator) → q ≡ Some c → c.available ≢ AvailableSpace.MinContent → Any Passes (sums c w s k) → Applies p q (add_box w s k) 6
  bands_full : {c : Call} → T (has_height c) → 96 < length (made_of p c).bands → Applies p q (box c) 7
  none_to_add_to : {w : Float} {s k : ℕ} → q ≡ None → Applies p q (add_box w s k) 8
  none_to_ask : q ≡ None → Applies p q result 8
  no_room : {t a : List ℕ} → length a < length (lines_of t) → Applies p q (lines t a) 13

-- of several, the lowest
abbrev pub Lowest : (ℕ → Type 0) → ℕ → Type 0
Lowest P n = P n × ((m : ℕ) → m < n → ¬ P m)
