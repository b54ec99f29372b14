-- Lines of words beside the bands of a page (4/14). Definitions only.
use Rattle.std.specs.Prelude.{ℕ, zero, suc, ◌+◌, Bool, true, false, not, ◌&&◌, ◌||◌, cond, List, [], ◌∷◌, Float, length, take, drop, replicate, Result, Ok, Err, ⊤}
use Rattle.std.specs.Float.{binary32}
use Rattle.std.specs.Float.Ieee.{add, sub, lt, le}
use Rattle.f32_laws.specs.Numbers.{larger, zero+}
use Rattle.float.specs.declared.Segment.{Segment}
use Rattle.float.specs.Answers.{Value, float, count, Said, refused as refused_by, values}
use Rattle.float.specs.Bands.{last_end}
use Rattle.float.specs.Numbers.{in_reach}
use Rattle.float.specs.Page.{Page, front}
use Rattle.words.specs.declared.Line.{Line}
use Rattle.words.specs.declared.Lines.{Lines}
use Rattle.words.specs.declared.TextRefusal.{TextRefusal}
use Rattle.words.specs.declared.beside.Span.{Span}
use Rattle.words.specs.Text.{Text, cleaned, check_of, max_words, number_of}

-- ---- one line

-- its bottom: top plus line height
abbrev pub bottom_at : Text → Float → Float
bottom_at t y = add binary32 y t.height

-- from y to b it touches a band whose end is greater than y and whose start is less than b
abbrev pub touches : (y b : Float) → Segment → Bool
touches y b s = lt y s.end && lt s.start b

-- a band that it touches: each edge is the larger of what it was and the band's inset
abbrev pub joined : Span → Segment → Span
joined e s = record { left = larger e.left s.left; right = larger e.right s.right; beside = true }

unfoldable pub span_over : (y b : Float) → Span → List Segment → Span
span_over y b e [] = e
span_over y b e (s ∷ l) = span_over y b (cond (touches y b s) (joined e s) e) l

-- the line at the top y: its edges, each the largest of the containing inset and those of all bands that it touches, and whether it touches one
unfoldable pub span_at : List Segment → Text → Float → Span
span_at l t y = span_over y (bottom_at t y) (record { left = t.left; right = t.right; beside = false }) l

-- its room: page width - left - right
abbrev pub room_of : Float → Span → Float
room_of w e = sub binary32 (sub binary32 w e.left) e.right

-- the first word is taken if it is at most the room; on a line that touches no band in any case
abbrev pub first_fits : Span → (room word : Float) → Bool
first_fits e room v = not e.beside || le v room

-- each next word is taken if ((sum + gap) + width) is at most the room: how many of these are
unfoldable pub more : (room gap sum : Float) → List Float → ℕ
more room gap sum [] = 0
more room gap sum (v ∷ vs) =
    let wider = add binary32 (add binary32 sum gap) v in
    elim (le wider room) [ true ↦ suc (more room gap wider vs) | false ↦ 0 ]

-- where not even the first word fits: the next band start greater than its top, or, if there is none, z
unfoldable pub next_start : (y z : Float) → List Segment → Float
next_start y z [] = z
next_start y z (s ∷ l) = elim (lt y s.start) [ true ↦ s.start | false ↦ next_start y z l ]

-- and that is the last end. Where a line moves it lies below y, on every page that calls reach (`moves_down`); on one made by hand a line never goes up
unfoldable pub moved_to : List Segment → Float → Float
moved_to l y = next_start y (larger y (last_end y l)) l

-- ---- the lines

-- what becomes of a line at the top y that has the words v and vs before it: its bottom passes 131,072; it moves down to z; or it takes v and n of vs, and begins at x
pub data Turn : Type 0 where
  too_far : Turn
  moves : (z : Float) → Turn
  takes : (x : Float) (n : ℕ) → Turn

unfoldable pub turn_at : Float → List Segment → Text → (y v : Float) → List Float → Turn
turn_at w l t y v vs =
    let e = span_at l t y in
    let room = room_of w e in
    cond (in_reach (bottom_at t y))
    (cond (first_fits e room v) (takes e.left (more room t.gap v vs)) (moves (moved_to l y)))
    too_far

-- what is answered: the lines from the top down, or a refusal and no line at all
pub data Told : Type 0 where
  lines : List Line → Told
  refused : TextRefusal → Told

abbrev pub before : Line → Told → Told
before x (lines xs) = lines (x ∷ xs)
before x (refused n) = refused n

-- the lines of the words vs, of which k stand above, from the top y on; the words that a line leaves are handed on as the rest of the list.
-- Each turn takes a word or moves the line down. The fuel f, a turn each, lasts on every page that calls reach (`turns_last`); on one made by hand, where a line finds no place further down, it is refused as too far
unfoldable pub set_from : ℕ → Float → List Segment → Text → (k : ℕ) (y : Float) → List Float → Told
set_from zero w l t k y [] = lines []
set_from zero w l t k y (v ∷ vs) = refused TextRefusal.TooFar
set_from (suc f) w l t k y [] = lines []
set_from (suc f) w l t k y (v ∷ vs) =
    elim (turn_at w l t y v vs) [
      | too_far ↦ refused TextRefusal.TooFar
      | moves z ↦ set_from f w l t k z (v ∷ vs)
      | takes x n ↦ before (record { x = x; y = y; first = k; count = suc n }) (set_from f w l t (k + suc n) (bottom_at t y) (drop n vs))
    ]

-- all of them on a page of the width w with the bands l: the first at min_y
abbrev pub set_all : Float → List Segment → Text → Told
set_all w l t = set_from (length l + length t.widths) w l t 0 t.min_y t.widths

unfoldable pub set_on : Float → List Segment → Text → Told
set_on w l t = elim (check_of (cleaned t)) [ Ok _ ↦ set_all w l (cleaned t) | Err n ↦ refused n ]

-- `set_words`
unfoldable pub set_words : Page → Text → Told
set_words p t = set_on p.width p.bands t

-- ---- as it is handed back

-- what stands in a place after the last line
abbrev pub no_line : Line
no_line = record { x = zero+; y = zero+; first = 0; count = 0 }

-- the lines at the front of the array; or the refusal alone
unfoldable pub answered : Told → Result Lines TextRefusal
answered (lines xs) = Ok (record { lines = front xs (replicate max_words no_line); count = length xs })
answered (refused n) = Err n

-- a place for lines, with none yet
abbrev pub no_lines : Lines
no_lines = record { lines = replicate max_words no_line; count = 0 }

-- or set in a lent place: of what that answers, and of what the place then holds, the same
unfoldable pub handed : Result ⊤ TextRefusal → Lines → Result Lines TextRefusal
handed (Ok _) s = Ok s
handed (Err n) s = Err n

-- by the paper's numbers: of each line x, y, its first word and its count; or the number of the refusal
unfoldable pub line_values : List Line → List Value
line_values [] = []
line_values (x ∷ xs) = float x.x ∷ float x.y ∷ count x.first ∷ count x.count ∷ line_values xs

abbrev pub said_lines : Result Lines TextRefusal → Said
said_lines (Ok r) = values (line_values (take r.count r.lines))
said_lines (Err n) = refused_by (number_of n)
