-- Bands as numbers, four for each: start, end, left and right inset; and words that were judged. Definitions only.
use Rattle.std.specs.Prelude.{ℕ, suc, ◌≡◌, Bool, cond, List, [], ◌∷◌, map, T, Float, length, slice_index_or}
use Rattle.std.specs.Float.{binary32, nan}
use Rattle.std.specs.Float.Ieee.{le}
use Rattle.f32_laws.specs.Key.{Num}
use Rattle.float.specs.declared.Segment.{Segment}
use Rattle.float.specs.Bands.{bare, first_below}
use Rattle.float.specs.Numbers.{size, all_finite, all_allowed}
use Rattle.words.specs.declared.beside.Span.{Span}
use Rattle.words.specs.declared.check.Judged.{Judged}
use Rattle.words.specs.Lines.{first_fits, more}

-- the n widths ws were judged
pub record Judges (ws : List Float) (n : ℕ) (r : Judged) : Type 0 where
  pub count : n ≡ length ws
  pub finite : r.finite ≡ all_finite (map size ws)
  pub allowed : r.allowed ≡ all_allowed (map size ws)

-- the bands laid one after the other, and read back
unfoldable pub laid : List Segment → List Float
laid [] = []
laid (s ∷ l) = s.start ∷ s.end ∷ s.left ∷ s.right ∷ laid l

unfoldable pub read : List Float → List Segment
read [] = []
read (a ∷ []) = []
read (a ∷ b ∷ []) = []
read (a ∷ b ∷ c ∷ []) = []
read (a ∷ b ∷ c ∷ d ∷ xs) = bare a b c d ∷ read xs

-- and of each four their band
abbrev pub band_of : List Float → Segment
band_of c = bare (slice_index_or c 0 nan) (slice_index_or c 1 nan) (slice_index_or c 2 nan) (slice_index_or c 3 nan)

abbrev pub bands_of : List (List Float) → List Segment
bands_of cs = map band_of cs

-- from x on no start is less than the one before it, none is greater than its own end, and both are numbers
pub record Fine (s : Segment) : Type 0 where
  pub start : Num binary32 s.start
  pub end : Num binary32 s.end
  pub up : T (le s.start s.end)

abbrev pub Rising : Float → List Segment → Type 0
Rising x [] = Unit {0}
Rising x (s ∷ l) = Fine s × T (le x s.start) × Rising s.start l

-- how many of the first bands end at or above y, where these are looked for
abbrev pub passed_by : Bool → List Segment → Float → ℕ
passed_by sorted l y = cond sorted (first_below l 0 y) 0

-- how many of these words a line takes
unfoldable pub taken : Span → (room gap : Float) → List Float → ℕ
taken e room gap [] = 0
taken e room gap (v ∷ vs) = cond (first_fits e room v) (suc (more room gap v vs)) 0
