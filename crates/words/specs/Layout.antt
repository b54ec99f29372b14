-- The words of the promises: how lines tile their words, what a line measures, where it lies. Definitions only.
use Rattle.std.specs.Prelude.{ℕ, suc, ◌+◌, ◌≤◌, ◌≡◌, Bool, not, ◌&&◌, List, [], ◌∷◌, T, Float, take, drop}
use Rattle.std.proofs.Math.Option.{some}
use Rattle.std.specs.Float.{binary32}
use Rattle.std.specs.Float.Ieee.{add, lt, le}
use Rattle.std.proofs.Math.ListN.{get_elem?}
use Rattle.f32_laws.specs.Numbers.{zero+}
use Rattle.float.specs.declared.Segment.{Segment}
use Rattle.float.specs.Numbers.{in_reach}
use Rattle.demands.specs.Runs.{Accepted, bottom, right_edge, ExactSum}
use Rattle.words.specs.declared.Line.{Line}
use Rattle.words.specs.Text.{Text}
use Rattle.words.specs.Lines.{bottom_at, span_at, room_of, moves, takes, turn_at}

-- firsts and counts tile k .. n - 1, and every count is at least 1
abbrev pub Tiles : ℕ → ℕ → List Line → Type 0
Tiles k n [] = k ≡ n
Tiles k n (x ∷ xs) = (x.first ≡ k) × (1 ≤ x.count) × Tiles (k + x.count) n xs

-- the words of a line, and what they measure with the gaps between them, summed from the left
abbrev pub words_in : Text → Line → List Float
words_in t x = take x.count (drop x.first t.widths)

unfoldable pub summed : (gap sum : Float) → List Float → Float
summed gap sum [] = sum
summed gap sum (v ∷ vs) = summed gap (add binary32 (add binary32 sum gap) v) vs

abbrev pub measured : (gap : Float) → List Float → Float
measured gap [] = zero+
measured gap (v ∷ vs) = summed gap v vs

abbrev pub line_width : Text → Line → Float
line_width t x = measured t.gap (words_in t x)

-- none of these sums is rounded
abbrev pub SumsExact : (gap sum : Float) → List Float → Type 0
SumsExact gap sum [] = Unit {0}
SumsExact gap sum (v ∷ vs) =
    let wide = add binary32 sum gap in
    ExactSum sum gap wide × ExactSum wide v (add binary32 wide v) × SumsExact gap (add binary32 wide v) vs

abbrev pub WordsExact : (gap : Float) → List Float → Type 0
WordsExact gap [] = Unit {0}
WordsExact gap (v ∷ vs) = SumsExact gap v vs

-- the line's rectangle: from x to x plus that, from y to y plus the line height
abbrev pub line_right : Text → Line → Float
line_right t x = add binary32 x.x (line_width t x)

abbrev pub line_bottom : Text → Line → Float
line_bottom t x = bottom_at t x.y

-- it has a point inside in common with that of an accepted box
abbrev pub lies_on : Text → Line → Accepted → Bool
lies_on t x a = lt x.y (bottom a) && lt a.y (line_bottom t x) && lt x.x (right_edge a) && lt a.x (line_right t x)

-- the first top is at least y, each next one at least the bottom before
abbrev pub Down : Text → Float → List Line → Type 0
Down t y [] = Unit {0}
Down t y (x ∷ xs) = T (le y x.y) × Down t (line_bottom t x) xs

-- a line that touches a band: its words fit the room
abbrev pub Fits : Float → List Segment → Text → Line → Type 0
Fits w l t x = T (span_at l t x.y).beside → T (le (line_width t x) (room_of w (span_at l t x.y)))

-- the word after its last, if there is one, would not have fitted
abbrev pub Full : Float → List Segment → Text → Line → Type 0
Full w l t x = (v : Float) → get_elem? t.widths (x.first + x.count) ≡ some v → T (not (le (add binary32 (add binary32 (line_width t x) t.gap) v) (room_of w (span_at l t x.y))))

-- with k words above and these before it, a line is tried at the top y
pub data Tried (w : Float) (l : List Segment) (t : Text) : ℕ → Float → List Float → Type 0 where
  begun : Tried w l t 0 t.min_y t.widths
  lower : {k : ℕ} {y v z : Float} {vs : List Float} → Tried w l t k y (v ∷ vs) → turn_at w l t y v vs ≡ moves z → Tried w l t k z (v ∷ vs)
  after : {k n : ℕ} {y v x : Float} {vs : List Float} → Tried w l t k y (v ∷ vs) → turn_at w l t y v vs ≡ takes x n → Tried w l t (k + suc n) (bottom_at t y) (drop n vs)

-- a line's bottom passes 131,072
pub record PassesFar (w : Float) (l : List Segment) (t : Text) : Type 0 where
  pub above : ℕ
  pub top : Float
  pub word : Float
  pub rest : List Float
  pub tried : Tried w l t above top (word ∷ rest)
  pub far : T (not (in_reach (bottom_at t top)))
