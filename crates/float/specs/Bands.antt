-- Bands: a band's sides, and what is done to a list of them. Definitions only.
use Rattle.std.specs.Prelude.{ℕ, zero, suc, Bool, true, false, List, [], ◌∷◌, Float, Option, Some, None}
use Rattle.std.specs.Float.{nan}
use Rattle.std.specs.Float.Ieee.{lt}
use Rattle.float.specs.declared.FloatDirection.{FloatDirection}
use Rattle.float.specs.declared.Segment.{Segment}

-- the first of two for a left box, the second for a right one
abbrev pub on_side {ℓ} : {A : Type ℓ} → FloatDirection → A → A → A
on_side FloatDirection.Left l r = l
on_side FloatDirection.Right l r = r

abbrev pub same_side : FloatDirection → FloatDirection → Bool
same_side s t = on_side s (on_side t true false) (on_side t false true)

-- lead is a box's side, trail the other
abbrev pub other : FloatDirection → FloatDirection
other s = on_side s FloatDirection.Right FloatDirection.Left

abbrev pub lead : FloatDirection → Segment → Float
lead s b = on_side s b.left b.right

abbrev pub trail : FloatDirection → Segment → Float
trail s b = lead (other s) b

abbrev pub has_float : FloatDirection → Segment → Bool
has_float s b = on_side s b.left_float b.right_float

-- the number of the box last recorded on a side (1/14)
abbrev pub box_on : FloatDirection → Segment → Option ℕ
box_on s b = on_side s b.left_box b.right_box

-- a band with no float
abbrev pub bare : (start end left right : Float) → Segment
bare s e l r = record { start = s; end = e; left = l; right = r; left_float = false; right_float = false; left_box = None; right_box = None }

-- what a read past the last band gives
abbrev pub none : Segment
none = bare nan nan nan nan

-- the same band from s to e
abbrev pub spanning : Segment → (start end : Float) → Segment
spanning b s e = record { start = s; end = e; left = b.left; right = b.right; left_float = b.left_float; right_float = b.right_float; left_box = b.left_box; right_box = b.right_box }

-- a band with the inset v, a float and the box k on one side
abbrev pub marked : FloatDirection → (inset : Float) (number : ℕ) → Segment → Segment
marked FloatDirection.Left v k b = record { start = b.start; end = b.end; left = v; right = b.right; left_float = true; right_float = b.right_float; left_box = Some k; right_box = b.right_box }
marked FloatDirection.Right v k b = record { start = b.start; end = b.end; left = b.left; right = v; left_float = b.left_float; right_float = true; left_box = b.left_box; right_box = Some k }

-- band i split at y
unfoldable pub split_at : List Segment → ℕ → Float → List Segment
split_at [] i y = []
split_at (b ∷ bs) zero y = spanning b b.start y ∷ spanning b y b.end ∷ bs
split_at (b ∷ bs) (suc i) y = b ∷ split_at bs i y

-- the bands from s to e marked
unfoldable pub mark_all : FloatDirection → (inset : Float) (number : ℕ) → List Segment → (start end : ℕ) → List Segment
mark_all d v k [] s e = []
mark_all d v k (b ∷ bs) zero zero = marked d v k b ∷ bs
mark_all d v k (b ∷ bs) zero (suc e) = marked d v k b ∷ mark_all d v k bs zero e
mark_all d v k (b ∷ bs) (suc s) zero = b ∷ bs
mark_all d v k (b ∷ bs) (suc s) (suc e) = b ∷ mark_all d v k bs s e

-- the last band's end, x where there is none
unfoldable pub last_end : Float → List Segment → Float
last_end x [] = x
last_end x (b ∷ bs) = last_end b.end bs

-- the first band from f on whose end is above y, or the number of bands
unfoldable pub first_below : List Segment → ℕ → Float → ℕ
first_below [] f y = 0
first_below (b ∷ bs) zero y = elim (lt y b.end) [ true ↦ 0 | false ↦ suc (first_below bs zero y) ]
first_below (b ∷ bs) (suc f) y = suc (first_below bs f y)
