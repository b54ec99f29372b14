-- Numbers as they are handed in: plus zero, finite, the limits. Definitions only.
use Rattle.std.specs.Prelude.{Bool, true, false, cond, ◌&&◌, List, [], ◌∷◌, pos, Float}
use Rattle.std.specs.Float.{inf, fin}
use Rattle.std.specs.Float.Ieee.{lt, le, eq}
use Rattle.f32_laws.specs.Numbers.{zero+}

-- 65,536, 1 * 2 ^ 16: the most that a width, a height, an inset, a margin or min_y may be
abbrev pub most : Float
most = fin false 1 (pos 16)

-- -65,536: the least that min_y or a margin may be
abbrev pub least : Float
least = fin true 1 (pos 16)

-- 131,072, 1 * 2 ^ 17: how far a bottom, an inset plus width or a calculator's sum may reach
abbrev pub farthest : Float
farthest = fin false 1 (pos 17)

-- a minus zero handed in is read as plus zero
unfoldable pub plus_zero : Float → Float
plus_zero x = cond (eq x zero+) zero+ x

-- neither NaN nor an infinity
unfoldable pub finite : Float → Bool
finite x = lt (inf true) x && lt x (inf false)

unfoldable pub within : Float → Float → Float → Bool
within lo hi x = le lo x && le x hi

-- at most 131,072: refusal 6 is given where this fails
unfoldable pub in_reach : Float → Bool
in_reach x = le x farthest

-- a number of a call, with its row of the table of limits: a size is 0 to 65,536, an offset -65,536 to 65,536
pub data Given : Type 0 where
  size offset : Float → Given

abbrev pub value : Given → Float
value (size x) = x
value (offset x) = x

abbrev pub allowed : Given → Bool
allowed (size x) = within zero+ most x
allowed (offset x) = within least most x

-- all numbers of a call are finite; all are inside their limits
unfoldable pub all_finite : List Given → Bool
all_finite [] = true
all_finite (g ∷ gs) = finite (value g) && all_finite gs

unfoldable pub all_allowed : List Given → Bool
all_allowed [] = true
all_allowed (g ∷ gs) = allowed g && all_allowed gs
