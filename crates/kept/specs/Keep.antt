-- What the program's page goes through: a width of 320 and three placements. Definitions only.
use Rattle.std.specs.Prelude.{ℕ, Float, pos}
use Rattle.std.specs.Float.{binary32}
use Rattle.std.specs.Float.Ieee.{of_int}
use Rattle.float.specs.declared.FloatContext.{FloatContext}
use Rattle.float.specs.declared.Placed.{Placed}
use Rattle.float.specs.Page.{fresh_context}
use Rattle.float.specs.Place.{Call, place_of, width_of}
use Rattle.kept.specs.declared.Kept.{Kept}

-- a whole number
abbrev pub n : ℕ → Float
n k = of_int binary32 (pos k)

-- a box on a side, of which nothing else is asked
abbrev pub box : ℕ → Float → Float → Call
box side width height = record { side = side; clear = 0; width = width; height = height; min_y = n 0; left = n 0; right = n 0 }

-- a fresh page 320 wide
abbrev pub wide : FloatContext
wide = (width_of fresh_context (n 320)).page

-- the page after each call is the one on which the next is made
abbrev pub first : Placed
first = place_of wide (box 0 (n 100) (n 50))

abbrev pub second : Placed
second = place_of first.page (box 1 (n 80) (n 30))

abbrev pub third : Placed
third = place_of second.page (box 0 (n 70000) (n 30))

-- what is kept of them
unfoldable pub kept_of : Kept
kept_of = record { left = first.answer; right = second.answer; refused = third.answer; page = third.page }
