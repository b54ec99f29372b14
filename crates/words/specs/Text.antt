-- What is handed in to be set in lines, and the refusals that are given before any line. Definitions only.
use Rattle.std.specs.Prelude.{ℕ, cond, List, [], ◌∷◌, ◌++◌, map, leb, Float, length, Result, Ok, Err, ⊤}
use Rattle.std.specs.Float.Ieee.{eq}
use Rattle.f32_laws.specs.Numbers.{zero+}
use Rattle.float.specs.Numbers.{Given, size, offset, plus_zero, all_finite, all_allowed}
use Rattle.words.specs.declared.TextRefusal.{TextRefusal}

-- a text: the widths of its words, the gap between two words, the height of a line, min_y, and the insets of the container
pub record Text : Type 0 where
  pub widths : List Float
  pub gap : Float
  pub height : Float
  pub min_y : Float
  pub left : Float
  pub right : Float

-- the same with plus zero for minus zero
abbrev pub cleaned : Text → Text
cleaned t = record { widths = map plus_zero t.widths; gap = plus_zero t.gap; height = plus_zero t.height; min_y = plus_zero t.min_y; left = plus_zero t.left; right = plus_zero t.right }

-- its numbers in this order, with their rows of the table of limits: widths, gap, line height and insets as a box's width, min_y as everywhere
abbrev pub numbers : Text → List Given
numbers t = map size t.widths ++ size t.gap ∷ size t.height ∷ offset t.min_y ∷ size t.left ∷ size t.right ∷ []

-- a text has at most 512 words
abbrev pub max_words : ℕ
max_words = 512

-- the paper's number of each refusal
abbrev pub number_of : TextRefusal → ℕ
number_of TextRefusal.NotFinite = 2
number_of TextRefusal.OutOfLimits = 3
number_of TextRefusal.TooFar = 6
number_of TextRefusal.TooManyWords = 9
number_of TextRefusal.NoLineHeight = 10

-- of several the first in this order: 2 over all numbers, 3 over all, 9, 10
unfoldable pub check_of : Text → Result ⊤ TextRefusal
check_of t =
    cond (all_finite (numbers t))
    (cond (all_allowed (numbers t))
    (cond (leb (length t.widths) max_words)
    (cond (eq t.height zero+) (Err TextRefusal.NoLineHeight) (Ok tt))
    (Err TextRefusal.TooManyWords))
    (Err TextRefusal.OutOfLimits))
    (Err TextRefusal.NotFinite)
