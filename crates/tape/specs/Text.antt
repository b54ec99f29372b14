-- A text set beside the page after a tape (4/14). Definitions only.
use Rattle.std.specs.Prelude.{ℕ, zero, suc, ◌+◌, ◌*◌, Bool, true, false, leb, eqb, Float, length}
use mathlib.Core.List.{List, [], ◌∷◌, flat_map}
use Rattle.float.specs.Page.{page_of}
use Rattle.words.specs.declared.Line.{Line}
use Rattle.words.specs.Text.{Text, number_of}
use Rattle.words.specs.Lines.{Told, lines, refused, set_words}
use Rattle.tape.specs.Bytes.{u16_at, f32_at, float, decimal, row}
use Rattle.tape.specs.Tape.{broken_line, page_after}

-- the n floats at i, one after the other
unfoldable pub floats_at : ℕ → List ℕ → ℕ → List Float
floats_at zero b i = []
floats_at (suc n) b i = f32_at b i ∷ floats_at n b (i + 4)

-- the five numbers at i, after the widths
abbrev pub figures_at : List Float → List ℕ → ℕ → Text
figures_at ws b i = record { widths = ws; gap = f32_at b i; height = f32_at b (i + 4); min_y = f32_at b (i + 8); left = f32_at b (i + 12); right = f32_at b (i + 16) }

-- a text: the count of its words, their widths, gap, line height, min_y, left and right inset
abbrev pub text_of : List ℕ → Text
text_of b = figures_at (floats_at (u16_at b 0) b 2) b (2 + 4 * u16_at b 0)

-- it is as long as its count says
abbrev pub whole_text : List ℕ → Bool
whole_text b = eqb (length b) (22 + 4 * u16_at b 0)

-- L x y first count
unfoldable pub set_line : Line → List ℕ
set_line x = row 76 (float x.x ∷ float x.y ∷ decimal x.first ∷ decimal x.count ∷ [])

-- one line for each line set, or R number
unfoldable pub told_lines : Told → List ℕ
told_lines (lines xs) = flat_map set_line xs
told_lines (refused n) = row 82 (decimal (number_of n) ∷ [])

-- a line that ends all: what would come after it is not printed
unfoldable pub or_else : List ℕ → List ℕ → List ℕ
or_else [] ls = ls
or_else (c ∷ l) ls = c ∷ l

-- what is printed: of a tape that stops its own last line alone, then T 0 for a text that is not whole, else the lines of the text
unfoldable pub words_after : (tape text : List ℕ) → List ℕ
words_after t b =
    elim (leb (length t) 65536) [
      | true ↦ or_else (broken_line t) (elim (whole_text b) [ true ↦ told_lines (set_words (page_of (page_after t)) (text_of b)) | false ↦ row 84 (decimal 0 ∷ []) ])
      | false ↦ row 76 []
    ]
