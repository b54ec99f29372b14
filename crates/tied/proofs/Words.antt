-- The promise of the words on the page after a tape: no line lies on a box; and what C is told. To read it takes the definitions and no other proof.
use Prim.Native.Nat.{ℕ, zero, suc, ◌+◌, ◌*◌, ◌≤◌}
use mathlib.Core.Bool.{Bool, true, false, not}
use mathlib.Core.Path.{◌≡◌, refl, sym, ap, ◌∙◌}
use mathlib.Core.List.{List, [], ◌∷◌, ◌++◌, map, flat_map}
use borrow.Author.Tests.{le-leb}
use lib.Dec.{T}
use lib.ListN.{length}
use Rattle.float.specs.declared.FloatContext.{FloatContext}
use Rattle.float.specs.Numbers.{Given, size, value}
use Rattle.float.specs.Page.{page_of}
use Rattle.tape.specs.Bytes.{u16_at, decimal, row}
use Rattle.tape.specs.Tape.{broken_line, page_after}
use Rattle.tape.specs.Text.{floats_at, text_of, whole_text, set_line, told_lines, or_else, words_after}
use Rattle.demands.specs.Runs.{Each, Handed, F32, Whole64, sized}
use Rattle.words.specs.declared.Line.{Line}
use Rattle.words.specs.Text.{Text, cleaned}
use Rattle.words.specs.Lines.{lines, set_words}
use Rattle.words.specs.Layout.{lies_on}
use Rattle.words.specs.Refused.{Figures}
use Rattle.words.proofs.Promises.{no_word_on_a_box}
use Rattle.tied.specs.Acts.{records_of, calls_at, whole_run}
use Rattle.tied.proofs.Handed.{number_f32, tape_f32}
use Rattle.tied.proofs.Calls.{page_after_tape}

-- if every number that its records handed in was whole 64ths, and every number of the text is: no line lies on an accepted box of positive size
pub tape_no_word_on_a_box : (t : List ℕ) (u : Text) → length t ≤ 65536 → Handed Whole64 (calls_at t (length (records_of t))) → Figures F32 u → Figures Whole64 u
    → (xs : List Line) → set_words (page_of (page_after t)) u ≡ lines xs → Each (λ a. T (sized a) → Each (λ x. T (not (lies_on (cleaned u) x a))) xs) (whole_run t).accepted
tape_no_word_on_a_box t u h s f g xs e =
    let n = length (records_of t) in
    no_word_on_a_box (calls_at t n) u (tape_f32 t n) s f g xs (ap (λ (p : FloatContext). set_words (page_of p) u) (sym (page_after_tape t h)) ∙ e)

-- ---- what C is told of a tape that runs whole and a text that is whole

-- a text's numbers are values of f32
floats_fit : (n : ℕ) (b : List ℕ) (i : ℕ) (l : List Given) → Each (λ g. F32 (value g)) l → Each (λ g. F32 (value g)) (map size (floats_at n b i) ++ l)
unfolding floats_at
floats_fit zero b i l h = h
floats_fit (suc n) b i l h = (number_f32 b i, floats_fit n b (i + 4) l h)

pub text_f32 : (b : List ℕ) → Figures F32 (text_of b)
text_f32 b = let i = 2 + 4 * u16_at b 0 in floats_fit (u16_at b 0) b 2 _ (number_f32 b i, (number_f32 b (i + 4), (number_f32 b (i + 8), (number_f32 b (i + 12), (number_f32 b (i + 16), tt)))))

-- its lines are printed, one for each line set, and if all numbers handed in were whole 64ths none of them lies on a box
pub tape_words : (t b : List ℕ) → length t ≤ 65536 → broken_line t ≡ [] → T (whole_text b) → Handed Whole64 (calls_at t (length (records_of t))) → Figures Whole64 (text_of b)
    → (xs : List Line) → set_words (page_of (page_after t)) (text_of b) ≡ lines xs → (words_after t b ≡ flat_map set_line xs) × Each (λ a. T (sized a) → Each (λ x. T (not (lies_on (cleaned (text_of b)) x a))) xs) (whole_run t).accepted
unfolding words_after or_else told_lines
tape_words t b h k w s g xs e = (
  rw (le-leb (length t) 65536 h, words_after) (ap (λ (l : List ℕ). or_else l (elim (whole_text b) [ true ↦ told_lines (set_words (page_of (page_after t)) (text_of b)) | false ↦ row 84 (decimal 0 ∷ []) ])) k ∙ whole (whole_text b) w ∙ ap told_lines e),
  tape_no_word_on_a_box t (text_of b) h s (text_f32 b) g xs e,
)
  where
    whole : (c : Bool) → T c → (elim c [ true ↦ told_lines (set_words (page_of (page_after t)) (text_of b)) | false ↦ row 84 (decimal 0 ∷ []) ]) ≡ told_lines (set_words (page_of (page_after t)) (text_of b))
    whole true w = refl
    whole false w = absurd w
