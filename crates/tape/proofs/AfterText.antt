-- What is printed of a tape and a text: which of the three it is, and the lines of a text that is set or refused.
use Rattle.std.specs.Prelude.{Result, Ok, Err, ⊤}
use Prim.Native.Nat.{ℕ, ◌+◌, ◌*◌, ◌≤◌, ◌<◌}
use mathlib.Core.Path.{◌≡◌, refl, sym, ap, ◌∙◌, subst}
use mathlib.Core.List.{List, [], ◌∷◌, flat_map, map}
use native.Mathlib.Omega.{arith}
use borrow.Author.Tests.{le-leb, lt-leb, eq-eqb, ne_eqb}
use lib.Ieee.{Float}
use lib.ListN.{length, take, drop, replicate, length-map, length-append}
use Rattle.float.specs.Numbers.{plus_zero}
use Rattle.float.specs.declared.FloatContext.{FloatContext}
use Rattle.float.specs.Page.{Page, page_of, front}
use Rattle.float.proofs.Front.{take_front}
use Rattle.words.specs.declared.Lines.{Lines}
use Rattle.words.specs.declared.TextRefusal.{TextRefusal}
use Rattle.words.specs.declared.check.Judged.{Judged}
use Rattle.words.specs.Laid.{Judges}
use Rattle.words.specs.Lines.{Told, lines, refused, set_on, set_words, answered, no_line}
use Rattle.words.specs.Text.{Text, cleaned, number_of, check_of}
use Rattle.words.proofs.Checked.{passed}
use Rattle.words.proofs.Promises.{lines_at_most}
use Rattle.tape.specs.declared.text.Figures.{Figures}
use Rattle.tape.specs.Bytes.{u16_at, f32_at, decimal, row}
use Rattle.tape.specs.Put.{Stops}
use Rattle.tape.specs.Tape.{page_after}
use Rattle.tape.specs.Text.{floats_at, text_of, set_line, told_lines, or_else, words_after}
use Rattle.tape.proofs.Texts.{floats_length}

-- the numbers after the widths of n words
abbrev pub figures_of : List ℕ → ℕ → Figures
figures_of b i = record { gap = f32_at b i; height = f32_at b (i + 4); min_y = f32_at b (i + 8); left = f32_at b (i + 12); right = f32_at b (i + 16) }

-- the text of n words
abbrev text_at : List ℕ → ℕ → Text
text_at b n = record { widths = floats_at n b 2; gap = f32_at b (2 + 4 * n); height = f32_at b (2 + 4 * n + 4); min_y = f32_at b (2 + 4 * n + 8); left = f32_at b (2 + 4 * n + 12); right = f32_at b (2 + 4 * n + 16) }

text_at_lem : (b : List ℕ) {n : ℕ} → n ≡ u16_at b 0 → text_at b n ≡ text_of b
text_at_lem b e = ap (text_at b) e

-- ---- more words than are set

module _ (b : List ℕ) {n : ℕ} {f : Figures} {j : Judged} {g h y l r : Float} {c : Result ⊤ TextRefusal}
    (e : n ≡ u16_at b 0)
    (k : f ≡ figures_of b (2 + 4 * n))
    (judged : Judges (map plus_zero (floats_at n b 2)) n j)
    (pg : g ≡ plus_zero f.gap) (ph : h ≡ plus_zero f.height) (py : y ≡ plus_zero f.min_y) (pl : l ≡ plus_zero f.left) (pr : r ≡ plus_zero f.right)
    (check : (ws : List Float) → Judges ws n j → c ≡ check_of (record { widths = ws; gap = g; height = h; min_y = y; left = l; right = r }))
  where
    checked : c ≡ check_of (cleaned (text_of b))
    checked =
        let same : c ≡ check_of (cleaned (text_at b n)) = check (map plus_zero (floats_at n b 2)) judged ∙ (rw (pg, ph, py, pl, pr, k)) in
        same ∙ ap (λ (t : Text). check_of (cleaned t)) (text_at_lem b e)

    pub check_refused : {x : TextRefusal} → c ≡ Err x → check_of (cleaned (text_of b)) ≡ Err x
    check_refused q = sym checked ∙ q

    pub check_passed : c ≡ Ok tt → n ≤ 512
    check_passed q = let w = (passed (cleaned (text_of b)) (sym checked ∙ q)).few in omega (arith, length-map (floats_at (u16_at b 0) b 2) plus_zero, floats_length (u16_at b 0) b 2)

-- ---- the lines that are printed are those of the text

-- a refusal, by its number k
refused_row : {k : ℕ} (n : TextRefusal) → k ≡ number_of n → row 82 (decimal k ∷ []) ≡ told_lines (refused n)
unfolding told_lines
refused_row n e = ap (λ (k : ℕ). row 82 (decimal k ∷ [])) e

-- one that comes of the check
pub check_row : (p : Page) (t : Text) {k : ℕ} (n : TextRefusal) → check_of (cleaned t) ≡ Err n → k ≡ number_of n → row 82 (decimal k ∷ []) ≡ told_lines (set_words p t)
unfolding set_words set_on
check_row p t n e f = refused_row n f ∙ ap told_lines (sym (rw (e, set_words, set_on)))

-- what was answered for them is a refusal, or lines: at most 512, at the front of the array
module _ (p : Page) (t : Text) where
  abbrev Answers : Told → Type 0
  Answers u = ((k : ℕ) (n : TextRefusal) → answered u ≡ Err n → k ≡ number_of n → row 82 (decimal k ∷ []) ≡ told_lines u) × ((s : Lines) → answered u ≡ Ok s → (s.count ≤ length s.lines) × (s.count ≤ 512) × (flat_map set_line (take s.count s.lines) ≡ told_lines u))

  answers : (u : Told) → set_words p t ≡ u → Answers u
  unfolding answered told_lines front
  answers (refused m) e = (λ k n f g. let x : m ≡ n = cc in refused_row m (g ∙ ap number_of (sym x)), λ s f. absurd (let z : ◌≡◌ {A = ℕ} 0 1 = cc in omega arith))
  answers (lines xs) e = (λ k n f g. absurd (let z : ◌≡◌ {A = ℕ} 0 1 = cc in omega arith), λ s f. set s (cc f))
    where
      made : Lines
      made = record { lines = front xs (replicate 512 no_line); count = length xs }

      set : (s : Lines) → made ≡ s → (s.count ≤ length s.lines) × (s.count ≤ 512) × (flat_map set_line (take s.count s.lines) ≡ flat_map set_line xs)
      set s f =
          let few = (lines_at_most p t xs e).1 in
          let long = length-append xs (drop (length xs) (replicate 512 no_line)) in
          subst (λ (x : Lines). (x.count ≤ length x.lines) × (x.count ≤ 512) × (flat_map set_line (take x.count x.lines) ≡ flat_map set_line xs)) f (omega (arith, long), few, ap (flat_map set_line) (take_front xs _))

-- a text set beside the page after a tape
module _ (t b : List ℕ) {n : ℕ} {f : Figures} (e : n ≡ u16_at b 0) (k : f ≡ figures_of b (2 + 4 * n)) {ws : List Float} (w : ws ≡ floats_at n b 2) {q : FloatContext} (l : q ≡ page_after t) {r : Result Lines TextRefusal}
    (set : r ≡ answered (set_words (page_of q) (record { widths = ws; gap = f.gap; height = f.height; min_y = f.min_y; left = f.left; right = f.right }))) where
  text_is : ◌≡◌ {A = Text} (record { widths = ws; gap = f.gap; height = f.height; min_y = f.min_y; left = f.left; right = f.right }) (text_of b)
  text_is = (rw (k, w)) ∙ text_at_lem b e

  answered_is : answered (set_words (page_of (page_after t)) (text_of b)) ≡ r
  answered_is = sym (set ∙ ap (λ (x : Text). answered (set_words (page_of q) x)) text_is ∙ ap (λ (p : FloatContext). answered (set_words (page_of p) (text_of b))) l)

  pub refusal_row : {j : ℕ} (m : TextRefusal) → r ≡ Err m → j ≡ number_of m → row 82 (decimal j ∷ []) ≡ told_lines (set_words (page_of (page_after t)) (text_of b))
  refusal_row {j} m h g = (answers _ _ _ refl).0 j m (answered_is ∙ h) g

  pub lines_row : (s : Lines) → r ≡ Ok s → (s.count ≤ length s.lines) × (s.count ≤ 512) × (flat_map set_line (take s.count s.lines) ≡ told_lines (set_words (page_of (page_after t)) (text_of b)))
  lines_row s h = (answers _ _ _ refl).1 s (answered_is ∙ h)

-- ---- which of them is printed

module _ (t b : List ℕ) where
  pub too_long : 65536 < length t → row 76 [] ≡ words_after t b
  unfolding words_after
  too_long h = sym (rw (lt-leb (length t) 65536 h, words_after))

  module _ (h : length t ≤ 65536) where
    pub stops : {i : ℕ} → Stops t i → i < length t → row 84 (decimal i ∷ []) ≡ words_after t b
    unfolding words_after or_else
    stops s l = sym (rw (le-leb (length t) 65536 h, s.stopped l, words_after))

    module _ {i : ℕ} (s : Stops t i) (l : length t ≤ i) where
      pub text_cut : (length b ≡ 22 + 4 * u16_at b 0 → ⊥) → row 84 (decimal 0 ∷ []) ≡ words_after t b
      unfolding words_after or_else
      text_cut e = sym (rw (le-leb (length t) 65536 h, s.whole l, ne_eqb (length b) (22 + 4 * u16_at b 0) e, words_after))

      pub text_whole : length b ≡ 22 + 4 * u16_at b 0 → told_lines (set_words (page_of (page_after t)) (text_of b)) ≡ words_after t b
      unfolding words_after or_else
      text_whole e = sym (rw (le-leb (length t) 65536 h, s.whole l, eq-eqb (length b) (22 + 4 * u16_at b 0) e, words_after))
