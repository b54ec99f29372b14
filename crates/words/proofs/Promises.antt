-- The promises over the lines of a text. To read them takes the definitions and no other proof; `cleaned t` is the text with plus zero for minus zero, `os` what was called so far.
use mathlib.Core.Path.{◌≡◌, refl, subst}
use mathlib.Core.Logic.{◌↔◌, ◌≢◌}
use Prim.Native.Nat.{ℕ, ◌+◌, ◌≤◌}
use native.Mathlib.Omega.{arith}
use mathlib.Core.Bool.{true, not}
use mathlib.Core.List.{List}
use lib.Dec.{T}
use lib.Ieee.{Float, inf, lt}
use lib.ListN.{length, length-map}
use Rattle.f32_laws.proofs.Keys.{key→lt}
use Rattle.float.specs.Numbers.{plus_zero, in_reach}
use Rattle.float.specs.Page.{Page}
use Rattle.demands.specs.Runs.{Each, Act, after, page_in, bands_in, Handed, F32, Whole64, ExactSum, sized}
use Rattle.demands.proofs.Laws.{top_low}
use Rattle.demands.proofs.Reached.{reached}
use Rattle.words.specs.declared.Line.{Line}
use Rattle.words.specs.declared.TextRefusal.{TextRefusal}
use Rattle.words.specs.Text.{Text, cleaned}
use Rattle.words.specs.Lines.{span_at, moves, turn_at, lines, refused, set_from, set_words}
use Rattle.words.specs.Layout.{Tiles, words_in, line_width, line_right, line_bottom, WordsExact, lies_on, Down, Fits, Full, begun, PassesFar}
use Rattle.words.specs.Laid.{Rising}
use Rattle.words.specs.Refused.{Figures, AppliesTo, order, First, AreLines}
use Rattle.words.proofs.Turned.{moves_is}
use Rattle.words.proofs.Filled.{each_line, at_edge, in_reach_lem, fits, full}
use Rattle.words.proofs.Tiling.{tiles, tiles_few}
use Rattle.words.proofs.Moving.{rising, ahead_few, sinks}
use Rattle.words.proofs.Checked.{passed, text_passed, lines_set, comes_far}
use Rattle.words.proofs.Ready.{ready, cleaned_fit}
use Rattle.words.proofs.Turns.{down, enough, far}
use Rattle.words.proofs.Clear.{off_boxes, exact_lines}
use Rattle.words.proofs.Refusals.{refused_early, refused_first, lines_first}

-- ---- on any page, whatever numbers it holds

-- every word stands on exactly one line, in order: firsts and counts tile 0 .. n - 1, every count is at least 1
pub words_tile : (p : Page) (t : Text) (xs : List Line) → set_words p t ≡ lines xs → Tiles 0 (length t.widths) xs
words_tile p t xs e = subst (λ (n : ℕ). Tiles 0 n xs) (omega (arith, length-map t.widths plus_zero)) (tiles p.width p.bands (cleaned t) (lines_set p t xs e))

-- no more lines than words, and at most 512
pub lines_at_most : (p : Page) (t : Text) (xs : List Line) → set_words p t ≡ lines xs → (length xs ≤ length t.widths) × (length xs ≤ 512)
lines_at_most p t xs e =
    let n = tiles_few 0 (length t.widths) xs (words_tile p t xs e) in
    let few = (text_passed p t xs e).few in
    (omega arith, omega (arith, length-map t.widths plus_zero))

-- a line begins at its left edge
pub line_at_its_edge : (p : Page) (t : Text) (xs : List Line) → set_words p t ≡ lines xs → Each (λ x. x.x ≡ (span_at p.bands (cleaned t) x.y).left) xs
line_at_its_edge p t xs e = each_line p.width p.bands (cleaned t) _ (at_edge p.width p.bands (cleaned t)) refl (lines_set p t xs e)

-- on a line that touches a band the words fit the room
pub line_fits : (p : Page) (t : Text) (xs : List Line) → set_words p t ≡ lines xs → Each (Fits p.width p.bands (cleaned t)) xs
line_fits p t xs e = each_line p.width p.bands (cleaned t) _ (fits p.width p.bands (cleaned t)) refl (lines_set p t xs e)

-- greedy: the word after a line's last would not have fitted it
pub line_full : (p : Page) (t : Text) (xs : List Line) → set_words p t ≡ lines xs → Each (Full p.width p.bands (cleaned t)) xs
line_full p t xs e = each_line p.width p.bands (cleaned t) _ (full p.width p.bands (cleaned t)) refl (lines_set p t xs e)

-- no line's bottom passes 131,072
pub bottoms_in_reach : (p : Page) (t : Text) (xs : List Line) → set_words p t ≡ lines xs → Each (λ x. T (in_reach (line_bottom (cleaned t) x))) xs
bottoms_in_reach p t xs e = each_line p.width p.bands (cleaned t) _ (in_reach_lem p.width p.bands (cleaned t)) refl (lines_set p t xs e)

-- refused exactly when, but for a line too far: the first row of the table that applies, in the order 2, 3, 9, 10, 6
pub text_refused_early : (p : Page) (t : Text) (n : TextRefusal) → n ≢ TextRefusal.TooFar → (set_words p t ≡ refused n) ↔ First (AppliesTo p.width p.bands t) order n
text_refused_early = refused_early

-- ---- on every page that calls reach, with values of f32

-- the bands rise: no start is less than the one above it, none is greater than its own end
pub rising_reached : (os : List Act) → Handed F32 os → Rising (inf true) (bands_in (after os))
rising_reached os f = rising (inf true) (inf true) (bands_in (after os)) top_low.num top_low.num (omega arith) (reached os f).chain

-- lines go down: the first top is at least min_y, each next one at least the bottom before
pub lines_go_down : (os : List Act) (t : Text) (xs : List Line) → Handed F32 os → Figures F32 t → set_words (page_in (after os)) t ≡ lines xs → Down (cleaned t) (cleaned t).min_y xs
lines_go_down os t xs f g e =
    let p = page_in (after os) in
    let r = ready (cleaned t) (cleaned_fit t g) (text_passed p t xs e) in
    down p.width p.bands (cleaned t) (reached os f).chain r.height r.top r.top.num (omega arith) (lines_set p t xs e)

-- a line that moves comes to a greater height: the next start below it or the last end, never where it was
pub moves_down : (os : List Act) (t : Text) (y v z : Float) (vs : List Float) → Handed F32 os → F32 y → turn_at (page_in (after os)).width (bands_in (after os)) t y v vs ≡ moves z → T (lt y z)
moves_down os t y v z vs f g e =
    let p = page_in (after os) in
    let s = sinks p.width p.bands t (reached os f).chain y v vs g (moves_is p.width p.bands t y v vs z e) in
    key→lt s.from s.to.num s.down

-- the turns last: a text is refused as too far only where a line's bottom passes 131,072
pub turns_last : (os : List Act) (t : Text) → Handed F32 os → Figures F32 t → set_words (page_in (after os)) t ≡ refused TextRefusal.TooFar → PassesFar (page_in (after os)).width (bands_in (after os)) (cleaned t)
turns_last os t f g e =
    let p = page_in (after os) in
    let c = comes_far p t e in
    let r = ready (cleaned t) (cleaned_fit t g) (passed (cleaned t) c.0) in
    let v = (reached os f).chain in
    far p.width p.bands (cleaned t) v r.height (length p.bands + length (cleaned t).widths) TextRefusal.TooFar 0 (cleaned t).min_y (cleaned t).widths r.top begun (omega (arith, ahead_few r.top.num p.bands v)) c.1

-- each turn sets a line or moves one, and as many as bands and lines are enough: so there are no more moves than bands
pub turns_at_most : (os : List Act) (t : Text) (xs : List Line) → Handed F32 os → Figures F32 t → set_words (page_in (after os)) t ≡ lines xs
    → set_from (length (bands_in (after os)) + length xs) (page_in (after os)).width (bands_in (after os)) (cleaned t) 0 (cleaned t).min_y (cleaned t).widths ≡ lines xs
turns_at_most os t xs f g e =
    let p = page_in (after os) in
    let r = ready (cleaned t) (cleaned_fit t g) (text_passed p t xs e) in
    let v = (reached os f).chain in
    enough p.width p.bands (cleaned t) v r.height r.top (lines_set p t xs e) (length p.bands + length xs) (omega (arith, ahead_few r.top.num p.bands v))

-- refused exactly when: the first row of the table that applies, in the order 2, 3, 9, 10, 6
pub text_refused_exactly_when : (os : List Act) (t : Text) (n : TextRefusal) → Handed F32 os → Figures F32 t → (set_words (page_in (after os)) t ≡ refused n) ↔ First (AppliesTo (page_in (after os)).width (bands_in (after os)) t) order n
text_refused_exactly_when os t n f g = refused_first (page_in (after os)) t (turns_last os t f g) n

-- and lines are set exactly where no row applies
pub lines_exactly_when : (os : List Act) (t : Text) → Handed F32 os → Figures F32 t → AreLines (set_words (page_in (after os)) t) ↔ Each (λ n. ¬ AppliesTo (page_in (after os)).width (bands_in (after os)) t n) order
lines_exactly_when os t f g = lines_first (page_in (after os)) t (turns_last os t f g)

-- ---- if every number handed in, to the page and of the text, was whole 64ths

-- no line lies on an accepted box of positive size
pub no_word_on_a_box : (os : List Act) (t : Text) → Handed F32 os → Handed Whole64 os → Figures F32 t → Figures Whole64 t → (xs : List Line) → set_words (page_in (after os)) t ≡ lines xs
    → Each (λ a. T (sized a) → Each (λ x. T (not (lies_on (cleaned t) x a))) xs) (after os).accepted
no_word_on_a_box = off_boxes

-- and no sum of a line is rounded: its words and the gaps between them, its right edge and its bottom
pub lines_exact : (os : List Act) (t : Text) → Handed F32 os → Handed Whole64 os → Figures F32 t → Figures Whole64 t → (xs : List Line) → set_words (page_in (after os)) t ≡ lines xs
    → Each (λ x. WordsExact (cleaned t).gap (words_in (cleaned t) x) × ExactSum x.x (line_width (cleaned t) x) (line_right (cleaned t) x) × ExactSum x.y (cleaned t).height (line_bottom (cleaned t) x)) xs
lines_exact = exact_lines
