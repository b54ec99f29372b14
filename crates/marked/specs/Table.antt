-- Document 01's twelve marked examples and its tape as one table, with the boxes that their bands name (1/14), how deep their pages are (3/14) and words set around their boxes (4/14). That the definitions give every figure in it is proved in proofs/Examples.antt.
use Rattle.std.specs.Prelude.{ℕ, Bool, true, false, ◌&&◌, cond, ℤ, pos, negsuc, eqb, length, take, replicate, Float, Some, None}
use mathlib.Core.List.{List, [], ◌∷◌, ◌++◌, map}
use Rattle.std.specs.Float.{binary32, nan}
use Rattle.std.specs.Float.Ieee.{of_bits, of_int, neg, to_bits}
use Rattle.float.specs.declared.FloatContext.{FloatContext}
use Rattle.float.specs.Answers.{Value, float, count, truth, missing, Said, refused, values, said_place, said_done, said_content, said_depth, said_innermost}
use Rattle.float.specs.Page.{page_of, fresh_context}
use Rattle.float.specs.Place.{Call, place_of, width_of}
use Rattle.float.specs.Slot.{ContentCall, depth_of, innermost, content}
use Rattle.words.specs.Text.{Text}
use Rattle.words.specs.Lines.{set_words, answered, said_lines}
use Rattle.tape.specs.Tape.{lines_of, depth_after}
use Rattle.tape.specs.Text.{words_after}

-- what is done to the page, and what it must say by the paper's numbers and values
pub data Entry : Type 0 where
  fresh : Entry
  width : Float → Said → Entry
  box : Call → Said → Entry
  bands : ℕ → Entry
  touch : ℕ → ℕ → Said → Entry
  names : ℕ → Value → Value → Entry
  slot : ContentCall → Said → Entry
  deep : Value → Entry
  text : Text → Said → Entry
  tape : List ℕ → List ℕ → Entry
  deep_after : List ℕ → ℤ → Entry
  words_of : (tape text lines : List ℕ) → Entry

-- a whole number, and the bits of a float
abbrev pub n : ℕ → Float
n k = of_int binary32 (pos k)

abbrev pub b : ℕ → Float
b k = of_bits binary32 k

-- ---- what is said against what the table says: as numbers, a float by its bits
abbrev pub written : Value → List ℕ
written (float x) = 0 ∷ to_bits binary32 x ∷ []
written (count k) = 1 ∷ k ∷ []
written (truth t) = 2 ∷ cond t 1 0 ∷ []
written missing = 3 ∷ []

unfoldable pub all_written : List Value → List ℕ
all_written [] = []
all_written (v ∷ vs) = written v ++ all_written vs

abbrev pub told : Said → List ℕ
told (refused k) = 0 ∷ k ∷ []
told (values vs) = 1 ∷ all_written vs

unfoldable pub same : List ℕ → List ℕ → Bool
same [] [] = true
same [] (y ∷ ys) = false
same (x ∷ xs) [] = false
same (x ∷ xs) (y ∷ ys) = eqb x y && same xs ys

-- what is returned to C: from 0 up, or below
abbrev pub returned : ℤ → List ℕ
returned (pos k) = 0 ∷ k ∷ []
returned (negsuc k) = 1 ∷ k ∷ []

-- the box that stands innermost in the band i on the side d (1/14)
abbrev pub touches : FloatContext → ℕ → ℕ → Said → Bool
touches p i d s = same (told (said_innermost (innermost (page_of p) (Some i) d))) (told s)

-- ---- the table run from a page on: every entry must give what it says
unfoldable pub holds : List Entry → FloatContext → Bool
holds [] p = true
holds (fresh ∷ es) p = holds es (width_of fresh_context (n 100)).page
holds (width w s ∷ es) p = let r = width_of p w in same (told (said_done r.answer)) (told s) && holds es r.page
holds (box c s ∷ es) p = let r = place_of p c in same (told (said_place r.answer)) (told s) && holds es r.page
holds (bands k ∷ es) p = eqb (length (page_of p).bands) k && holds es p
holds (touch i d s ∷ es) p = touches p i d s && holds es p
holds (names i l r ∷ es) p = touches p i 0 (values (l ∷ [])) && touches p i 1 (values (r ∷ [])) && holds es p
holds (slot c s ∷ es) p = same (told (said_content (content (page_of p) c))) (told s) && holds es p
holds (deep v ∷ es) p = same (told (said_depth (depth_of (page_of p)))) (told (values (v ∷ []))) && holds es p
holds (text t s ∷ es) p = same (told (said_lines (answered (set_words (page_of p) t)))) (told s) && holds es p
holds (tape t ls ∷ es) p = same (lines_of t) ls && holds es p
holds (deep_after t k ∷ es) p = same (returned (depth_after t)) (returned k) && holds es p
holds (words_of t x ls ∷ es) p = same (words_after t x) ls && holds es p

-- ---- the calls of the examples: min_y 0, insets 0 and no clear unless said; the answer x, y, steps
abbrev pub at : ℕ → ℕ → ℕ → Said
at x y k = values (float (n x) ∷ float (n y) ∷ count k ∷ [])

abbrev pub full : ℕ → ℕ → Float → Float → Float → Float → Float → Said → Entry
full side clear w h y l r s = box (record { side = side; clear = clear; width = w; height = h; min_y = y; left = l; right = r }) s

abbrev pub left : ℕ → ℕ → ℕ → ℕ → ℕ → Entry
left w h x y k = full 0 0 (n w) (n h) (n 0) (n 0) (n 0) (at x y k)

abbrev pub right : ℕ → ℕ → ℕ → ℕ → ℕ → Entry
right w h x y k = full 1 0 (n w) (n h) (n 0) (n 0) (n 0) (at x y k)

-- the page is so deep (3/14)
abbrev pub down : ℕ → Entry
down y = deep (float (n y))

-- a content question at y with a clear: band, x, y, width
abbrev pub ask : ℕ → ℕ → Value → ℕ → ℕ → ℕ → Entry
ask y clear i x y' w = slot (record { min_y = n y; left = n 0; right = n 0; clear = clear; after = None }) (values (i ∷ float (n x) ∷ float (n y') ∷ float (n w) ∷ []))

-- words of these widths (4/14), gap, line height, min_y and insets; a line is x, y, its first word and its count
abbrev pub words : List ℕ → ℕ → ℕ → ℕ → ℕ → ℕ → Said → Entry
words ws g h y l r s = text (record { widths = map n ws; gap = n g; height = n h; min_y = n y; left = n l; right = n r }) s

abbrev pub line : ℕ → ℕ → ℕ → ℕ → List Value
line x y k c = float (n x) ∷ float (n y) ∷ count k ∷ count c ∷ []

-- the widths, one min_y and one line height as they are
abbrev pub wide : List Float → Float → Float → Said → Entry
wide ws h y s = text (record { widths = ws; gap = n 0; height = h; min_y = y; left = n 0; right = n 0 }) s

-- the tape of document 01: width 100, a left box 10 by 30 at 0, a content question at 0, then byte 9
unfoldable pub first_tape : List ℕ
first_tape =
    1 ∷ 0 ∷ 0 ∷ 200 ∷ 66
    ∷ 2 ∷ 0 ∷ 0 ∷ 0 ∷ 0 ∷ 32 ∷ 65 ∷ 0 ∷ 0 ∷ 240 ∷ 65 ∷ 0 ∷ 0 ∷ 0 ∷ 0 ∷ 0 ∷ 0 ∷ 0 ∷ 0 ∷ 0 ∷ 0 ∷ 0 ∷ 0
    ∷ 3 ∷ 0 ∷ 0 ∷ 0 ∷ 0 ∷ 0 ∷ 0 ∷ 0 ∷ 0 ∷ 0 ∷ 0 ∷ 0 ∷ 0 ∷ 0 ∷ 255 ∷ 255
    ∷ 9
    ∷ []

-- its lines: W; P 00000000 00000000 0; C 1 41200000 00000000 42B40000; T 44
unfoldable pub first_lines : List ℕ
first_lines =
    87 ∷ 10
    ∷ 80 ∷ 32 ∷ 48 ∷ 48 ∷ 48 ∷ 48 ∷ 48 ∷ 48 ∷ 48 ∷ 48 ∷ 32 ∷ 48 ∷ 48 ∷ 48 ∷ 48 ∷ 48 ∷ 48 ∷ 48 ∷ 48 ∷ 32 ∷ 48 ∷ 10
    ∷ 67 ∷ 32 ∷ 49 ∷ 32 ∷ 52 ∷ 49 ∷ 50 ∷ 48 ∷ 48 ∷ 48 ∷ 48 ∷ 48 ∷ 32 ∷ 48 ∷ 48 ∷ 48 ∷ 48 ∷ 48 ∷ 48 ∷ 48 ∷ 48 ∷ 32 ∷ 52 ∷ 50 ∷ 66 ∷ 52 ∷ 48 ∷ 48 ∷ 48 ∷ 48 ∷ 10
    ∷ 84 ∷ 32 ∷ 52 ∷ 52 ∷ 10
    ∷ []

-- a text (4/14): three words 40, 50 and 30 wide, gap 4, line height 12, min_y 0, insets 0
unfoldable pub first_text : List ℕ
first_text =
    3 ∷ 0
    ∷ 0 ∷ 0 ∷ 32 ∷ 66 ∷ 0 ∷ 0 ∷ 72 ∷ 66 ∷ 0 ∷ 0 ∷ 240 ∷ 65
    ∷ 0 ∷ 0 ∷ 128 ∷ 64 ∷ 0 ∷ 0 ∷ 64 ∷ 65
    ∷ 0 ∷ 0 ∷ 0 ∷ 0 ∷ 0 ∷ 0 ∷ 0 ∷ 0 ∷ 0 ∷ 0 ∷ 0 ∷ 0
    ∷ []

-- its lines beside the left box: L 41200000 00000000 0 1; L 41200000 41400000 1 2
unfoldable pub first_words : List ℕ
first_words =
    76 ∷ 32 ∷ 52 ∷ 49 ∷ 50 ∷ 48 ∷ 48 ∷ 48 ∷ 48 ∷ 48 ∷ 32 ∷ 48 ∷ 48 ∷ 48 ∷ 48 ∷ 48 ∷ 48 ∷ 48 ∷ 48 ∷ 32 ∷ 48 ∷ 32 ∷ 49 ∷ 10
    ∷ 76 ∷ 32 ∷ 52 ∷ 49 ∷ 50 ∷ 48 ∷ 48 ∷ 48 ∷ 48 ∷ 48 ∷ 32 ∷ 52 ∷ 49 ∷ 52 ∷ 48 ∷ 48 ∷ 48 ∷ 48 ∷ 48 ∷ 32 ∷ 49 ∷ 32 ∷ 50 ∷ 10
    ∷ []

unfoldable pub table : List Entry
table =
    -- 1: two bands; 2; 3, clearing left: below the left box and beside the right one (2/14), and before it a content question that lands there
    -- 1/14: the gap above names no box, a band added below the new one alone; a band that is not there, and an unknown side
    -- 3/14: a fresh page has no depth; the last box does not end lowest
    fresh
    ∷ deep missing
    ∷ left 10 10 0 0 0
    ∷ down 10
    ∷ bands 2
    ∷ names 0 missing missing
    ∷ names 1 (count 0) missing
    ∷ names 2 missing missing
    ∷ touch 1 2 (refused 1)
    ∷ right 10 30 90 0 1
    ∷ names 1 (count 0) (count 1)
    ∷ names 2 missing (count 1)
    ∷ ask 0 1 (count 2) 0 10 90
    ∷ full 0 1 (n 10) (n 5) (n 0) (n 0) (n 0) (at 0 10 0)
    ∷ down 30
    -- 4; 1/14: the box after it is the third
    ∷ fresh
    ∷ left 100 10 0 0 0
    ∷ left 50 0 0 0 1
    ∷ left 10 10 0 10 1
    ∷ names 2 (count 2) missing
    -- 5, with insets 0 and 60; 6; 7: five bands as before it, for nothing is split at 55; 8; 1/14: the parts of a split name the same box; 3/14: a refused box makes the page no deeper
    ∷ fresh
    ∷ left 10 30 0 0 0
    ∷ full 0 0 (n 10) (n 60) (n 0) (n 0) (n 60) (at 10 0 1)
    ∷ left 10 10 20 0 0
    ∷ right 5 20 95 0 1
    ∷ names 1 (count 2) (count 3)
    ∷ names 2 (count 1) (count 3)
    ∷ names 3 (count 1) missing
    ∷ left 20 45 20 10 5
    ∷ names 2 (count 4) (count 3)
    ∷ names 4 (count 4) missing
    ∷ bands 5
    ∷ ask 56 0 (count 4) 40 56 0
    ∷ full 2 0 (n 10) (n 90) (n 0) (n 0) (n 0) (refused 1)
    ∷ down 60
    -- 9, content clearing left; 3/14: with no band the box of no height makes the page 20 deep
    ∷ fresh
    ∷ full 0 0 (n 50) (n 0) (n 20) (n 0) (n 0) (at 0 20 0)
    ∷ bands 0
    ∷ down 20
    ∷ ask 0 1 missing 0 0 100
    -- 3/14, off whole 64ths: -1.4 + 2.4 is rounded up, past 1, where the last band ends
    ∷ fresh
    ∷ full 0 0 (n 10) (n 4) (neg (n 3)) (n 0) (n 0) (values (float (n 0) ∷ float (neg (n 3)) ∷ count 0 ∷ []))
    ∷ full 0 0 (n 10) (b 0x4019_999a) (b 0xbfb3_3333) (n 0) (n 0) (values (float (n 10) ∷ float (b 0xbfb3_3333) ∷ count 0 ∷ []))
    ∷ ask 1 0 missing 0 1 100
    ∷ deep (float (b 0x3f80_0001))
    -- 10: 40.0005, then 40.01
    ∷ fresh
    ∷ left 60 10 0 0 0
    ∷ full 0 0 (b 0x4220_0083) (n 10) (n 0) (n 0) (n 0) (at 60 0 0)
    ∷ fresh
    ∷ left 60 10 0 0 0
    ∷ full 0 0 (b 0x4220_0a3d) (n 10) (n 0) (n 0) (n 0) (at 0 10 1)
    -- 11: 65,536, the next f32 above it, NaN with a negative height; 3/14: it makes no page deeper
    ∷ fresh
    ∷ width (b 0x4780_0000) (values [])
    ∷ width (b 0x4780_0001) (refused 3)
    ∷ full 0 0 nan (neg (n 1)) (n 0) (n 0) (n 0) (refused 2)
    ∷ deep missing
    -- 4/14, around example 2's boxes: a line beside one band, beside two, below one; a band that ends at the top is not touched; the container's inset beside the band's
    ∷ fresh
    ∷ left 10 10 0 0 0
    ∷ right 10 30 90 0 1
    ∷ words (30 ∷ 30 ∷ 30 ∷ 30 ∷ 30 ∷ []) 5 8 0 0 0 (values (line 10 0 0 2 ++ line 10 8 2 2 ++ line 0 16 4 1))
    ∷ words (85 ∷ []) 0 5 10 0 0 (values (line 0 10 0 1))
    ∷ words (40 ∷ 30 ∷ []) 5 8 0 20 0 (values (line 20 0 0 1 ++ line 20 8 1 1))
    -- no gap before the first word; one between two, which may fill the room; as many words as may be, of no width
    ∷ words (80 ∷ []) 5 5 0 0 0 (values (line 10 0 0 1))
    ∷ words (40 ∷ 40 ∷ []) 5 5 0 0 0 (values (line 10 0 0 1 ++ line 10 5 1 1))
    ∷ words (40 ∷ 35 ∷ []) 5 5 0 0 0 (values (line 10 0 0 2))
    ∷ wide (replicate 512 (n 0)) (n 1) (n 0) (values (line 10 0 0 512))
    -- a word too wide moves to the next start; to the last end, where it stands whether it fits or not; so it does in a room below 0
    ∷ words (85 ∷ []) 0 5 0 0 0 (values (line 0 10 0 1))
    ∷ words (95 ∷ []) 0 5 0 0 0 (values (line 0 30 0 1))
    ∷ wide (n 95 ∷ []) (n 6) (neg (n 5)) (values (line 0 30 0 1))
    ∷ words (150 ∷ 5 ∷ []) 0 5 30 0 0 (values (line 0 30 0 1 ++ line 0 35 1 1))
    ∷ words (0 ∷ []) 0 5 0 60 60 (values (line 60 30 0 1))
    -- a band that starts at the bottom is not touched; one that starts above it is
    ∷ fresh
    ∷ left 10 10 0 0 0
    ∷ full 0 0 (n 30) (n 10) (n 10) (n 0) (n 0) (at 0 10 0)
    ∷ words (75 ∷ []) 0 8 2 0 0 (values (line 10 2 0 1))
    ∷ words (75 ∷ []) 0 9 2 0 0 (values (line 0 20 0 1))
    -- refusals: 2 before all, past the 512th word too; 3 before 9 and 10; 9 before 10; 10 with no word; 6 and no line at all
    ∷ wide (replicate 512 (n 1) ++ nan ∷ []) (n 0) (n 0) (refused 2)
    ∷ wide (replicate 512 (n 1) ++ b 0x4780_0001 ∷ []) (n 0) (n 0) (refused 3)
    ∷ wide (neg (n 1) ∷ []) (n 1) (n 0) (refused 3)
    ∷ wide (replicate 513 (n 1)) (n 0) (n 0) (refused 9)
    ∷ words [] 0 0 0 0 0 (refused 10)
    ∷ words [] 0 1 0 0 0 (values [])
    ∷ words (60 ∷ []) 0 65536 65536 0 0 (values (line 0 65536 0 1))
    ∷ words (60 ∷ 60 ∷ []) 0 65536 65536 0 0 (refused 6)
    -- a line height that rounding swallows; minus zero
    ∷ wide (n 60 ∷ n 60 ∷ []) (b 0x3580_0000) (n 65536) (values (line 0 65536 0 1 ++ line 0 65536 1 1))
    ∷ wide (n 5 ∷ []) (n 1) (b 0x8000_0000) (values (line 10 0 0 1))
    -- off whole 64ths: 0.1 + 83.600006 is rounded up to 83.700005, and the box begins at 83.7
    ∷ fresh
    ∷ full 0 0 (b 0x3dcc_cccd) (n 10) (n 0) (n 0) (n 0) (at 0 0 0)
    ∷ full 1 0 (b 0x4182_6666) (n 10) (n 0) (n 0) (n 0) (values (float (b 0x42a7_6666) ∷ float (n 0) ∷ count 0 ∷ []))
    ∷ wide (b 0x42a7_3334 ∷ []) (n 5) (n 0) (values (float (b 0x3dcc_cccd) ∷ float (n 0) ∷ count 0 ∷ count 1 ∷ []))
    -- 12, and the tape of "The tape"; 3/14: what C is told of the page after each, -100 and the bits of 30
    ∷ tape [] []
    ∷ deep_after [] (negsuc 99)
    ∷ tape first_tape first_lines
    ∷ deep_after first_tape (pos 0x41f0_0000)
    -- 4/14: the text set after the tape's first two records; after all of it, where it stops; a text a byte too short
    ∷ words_of (take 28 first_tape) first_text first_words
    ∷ words_of first_tape first_text (84 ∷ 32 ∷ 52 ∷ 52 ∷ 10 ∷ [])
    ∷ words_of [] (take 33 first_text) (84 ∷ 32 ∷ 48 ∷ 10 ∷ [])
    ∷ []
