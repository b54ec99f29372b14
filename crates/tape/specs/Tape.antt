-- The tape: what a record does, and the lines of a whole tape. Definitions only.
use Rattle.std.specs.Prelude.{ℕ, zero, suc, ◌+◌, true, false, cond, List, [], ◌∷◌, ◌++◌, leb, Float, ℤ, pos, neg_ℤ, length, drop, Option, Some, None, Result, Ok, Err, ⊤}
use Rattle.std.specs.Float.{binary32}
use Rattle.std.specs.Float.Ieee.{to_bits}
use Rattle.float.specs.declared.Added.{Added}
use Rattle.float.specs.declared.FloatContext.{FloatContext}
use Rattle.float.specs.declared.Placed.{Placed}
use Rattle.float.specs.declared.Refusal.{Refusal}
use Rattle.float.specs.declared.Widened.{Widened}
use Rattle.float.specs.Refuse.{number_of}
use Rattle.float.specs.Page.{page_of, front, fresh_context}
use Rattle.float.specs.Place.{place_of, width_of}
use Rattle.float.specs.Slot.{depth_of, innermost, content, bfc}
use Rattle.float.specs.Calculator.{calculator_of, add_check, add_of, result_of}
use Rattle.tape.specs.declared.record.Record.{Record}
use Rattle.tape.specs.declared.step.State.{State}
use Rattle.tape.specs.Bytes.{float, decimal, row}
use Rattle.tape.specs.Record.{body_len, read_of}
use Rattle.tape.specs.Lines.{refused_line, done_line, place_line, content_line, bfc_line}
use Rattle.float.specs.declared.FloatIntrinsicWidthCalculator.{FloatIntrinsicWidthCalculator}
use Rattle.float.specs.declared.AvailableSpace.{AvailableSpace}

-- a fresh page, no calculator
unfoldable pub fresh_state : State
fresh_state = record { page = fresh_context; calculator = None }

-- what a record leaves, and the line that it prints
pub record Told (A : Type 0) : Type 0 where
  pub after : A
  pub line : List ℕ

abbrev pub told : {A : Type 0} → A → List ℕ → Told A
told a l = record { after = a; line = l }

abbrev pub on_page : State → FloatContext → List ℕ → Told State
on_page s p l = told (record { page = p; calculator = s.calculator }) l

abbrev pub widened : State → Widened → Told State
widened s r = on_page s r.page (done_line 87 r.answer)

abbrev pub placed : State → Placed → Told State
placed s r = on_page s r.page (place_line r.answer)

abbrev pub on_calculator : State → Told (Option FloatIntrinsicWidthCalculator) → Told State
on_calculator s r = told (record { page = s.page; calculator = r.after }) r.line

-- S: an unknown mode is refusal 1
unfoldable pub start_of : Option AvailableSpace → Result FloatIntrinsicWidthCalculator Refusal
start_of (Some a) = calculator_of a
start_of None = Err Refusal.UnknownCode

unfoldable pub started : Option FloatIntrinsicWidthCalculator → Result FloatIntrinsicWidthCalculator Refusal → Told (Option FloatIntrinsicWidthCalculator)
started c (Ok new) = told (Some new) (row 83 [])
started c (Err n) = told c (refused_line n)

-- A: with no calculator 8, but 1 to 3 are lower
abbrev pub added_to : Added → Told (Option FloatIntrinsicWidthCalculator)
added_to r = told (Some r.calculator) (done_line 65 r.answer)

abbrev pub not_added : Result ⊤ Refusal → Refusal
not_added (Ok _) = Refusal.NoCalculator
not_added (Err n) = n

unfoldable pub add_to : Option FloatIntrinsicWidthCalculator → Float → ℕ → ℕ → Told (Option FloatIntrinsicWidthCalculator)
add_to (Some c) w side clear = added_to (add_of c w side clear)
add_to None w side clear = told None (refused_line (not_added (add_check w side clear)))

-- I width
unfoldable pub result_line : Option FloatIntrinsicWidthCalculator → List ℕ
result_line (Some c) = row 73 (float (result_of c) ∷ [])
result_line None = refused_line Refusal.NoCalculator

unfoldable pub step_of : State → Record → Told State
step_of s Record.Fresh = told fresh_state (row 78 [])
step_of s (Record.Width w) = widened s (width_of s.page w)
step_of s (Record.Place side clear w h y l r) = placed s (place_of s.page (record { side = side; clear = clear; width = w; height = h; min_y = y; left = l; right = r }))
step_of s (Record.Content y l r clear after) = told s (content_line (content (page_of s.page) (record { min_y = y; left = l; right = r; clear = clear; after = after })))
step_of s (Record.Bfc y l r ml mr d clear after) =
    told s (bfc_line (bfc (page_of s.page) (record { min_y = y; left = l; right = r; left_margin = ml; right_margin = mr; direction = d; clear = clear; after = after })))
step_of s (Record.Start mode) = on_calculator s (started s.calculator (start_of mode))
step_of s (Record.Add w side clear) = on_calculator s (add_to s.calculator w side clear)
step_of s Record.Result = told s (result_line s.calculator)

-- the lines of the part of a tape that begins at the offset i; each record takes a byte at least, so the fuel lasts: `fuel_lasts` of the records (crate tied, proofs/Records.antt)
unfoldable pub run : ℕ → ℕ → List ℕ → State → List ℕ
run zero i t s = []
run (suc f) i [] s = []
run (suc f) i (k ∷ body) s =
    elim (read_of k body) [
      | Some r ↦ (step_of s r).line ++ run f (suc (i + body_len k)) (drop (body_len k) body) (step_of s r).after
      | None ↦ row 84 (decimal i ∷ [])
    ]

-- a tape starts on a fresh page with no calculator; over 65,536 bytes: the one line L
unfoldable pub lines_of : List ℕ → List ℕ
lines_of t = elim (leb (length t) 65536) [ true ↦ run (length t) 0 t fresh_state | false ↦ row 76 [] ]

-- of such a part the line T of the first record that is broken, or nothing
unfoldable pub broken : ℕ → ℕ → List ℕ → List ℕ
broken zero i t = []
broken (suc f) i [] = []
broken (suc f) i (k ∷ body) = elim (read_of k body) [ Some q ↦ broken f (suc (i + body_len k)) (drop (body_len k) body) | None ↦ row 84 (decimal i ∷ []) ]

abbrev pub broken_line : List ℕ → List ℕ
broken_line t = broken (length t) 0 t

-- what stands after the records of a tape, up to the first that is broken; the fuel lasts as in `run`
unfoldable pub runs : ℕ → List ℕ → State → State
runs zero t s = s
runs (suc f) [] s = s
runs (suc f) (k ∷ body) s = elim (read_of k body) [ Some r ↦ runs f (drop (body_len k) body) (step_of s r).after | None ↦ s ]

-- the page after a tape, as far as it runs; over 65,536 bytes it does not
unfoldable pub page_after : List ℕ → FloatContext
page_after t = elim (leb (length t) 65536) [ true ↦ (runs (length t) t fresh_state).page | false ↦ fresh_context ]

-- what is returned to C for none
abbrev pub none_returned : ℤ
none_returned = neg_ℤ (pos 100)

-- an answer about a box, returned to C (1/14): its number, none, or a refusal's number below zero
abbrev pub returned_box : Result (Option ℕ) Refusal → ℤ
returned_box (Ok (Some k)) = pos k
returned_box (Ok None) = none_returned
returned_box (Err n) = neg_ℤ (pos (number_of n))

-- which box stands innermost in a band on a side of that page
unfoldable pub innermost_after : List ℕ → (band side : ℕ) → ℤ
innermost_after t i s = returned_box (innermost (page_of (page_after t)) (Some i) s)

-- a height that is kept, returned to C (3/14): its 32 bits, or none
abbrev pub returned_height : Option Float → ℤ
returned_height (Some y) = pos (to_bits binary32 y)
returned_height None = none_returned

-- how deep that page is
unfoldable pub depth_after : List ℕ → ℤ
depth_after t = returned_height (depth_of (page_of (page_after t)))

-- the lines ls and the room a: what is returned, and what then stands in the room; 13, and nothing is written, where it is shorter than they are
unfoldable pub returned : List ℕ → List ℕ → ℤ
returned ls a = cond (leb (length ls) (length a)) (pos (length ls)) (neg_ℤ (pos (number_of Refusal.NoRoom)))

unfoldable pub filled : List ℕ → List ℕ → List ℕ
filled ls a = cond (leb (length ls) (length a)) (front ls a) a
