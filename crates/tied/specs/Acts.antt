-- A tape as a sequence of calls: its records, the calls that they make, the line of each, and what stands after the first n. Definitions only.
use Rattle.std.specs.Prelude.{ℕ, zero, suc, ◌*◌, ◌≡◌, length, take, drop, get_or, Some, None}
use Rattle.std.proofs.Math.Option.{some}
use mathlib.Core.List.{List, [], ◌∷◌, foldl, flat_map}
use Rattle.std.proofs.Math.ListN.{get_elem?}
use Rattle.demands.specs.Runs.{Act, new_page, width, box, Run, after}
use Rattle.tape.specs.declared.record.Record.{Record}
use Rattle.tape.specs.declared.step.State.{State}
use Rattle.tape.specs.Record.{body_len, read_of}
use Rattle.tape.specs.Tape.{fresh_state, step_of}

-- ---- records

-- the calls of a record that change a page: one, or none
abbrev pub calls_in : Record → List Act
calls_in Record.Fresh = new_page ∷ []
calls_in (Record.Width w) = width w ∷ []
calls_in (Record.Place side clear w h y l r) = box (record { side = side; clear = clear; width = w; height = h; min_y = y; left = l; right = r }) ∷ []
calls_in (Record.Content y l r clear a) = []
calls_in (Record.Bfc y l r ml mr d clear a) = []
calls_in (Record.Start mode) = []
calls_in (Record.Add w side clear) = []
calls_in Record.Result = []

-- the records of a tape, up to the first that is broken; each takes a byte at least, so the fuel lasts (`fuel_lasts`)
unfoldable pub records : ℕ → List ℕ → List Record
records zero t = []
records (suc f) [] = []
records (suc f) (k ∷ body) = elim (read_of k body) [ Some q ↦ q ∷ records f (drop (body_len k) body) | None ↦ [] ]

abbrev pub records_of : List ℕ → List Record
records_of t = records (length t) t

-- the state after records, one after the other, and the line of each
abbrev pub state_after : State → List Record → State
state_after s qs = foldl (λ x q. (step_of x q).after) s qs

unfoldable pub lines_from : State → List Record → List (List ℕ)
lines_from s [] = []
lines_from s (q ∷ qs) = (step_of s q).line ∷ lines_from (step_of s q).after qs

-- a line by its letter: P, a position; R, a refusal
abbrev pub PLine : List ℕ → Type 0
PLine l = get_or l 0 0 ≡ 80

abbrev pub RLine : List ℕ → Type 0
RLine l = get_or l 0 0 ≡ 82

-- ---- of the tape t; its records are counted from 0

-- the record n is q
abbrev pub RecordAt : List ℕ → ℕ → Record → Type 0
RecordAt t n q = get_elem? (records_of t) n ≡ some q

-- its line
abbrev pub line_at : List ℕ → ℕ → List ℕ
line_at t n = get_or (lines_from fresh_state (records_of t)) n []

-- after the first n records: page and calculator; the calls that they made; the page that the promises speak of, with what was accepted since it was fresh
abbrev pub state_at : List ℕ → ℕ → State
state_at t n = state_after fresh_state (take n (records_of t))

abbrev pub calls_at : List ℕ → ℕ → List Act
calls_at t n = flat_map calls_in (take n (records_of t))

abbrev pub run_at : List ℕ → ℕ → Run
run_at t n = after (calls_at t n)

-- after all of them
abbrev pub whole_run : List ℕ → Run
whole_run t = run_at t (length (records_of t))

-- the calls of the k records after the first n
abbrev pub calls_next : List ℕ → ℕ → ℕ → List Act
calls_next t n k = flat_map calls_in (take k (drop n (records_of t)))

-- room that is surely enough for its lines
abbrev pub room_for : List ℕ → ℕ
room_for t = 11 * length t
