-- The tape: a record prints R n exactly where the call that it makes answers refusal n, so where n applies and no lower number does; and a refused room is left as it was.
use Rattle.std.specs.Prelude.{Option, Some, None, Result, Ok, Err, ⊤}
use Prim.Native.Nat.{ℕ}
use native.Mathlib.Omega.{arith}
use mathlib.Core.Path.{◌≡◌, refl, ap}
use mathlib.Core.Logic.{◌⊎◌, inl, inr, ◌↔◌}
use mathlib.Core.Bool.{Bool, true, false, cond}
use mathlib.Core.List.{List}
use lib.Dec.{leb}
use lib.IntN.{pos, neg_ℤ}
use lib.Ieee.{Float}
use lib.ListN.{length}
use Rattle.float.specs.declared.Refusal.{Refusal}
use Rattle.float.specs.Refuse.{number_of}
use Rattle.float.specs.Answers.{Value, Said, refused, values, said_place, said_done, said_content, said_bfc, said_started}
use Rattle.float.specs.Page.{page_of, front}
use Rattle.float.specs.Place.{place_of, width_of}
use Rattle.float.specs.Slot.{content as content_of, bfc as bfc_of}
use Rattle.float.specs.Calculator.{add_of}
use Rattle.demands.specs.Runs.{Any}
use Rattle.tape.specs.declared.record.Record.{Record}
use Rattle.tape.specs.declared.step.State.{State}
use Rattle.tape.specs.Bytes.{row}
use Rattle.tape.specs.Lines.{refused_line, done_line, place_line, content_line, bfc_line}
use Rattle.tape.specs.Tape.{start_of, started, add_to, step_of, lines_of, returned, filled}
use Rattle.refusals.specs.Numbered.{Asked, width, box, content, bfc, start, add_box, result, Applies, Lowest}
use Rattle.refusals.specs.Answered.{said_returned, refusal, Refuses, asked}
use Rattle.refusals.proofs.Decimals.{one_number}
use Rattle.refusals.proofs.Exactly.{refused_exactly_when}
use Rattle.float.specs.declared.Position.{Position}
use Rattle.float.specs.declared.ContentSlot.{ContentSlot}
use Rattle.float.specs.declared.BfcSlot.{BfcSlot}
use Rattle.float.specs.declared.FloatIntrinsicWidthCalculator.{FloatIntrinsicWidthCalculator}

-- the line l is R n exactly where s is refusal n
abbrev Prints : List ℕ → Said → Type 0
Prints l s = (n : ℕ) → (l ≡ refusal n) ↔ (s ≡ refused n)

no_line : (n : Refusal) → Prints (refused_line n) (refused (number_of n))
unfolding refused_line
no_line r n = (λ e. ap refused (one_number (number_of r) n e), λ e. let d : number_of r ≡ n = cc in ap refusal d)

-- another letter
letter : (k : ℕ) (fs : List (List ℕ)) (vs : List Value) → ¬ (k ≡ 82) → Prints (row k fs) (values vs)
letter k fs vs h n = (λ e. absurd (h (cc)), λ e. absurd (let z : ◌≡◌ {A = ℕ} 0 1 = cc in omega arith))

done : (k : ℕ) → ¬ (k ≡ 82) → (d : Result ⊤ Refusal) → Prints (done_line k d) (said_done d)
unfolding done_line
done k h (Ok _) = letter k _ _ h
done k h (Err n) = no_line n

placed : (d : Result Position Refusal) → Prints (place_line d) (said_place d)
unfolding place_line
placed (Ok s) = letter 80 _ _ (λ e. omega arith)
placed (Err n) = no_line n

contents : (d : Result ContentSlot Refusal) → Prints (content_line d) (said_content d)
unfolding content_line
contents (Ok s) = letter 67 _ _ (λ e. omega arith)
contents (Err n) = no_line n

bfcs : (d : Result BfcSlot Refusal) → Prints (bfc_line d) (said_bfc d)
unfolding bfc_line
bfcs (Ok s) = letter 66 _ _ (λ e. omega arith)
bfcs (Err n) = no_line n

starts : (q : Option FloatIntrinsicWidthCalculator) (d : Result FloatIntrinsicWidthCalculator Refusal) → Prints (started q d).line (said_started d)
unfolding started
starts q (Ok c) = letter 83 _ _ (λ e. omega arith)
starts q (Err n) = no_line n

adds : (s : State) (q : Option FloatIntrinsicWidthCalculator) (w : Float) (side clear n : ℕ) → ((add_to q w side clear).line ≡ refusal n) ↔ Refuses s.page q (add_box w side clear) n
unfolding add_to
adds s (Some c) w side clear n = done 65 (λ e. omega arith) (add_of c w side clear).answer n
adds s None w side clear n = (λ e. e, λ e. e)

-- a record that makes the one call a
by_call : (s : State) (a : Asked) {l : List ℕ} (n : ℕ) → (l ≡ refusal n) ↔ Refuses s.page s.calculator a n → (l ≡ refusal n) ↔ (Lowest (Applies (page_of s.page) s.calculator a) n ⊎ ⊥)
by_call s a {l} n h = (λ e. inl ((refused_exactly_when s.page s.calculator a n).0 (h.0 e)), back)
  where
    back : Lowest (Applies (page_of s.page) s.calculator a) n ⊎ ⊥ → l ≡ refusal n
    back (inl x) = h.1 ((refused_exactly_when s.page s.calculator a n).1 x)
    back (inr x) = absurd x

pub line_exactly_when : (s : State) (r : Record) (n : ℕ) → ((step_of s r).line ≡ refusal n) ↔ Any (λ a. Lowest (Applies (page_of s.page) s.calculator a) n) (asked r)
unfolding step_of
line_exactly_when s Record.Fresh n = (λ e. let z : ◌≡◌ {A = ℕ} 78 82 = cc in omega arith, λ x. absurd x)
line_exactly_when s (Record.Width w) n = by_call s (width w) n (done 87 (λ e. omega arith) (width_of s.page w).answer n)
line_exactly_when s (Record.Place side clear w h y l r) n = by_call s (box _) n (placed (place_of s.page _).answer n)
line_exactly_when s (Record.Content y l r clear after) n = by_call s (content _) n (contents (content_of (page_of s.page) _) n)
line_exactly_when s (Record.Bfc y l r ml mr d clear after) n = by_call s (bfc _) n (bfcs (bfc_of (page_of s.page) _) n)
line_exactly_when s (Record.Start mode) n = by_call s (start mode) n (starts s.calculator (start_of mode) n)
line_exactly_when s (Record.Add w side clear) n = by_call s (add_box w side clear) n (adds s s.calculator w side clear n)
line_exactly_when s Record.Result n = by_call s result n (λ e. e, λ e. e)

-- where the room is refused, nothing is written
pub nothing_written : (t a : List ℕ) (n : ℕ) → said_returned (returned (lines_of t) a) ≡ refused n → filled (lines_of t) a ≡ a
unfolding returned filled
nothing_written t a n = go (leb (length (lines_of t)) (length a))
  where
    go : (b : Bool) → said_returned (cond b (pos (length (lines_of t))) (neg_ℤ (pos 13))) ≡ refused n → cond b (front (lines_of t) a) a ≡ a
    go true e = absurd (let z : ◌≡◌ {A = ℕ} 0 1 = cc in omega arith)
    go false e = refl
