-- Tape and promises are one: record by record the page is that of the promises' run, and the lines are those of its answers.
use Rattle.std.specs.Prelude.{Option, Some, None, Result, Ok, Err, ⊤}
use Prim.Native.Nat.{ℕ, zero, suc, ◌+◌, ◌≤◌}
use native.Mathlib.Omega.{arith}
use borrow.Author.Tests.{le-leb}
use mathlib.Core.Logic.{◌↔◌}
use mathlib.Core.Path.{◌≡◌, refl, sym, ap, ◌∙◌}
use mathlib.Core.Option.{some}
use mathlib.Core.List.{List, [], ◌∷◌, ◌++◌, append_assoc, append-nil, append_cancel_left, head-eq_of_cons-eq, flat_map, flatten}
use lib.Ieee.{Float}
use lib.IntN.{ℤ, pos, negsuc, neg_ℤ}
use lib.ListN.{length, take, drop, get_or, get_elem?, length-append}
use lib.Seq.{take-add, take_all}
use Rattle.float.specs.declared.FloatContext.{FloatContext}
use Rattle.float.specs.declared.Refusal.{Refusal}
use Rattle.float.specs.Refuse.{number_of}
use Rattle.float.specs.Page.{Page, page_of}
use Rattle.float.specs.Place.{Call, cleaned, place_of, width_of}
use Rattle.float.specs.Calculator.{add_of}
use Rattle.demands.specs.Runs.{Act, Accepted, Run, noted, started, next, run, after}
use Rattle.demands.proofs.Promises.{refused_box, refused_width, refused_add}
use Rattle.tape.specs.declared.record.Record.{Record}
use Rattle.tape.specs.declared.step.State.{State}
use Rattle.tape.specs.Bytes.{float, decimal, row}
use Rattle.tape.specs.Record.{body_len, place_record, read_of}
use Rattle.tape.specs.Lines.{done_line, place_line, refused_line}
use Rattle.tape.specs.Tape.{fresh_state, started as started_by, add_to, step_of, run as run_tape, lines_of, broken, broken_line, runs, page_after, returned_box}
use Rattle.tied.specs.Acts.{calls_in, records, records_of, state_after, lines_from, RecordAt, line_at, PLine, RLine, state_at, run_at, calls_next, whole_run}
use Rattle.float.specs.declared.Position.{Position}
use Rattle.float.specs.declared.FloatIntrinsicWidthCalculator.{FloatIntrinsicWidthCalculator}

-- ---- the page

-- one record does to the page what its calls do
step_page : (s : State) (r : Run) (q : Record) → s.page ≡ r.struct → (step_of s q).after.page ≡ (run r (calls_in q)).struct
unfolding step_of run fresh_state
step_page s r Record.Fresh e = refl
step_page s r (Record.Width w) e = ap (λ (p : FloatContext). (width_of p w).page) e
step_page s r (Record.Place side clear w h y l x) e = ap (λ (p : FloatContext). (place_of p (record { side = side; clear = clear; width = w; height = h; min_y = y; left = l; right = x })).page) e
step_page s r (Record.Content y l x clear a) e = e
step_page s r (Record.Bfc y l x ml mr d clear a) e = e
step_page s r (Record.Start mode) e = e
step_page s r (Record.Add w side clear) e = e
step_page s r Record.Result e = e

-- calls after calls
run_append : (r : Run) (os ps : List Act) → run r (os ++ ps) ≡ run (run r os) ps
unfolding run
run_append r [] ps = refl
run_append r (o ∷ os) ps = run_append (next r o) os ps

state_page : (s : State) (r : Run) (qs : List Record) → s.page ≡ r.struct → (state_after s qs).page ≡ (run r (flat_map calls_in qs)).struct
unfolding flat_map run
state_page s r [] e = e
state_page s r (q ∷ qs) e =
    state_page (step_of s q).after (run r (calls_in q)) qs (step_page s r q e)
    ∙ sym (ap (λ (x : Run). x.struct) (run_append r (calls_in q) (flat_map calls_in qs)))

pub page_after_lem : (qs : List Record) → (state_after fresh_state qs).page ≡ (after (flat_map calls_in qs)).struct
unfolding fresh_state
page_after_lem qs = state_page fresh_state started qs refl

-- after the first n records of a tape the page is that of the promises after their calls
pub tape_page : (t : List ℕ) (n : ℕ) → (state_at t n).page ≡ (run_at t n).struct
tape_page t n = page_after_lem (take n (records_of t))

-- what the run leaves is what its records leave
runs_state : (f : ℕ) (t : List ℕ) (s : State) → runs f t s ≡ state_after s (records f t)
unfolding runs records
runs_state zero t s = refl
runs_state (suc f) [] s = refl
runs_state (suc f) (k ∷ b) s = go (read_of k b) (λ q. runs_state f (drop (body_len k) b) (step_of s q).after)
  where
    go : (x : Option Record) → ((q : Record) → runs f (drop (body_len k) b) (step_of s q).after ≡ state_after (step_of s q).after (records f (drop (body_len k) b)))
        → elim x [ Some q ↦ runs f (drop (body_len k) b) (step_of s q).after | None ↦ s ] ≡ state_after s (elim x [ Some q ↦ q ∷ records f (drop (body_len k) b) | None ↦ [] ])
    go (Some q) h = h q
    go None h = refl

-- the page after a tape, of which C asks, is that of the promises after all its calls
pub page_after_tape : (t : List ℕ) → length t ≤ 65536 → page_after t ≡ (whole_run t).struct
unfolding page_after
page_after_tape t h = rw (le-leb (length t) 65536 h, page_after) (ap (λ (s : State). s.page) (runs_state (length t) t fresh_state) ∙ page_after_lem (records_of t) ∙ ap (λ (qs : List Record). (after (flat_map calls_in qs)).struct) (sym (take_all (length (records_of t)) (records_of t) (omega arith))))

-- ---- the lines
run_lines : (f i : ℕ) (t : List ℕ) (s : State) → run_tape f i t s ≡ flatten (lines_from s (records f t)) ++ broken f i t
unfolding run_tape flatten lines_from records broken
run_lines zero i t s = refl
run_lines (suc f) i [] s = refl
run_lines (suc f) i (k ∷ b) s = go (read_of k b) (λ q. run_lines f j c (step_of s q).after)
  where
    j : ℕ
    j = suc (i + body_len k)

    c : List ℕ
    c = drop (body_len k) b

    go : (x : Option Record) → ((q : Record) → run_tape f j c (step_of s q).after ≡ flatten (lines_from (step_of s q).after (records f c)) ++ broken f j c)
        → elim x [ Some q ↦ (step_of s q).line ++ run_tape f j c (step_of s q).after | None ↦ row 84 (decimal i ∷ []) ]
        ≡ flatten (lines_from s (elim x [ Some q ↦ q ∷ records f c | None ↦ [] ])) ++ elim x [ Some q ↦ broken f j c | None ↦ row 84 (decimal i ∷ []) ]
    go (Some q) h = ap (λ (x : List ℕ). (step_of s q).line ++ x) (h q) ∙ sym (append_assoc (step_of s q).line _ _)
    go None h = refl

-- the lines of a tape are those of its records, in order; then T where it breaks off
pub tape_lines : (t : List ℕ) → length t ≤ 65536 → lines_of t ≡ flatten (lines_from fresh_state (records_of t)) ++ broken_line t
unfolding lines_of
tape_lines t h = rw (le-leb (length t) 65536 h, lines_of) (run_lines (length t) 0 t fresh_state)

-- the record q at n of a list
line_at_lem : (s : State) (qs : List Record) (n : ℕ) (q : Record) → get_elem? qs n ≡ some q → get_or (lines_from s qs) n [] ≡ (step_of (state_after s (take n qs)) q).line
unfolding lines_from
line_at_lem s [] n q e = absurd (let z : ◌≡◌ {A = ℕ} 0 1 = cc in omega arith)
line_at_lem s (p ∷ qs) zero q e = ap (λ (x : Record). (step_of s x).line) (let z : p ≡ q = cc in z)
line_at_lem s (p ∷ qs) (suc n) q e = line_at_lem (step_of s p).after qs n q e

take_one : (qs : List Record) (n : ℕ) (q : Record) → get_elem? qs n ≡ some q → take (suc n) qs ≡ take n qs ++ q ∷ []
take_one [] n q e = absurd (let z : ◌≡◌ {A = ℕ} 0 1 = cc in omega arith)
take_one (p ∷ qs) zero q e = ap (λ (x : Record). x ∷ []) (let z : p ≡ q = cc in z)
take_one (p ∷ qs) (suc n) q e = ap (λ (x : List Record). p ∷ x) (take_one qs n q e)

-- the line of a record is what it prints on the page of the promises
pub tape_line : (t : List ℕ) (n : ℕ) (q : Record) → RecordAt t n q → line_at t n ≡ (step_of (record { page = (run_at t n).struct; calculator = (state_at t n).calculator }) q).line
tape_line t n q e = line_at_lem fresh_state (records_of t) n q e ∙ ap (λ (p : FloatContext). (step_of (record { page = p; calculator = (state_at t n).calculator }) q).line) (tape_page t n)

-- ---- calls after calls, of a tape
made_append : (qs ps : List Record) → flat_map calls_in (qs ++ ps) ≡ flat_map calls_in qs ++ flat_map calls_in ps
unfolding flat_map
made_append [] ps = refl
made_append (q ∷ qs) ps = ap (λ (x : List Act). calls_in q ++ x) (made_append qs ps) ∙ sym (append_assoc (calls_in q) _ _)

after_append : (qs ps : List Record) → after (flat_map calls_in (qs ++ ps)) ≡ run (after (flat_map calls_in qs)) (flat_map calls_in ps)
after_append qs ps = ap after (made_append qs ps) ∙ run_append started (flat_map calls_in qs) (flat_map calls_in ps)

-- the run goes on with the next k records
pub run_next : (t : List ℕ) (n k : ℕ) → run_at t (n + k) ≡ run (run_at t n) (calls_next t n k)
run_next t n k = ap (λ (qs : List Record). after (flat_map calls_in qs)) (take-add n k (records_of t)) ∙ after_append (take n (records_of t)) (take k (drop n (records_of t)))

-- and with one
pub run_one : (t : List ℕ) (n : ℕ) (q : Record) → RecordAt t n q → run_at t (suc n) ≡ run (run_at t n) (calls_in q)
unfolding flat_map
run_one t n q e =
    ap (λ (qs : List Record). after (flat_map calls_in qs)) (take_one (records_of t) n q e)
    ∙ after_append (take n (records_of t)) (q ∷ [])
    ∙ ap (run (run_at t n)) (append-nil (calls_in q))

-- ---- placements
longer : (g : List Accepted) (a : Accepted) → g ≡ g ++ a ∷ [] → ⊥
longer g a e = let l = ap length e in let m = length-append g (a ∷ []) in omega arith

module _ (g : List Accepted) (c : Call) (p : Page) where
  noted_exactly : (d : Result Position Refusal) → (PLine (place_line d)) ↔ ((a : Accepted) × (noted d c p g ≡ g ++ a ∷ []))
  unfolding place_line refused_line
  noted_exactly (Ok s) = (λ l. (_, refl), λ a. omega arith)
  noted_exactly (Err n) = (λ l. absurd (omega arith), λ a. absurd (longer g a.0 a.1))

  noted_as : (d : Result Position Refusal) (a : Accepted) → noted d c p g ≡ g ++ a ∷ [] → (k : ℕ) × (place_line d ≡ row 80 (float a.x ∷ float a.y ∷ decimal k ∷ [])) × (a.call ≡ c)
  unfolding place_line
  noted_as (Ok s) a e =
      let z = head-eq_of_cons-eq (append_cancel_left g _ _ e) in
      (s.steps, ap (λ (b : Accepted). row 80 (float b.x ∷ float b.y ∷ decimal s.steps ∷ [])) z, sym (ap (λ (b : Accepted). b.call) z))
  noted_as (Err n) a e = absurd (longer g a e)

module _ (t : List ℕ) (n : ℕ) (c : Call) (e : RecordAt t n (place_record c)) where
  -- the line of a placement is the answer of the one that the promises speak of
  pub place_line_lem : line_at t n ≡ place_line (place_of (run_at t n).struct c).answer
  unfolding step_of
  place_line_lem = tape_line t n (place_record c) e

  accepted_next : (run_at t (suc n)).accepted ≡ noted (place_of (run_at t n).struct c).answer (cleaned c) (page_of (place_of (run_at t n).struct c).page) (run_at t n).accepted
  unfolding run
  accepted_next = ap (λ (r : Run). r.accepted) (run_one t n (place_record c) e)

  -- it is accepted, one more than were before, exactly when its line is a P line
  pub accepted_exactly : (PLine (line_at t n)) ↔ ((a : Accepted) × ((run_at t (suc n)).accepted ≡ (run_at t n).accepted ++ a ∷ []))
  accepted_exactly = rw (place_line_lem, accepted_next) (noted_exactly (run_at t n).accepted (cleaned c) _ _)

  -- the P line prints where it then stands
  pub accepted_as : (a : Accepted) → (run_at t (suc n)).accepted ≡ (run_at t n).accepted ++ a ∷ [] → (k : ℕ) × (line_at t n ≡ row 80 (float a.x ∷ float a.y ∷ decimal k ∷ [])) × (a.call ≡ cleaned c)
  accepted_as a h = rw place_line_lem (noted_as (run_at t n).accepted (cleaned c) _ _ a (sym accepted_next ∙ h))

-- ---- refusals

-- a line R comes of a refusal
done_refused : (l : ℕ) (d : Result ⊤ Refusal) → (RLine (l ∷ []) → ⊥) → RLine (done_line l d) → (n : Refusal) × (d ≡ Err n)
unfolding done_line
done_refused l (Ok _) h e = absurd (h e)
done_refused l (Err n) h e = (n, refl)

place_refused : (d : Result Position Refusal) → RLine (place_line d) → (n : Refusal) × (d ≡ Err n)
unfolding place_line
place_refused (Ok s) e = absurd (omega arith)
place_refused (Err n) e = (n, refl)

start_left : (c : Option FloatIntrinsicWidthCalculator) (a : Result FloatIntrinsicWidthCalculator Refusal) → RLine (started_by c a).line → (started_by c a).after ≡ c
unfolding started_by
start_left c (Ok new) e = absurd (omega arith)
start_left c (Err n) e = refl

add_left : (c : Option FloatIntrinsicWidthCalculator) (w : Float) (side clear : ℕ) → RLine (add_to c w side clear).line → (add_to c w side clear).after ≡ c
unfolding add_to
add_left None w side clear e = refl
add_left (Some c) w side clear e = let r = done_refused 65 (add_of c w side clear).answer (λ h. omega arith) e in ap Some (refused_add c w side clear r.0 r.1)

-- a record whose line is R leaves page and calculator, whatever they are
pub refused_record : (s : State) (q : Record) → RLine (step_of s q).line → (step_of s q).after ≡ s
unfolding step_of
refused_record s Record.Fresh e = absurd (omega arith)
refused_record s (Record.Width w) e =
    let r = done_refused 87 (width_of s.page w).answer (λ h. omega arith) e in
    ap (λ (p : FloatContext). record { page = p; calculator = s.calculator }) (refused_width s.page w r.0 r.1)
refused_record s (Record.Place side clear w h y l x) e =
    let c : Call = record { side = side; clear = clear; width = w; height = h; min_y = y; left = l; right = x } in
    let r = place_refused (place_of s.page c).answer e in
    ap (λ (p : FloatContext). record { page = p; calculator = s.calculator }) (refused_box s.page c r.0 r.1)
refused_record s (Record.Content y l r clear a) e = refl
refused_record s (Record.Bfc y l r ml mr d clear a) e = refl
refused_record s (Record.Start mode) e = ap (λ (c : Option FloatIntrinsicWidthCalculator). record { page = s.page; calculator = c }) (start_left s.calculator _ e)
refused_record s (Record.Add w side clear) e = ap (λ (c : Option FloatIntrinsicWidthCalculator). record { page = s.page; calculator = c }) (add_left s.calculator w side clear e)
refused_record s Record.Result e = refl

refused_at : (s : State) (qs : List Record) (n : ℕ) → RLine (get_or (lines_from s qs) n []) → state_after s (take (suc n) qs) ≡ state_after s (take n qs)
unfolding lines_from
refused_at s [] n h = absurd (omega arith)
refused_at s (q ∷ qs) zero h = refused_record s q h
refused_at s (q ∷ qs) (suc n) h = refused_at (step_of s q).after qs n h

-- so it is with every R of a tape
pub tape_refused : (t : List ℕ) (n : ℕ) → RLine (line_at t n) → state_at t (suc n) ≡ state_at t n
tape_refused t n = refused_at fresh_state (records_of t) n

-- ---- numbers returned to C

-- one more than a number from zero up, and 0 below it
abbrev above : ℤ → ℕ
above (pos n) = suc n
above (negsuc n) = 0

refusal_below : (n : Refusal) → above (neg_ℤ (pos (number_of n))) ≡ 0
refusal_below Refusal.UnknownCode = refl
refusal_below Refusal.NotFinite = refl
refusal_below Refusal.OutOfLimits = refl
refusal_below Refusal.WidthFixed = refl
refusal_below Refusal.BoxesFull = refl
refusal_below Refusal.TooFar = refl
refusal_below Refusal.BandsFull = refl
refusal_below Refusal.NoCalculator = refl
refusal_below Refusal.NoRoom = refl

pub returned_number : (a : Result (Option ℕ) Refusal) (k : ℕ) → returned_box a ≡ pos k → a ≡ Ok (Some k)
returned_number (Ok (Some j)) k e = ap (λ (n : ℕ). Ok (Some n)) (let z = ap above e in omega arith)
returned_number (Ok None) k e = let z = ap above e in absurd (omega arith)
returned_number (Err n) k e = let z = ap above e in absurd (omega (arith, refusal_below n))
