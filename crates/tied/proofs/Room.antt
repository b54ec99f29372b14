-- The lines of a tape are at most eleven bytes for each of its bytes: on every page that a tape reaches, steps and band numbers have few digits.
use Rattle.std.specs.Prelude.{Option, Some, None, Result, Ok, Err}
use Prim.Native.Nat.{ℕ, zero, suc, ◌+◌, ◌*◌, ◌≤◌, ◌<◌}
use native.Mathlib.Omega.{arith}
use borrow.Author.Tests.{le-leb, leb-true, leb-false}
use mathlib.Core.Bool.{Bool, true, false, ◌&&◌, cond}
use mathlib.Core.Logic.{⊎_elim}
use mathlib.Core.Path.{◌≡◌, refl, sym, ap, subst}
use mathlib.Core.List.{List, [], ◌∷◌, ◌++◌, flat_map, foldl-append}
use lib.Dec.{ltb, leb, ltb→lt}
use lib.Ieee.{Float, binary32, to_bits}
use lib.IntN.{pos}
use lib.ListN.{length, drop, length-append, length-drop}
use Rattle.f32_laws.proofs.Tests.{both}
use Rattle.float.specs.declared.BfcSlot.{BfcSlot}
use Rattle.float.specs.declared.Clear.{Clear}
use Rattle.float.specs.declared.ContentSlot.{ContentSlot}
use Rattle.float.specs.declared.Direction.{Direction}
use Rattle.float.specs.declared.FloatContext.{FloatContext}
use Rattle.float.specs.declared.Refusal.{Refusal}
use Rattle.float.specs.declared.slot.Sought.{Sought}
use Rattle.float.specs.Page.{Page, page_of, front}
use Rattle.float.specs.Place.{Call, place_of}
use Rattle.float.specs.Slot.{active, landed, seek, content_slot, ContentCall, content, bfc_slot, BfcCall, bfc}
use Rattle.demands.specs.Runs.{Each, handed, Handed, F32}
use Rattle.demands.proofs.Adding.{check_ways}
use Rattle.demands.proofs.Promises.{bands_lie, steps_at_most}
use Rattle.tape.specs.declared.record.Record.{Record}
use Rattle.tape.specs.declared.step.State.{State}
use Rattle.tape.specs.Bytes.{float, decimal, decimals, fields, row}
use Rattle.tape.specs.Record.{body_lens, body_len, record_of, read_of}
use Rattle.tape.specs.Lines.{place_line, band, content_line, bfc_line}
use Rattle.tape.specs.Tape.{fresh_state, step_of, run as run_tape, lines_of, returned, filled}
use Rattle.tape.proofs.Digits.{length_digits, at_most}
use Rattle.tape.proofs.Lengths.{length_refused, by_kind, length_offset}
use Rattle.tied.specs.Acts.{calls_in, state_after, room_for}
use Rattle.tied.proofs.Handed.{Hands, record_f32, each_append, each_made}
use Rattle.tied.proofs.Calls.{page_after_lem}
use Rattle.float.specs.declared.Position.{Position}

-- ---- a line whose fields have at most eight bytes
fields_short : (fs : List (List ℕ)) → Each (λ f. length f ≤ 8) fs → length (fields fs) ≤ 9 * length fs + 1
unfolding fields
fields_short [] h = omega arith
fields_short (f ∷ fs) h = let e = length-append f (fields fs) in let g = h.0 in let i = fields_short fs h.1 in omega arith

float_short : (x : Float) → length (float x) ≤ 8
unfolding float
float_short x = let d = length_digits 16 8 (to_bits binary32 x) in omega arith

decimal_short : (k : ℕ) → k < 1000 → length (decimal k) ≤ 8
unfolding decimal
decimal_short k h = let d = length_digits 10 (decimals k k) k in let m = at_most 2 k k (omega arith) in omega arith

-- ---- P: a page has at most 96 bands, so it is placed in fewer than 1,000 steps
place_short : (d : Result Position Refusal) → ((s : Position) → d ≡ Ok s → s.steps < 1000) → length (place_line d) ≤ 47
unfolding place_line
place_short (Ok s) h = let e = fields_short (float s.x ∷ float s.y ∷ decimal s.steps ∷ []) (float_short s.x, (float_short s.y, (decimal_short s.steps (h s refl), tt))) in omega arith
place_short (Err n) h = let r = length_refused n in omega arith

-- ---- C and B: the number of a band is below the number of bands
band_short : (i : ℕ) → i < 1000 → length (band (Some i)) ≤ 8
unfolding band
band_short i h = decimal_short i h

none_short : length (band None) ≤ 8
unfolding band
none_short = omega arith

abbrev Lands : Sought → Type 0
Lands (Sought.Quiet y) = Unit {0}
Lands (Sought.Past y) = Unit {0}
Lands (Sought.At i y) = i < 1000

content_fields : (s : ContentSlot) → length (band s.band) ≤ 8 → length (content_line (Ok s)) ≤ 47
unfolding content_line
content_fields s h = let e = fields_short (band s.band ∷ float s.x ∷ float s.y ∷ float s.width ∷ []) (h, (float_short s.x, (float_short s.y, (float_short s.width, tt)))) in omega arith

bfc_fields : (s : BfcSlot) → length (band s.band) ≤ 8 → length (bfc_line (Ok s)) ≤ 47
unfolding bfc_line
bfc_fields s h =
    let e = fields_short (band s.band ∷ float s.x ∷ float s.y ∷ float s.border_width ∷ float s.stretch_width ∷ []) (h, (float_short s.x, (float_short s.y, (float_short s.border_width, (float_short s.stretch_width, tt))))) in
    omega arith

content_slot_lem : (p : Page) (i : _) (s : Sought) → Lands s → length (content_line (Ok (content_slot p i s))) ≤ 47
unfolding content_slot
content_slot_lem p i (Sought.Quiet y) h = content_fields _ none_short
content_slot_lem p i (Sought.Past y) h = content_fields _ none_short
content_slot_lem p i (Sought.At k y) h = content_fields _ (band_short k h)

bfc_slot_lem : (p : Page) (d : Direction) (i : _) (s : Sought) → Lands s → length (bfc_line (Ok (bfc_slot p d i s))) ≤ 47
unfolding bfc_slot
bfc_slot_lem p d i (Sought.Quiet y) h = bfc_fields _ none_short
bfc_slot_lem p d i (Sought.Past y) h = bfc_fields _ none_short
bfc_slot_lem p d i (Sought.At k y) h = bfc_fields _ (band_short k h)

content_refused : (n : Refusal) → length (content_line (Err n)) ≤ 47
unfolding content_line
content_refused n = let r = length_refused n in omega arith

bfc_refused : (n : Refusal) → length (bfc_line (Err n)) ≤ 47
unfolding bfc_line
bfc_refused n = let r = length_refused n in omega arith

module _ (p : Page) (b : length p.bands ≤ 96) where
  landed_on : (i : ℕ) (y : Float) → Lands (landed p.bands i y)
  landed_on i y = both Lands (ltb i (length p.bands)) (λ t. let h = ltb→lt i (length p.bands) t in omega arith) (λ t. tt)

  seek_lands : (c : Clear) (a : Option ℕ) (y : Float) → Lands (seek p c a y)
  unfolding seek
  seek_lands c a y = both Lands (active p.bands y) (λ t. landed_on _ _) (λ t. tt)

  content_short : (c : ContentCall) → length (content_line (content p c)) ≤ 47
  unfolding content
  content_short c = check_ways (λ a. length (content_line a) ≤ 47) _ _ (content_slot_lem p _ _ (seek_lands _ _ _)) content_refused

  bfc_short : (c : BfcCall) → length (bfc_line (bfc p c)) ≤ 47
  unfolding bfc
  bfc_short c = check_ways (λ a. length (bfc_line a) ≤ 47) _ _ (bfc_slot_lem p _ _ _ (seek_lands _ _ _)) bfc_refused

-- ---- the records of a tape

-- after records whose numbers are f32
module _ (qs : List Record) (f : Each Hands qs) where
  calls_f32 : Handed F32 (flat_map calls_in qs)
  calls_f32 = each_made (λ o. Each F32 (handed o)) calls_in qs f

  few_bands : length (page_of (state_after fresh_state qs).page).bands ≤ 96
  few_bands = subst (λ (p : FloatContext). length (page_of p).bands ≤ 96) (sym (page_after_lem qs)) (bands_lie (flat_map calls_in qs) calls_f32).1

  few_steps : (c : Call) → length (place_line (place_of (state_after fresh_state qs).page c).answer) ≤ 47
  few_steps c =
      subst (λ (p : FloatContext). length (place_line (place_of p c).answer) ≤ 47) (sym (page_after_lem qs))
      (place_short _ (λ s e. let n = (bands_lie (flat_map calls_in qs) calls_f32).1 in let m = steps_at_most (flat_map calls_in qs) c s.x s.y s.steps e in omega arith))

  -- a line of numbers
  long_line : (k : ℕ) (b : List ℕ) → 15 ≤ body_len k → length (step_of (state_after fresh_state qs) (record_of k b)).line ≤ 47
  unfolding step_of
  long_line zero b h = absurd (omega arith)
  long_line (suc zero) b h = absurd (omega arith)
  long_line (suc (suc zero)) b h = few_steps _
  long_line (suc (suc (suc zero))) b h = content_short _ few_bands _
  long_line (suc (suc (suc (suc zero)))) b h = bfc_short _ few_bands _
  long_line (suc (suc (suc (suc (suc zero))))) b h = absurd (omega arith)
  long_line (suc (suc (suc (suc (suc (suc zero)))))) b h = absurd (omega arith)
  long_line (suc (suc (suc (suc (suc (suc (suc zero))))))) b h = absurd (omega arith)
  long_line (suc (suc (suc (suc (suc (suc (suc (suc k)))))))) b h = absurd (omega arith)

  line_short : (k : ℕ) (b : List ℕ) → length (step_of (state_after fresh_state qs) (record_of k b)).line ≤ 11 * suc (body_len k)
  line_short k b = ⊎_elim (λ h. let l = long_line k b h in omega arith) (λ l. omega arith) (by_kind (state_after fresh_state qs) k b)

run_short : (f i : ℕ) (t : List ℕ) (qs : List Record) → Each Hands qs → i + length t ≤ 65536 → length (run_tape f i t (state_after fresh_state qs)) ≤ room_for t
unfolding run_tape read_of
run_short zero i t qs h g = omega arith
run_short (suc f) i [] qs h g = omega arith
run_short (suc f) i (k ∷ b) qs h g = go (ltb k (length body_lens)) (leb (body_len k) (length b)) refl (run_short f j c (qs ++ record_of k b ∷ []) (each_append Hands qs (record_of k b ∷ []) h (record_f32 k b, tt)))
  where
    s : State
    s = state_after fresh_state qs

    j : ℕ
    j = suc (i + body_len k)

    c : List ℕ
    c = drop (body_len k) b

    go : (x y : Bool) → leb (body_len k) (length b) ≡ y → (j + length c ≤ 65536 → length (run_tape f j c (state_after fresh_state (qs ++ record_of k b ∷ []))) ≤ room_for c)
        → length {A = ℕ} (elim (cond (x && y) (Some (record_of k b)) None) [ Some q ↦ (step_of s q).line ++ run_tape f j c (step_of s q).after | None ↦ row 84 (decimal i ∷ []) ]) ≤ room_for (k ∷ b)
    go true true e r =
        let n = leb-true (body_len k) (length b) e in
        let d = length-drop (body_len k) b in
        let l = line_short qs h k b in
        let m = length-append (step_of s (record_of k b)).line (run_tape f j c (step_of s (record_of k b)).after) in
        let o = ap (λ (x : State). length (run_tape f j c x)) (foldl-append (λ (x : State) (q : Record). (step_of x q).after) fresh_state qs (record_of k b ∷ [])) in
        let p = r (omega arith) in
        omega arith
    go true false e r = let l = length_offset i (omega arith) in omega arith
    go false y e r = let l = length_offset i (omega arith) in omega arith

-- the lines of a tape are at most eleven bytes for each of its bytes
pub lines_at_most : (t : List ℕ) → length (lines_of t) ≤ room_for t
unfolding lines_of fields
lines_at_most t = go (leb (length t) 65536) refl
  where
    go : (x : Bool) → leb (length t) 65536 ≡ x → length {A = ℕ} (elim x [ true ↦ run_tape (length t) 0 t fresh_state | false ↦ row 76 [] ]) ≤ room_for t
    go true e = let l = leb-true (length t) 65536 e in run_short (length t) 0 t [] tt (omega arith)
    go false e = let l = leb-false (length t) 65536 e in omega arith

-- so with that room -13 never comes, and all are written
pub room_enough : (t a : List ℕ) → room_for t ≤ length a → (returned (lines_of t) a ≡ pos (length (lines_of t))) × (filled (lines_of t) a ≡ front (lines_of t) a)
unfolding returned filled
room_enough t a h = let e = le-leb (length (lines_of t)) (length a) (let l = lines_at_most t in omega arith) in (rw e, rw e)
