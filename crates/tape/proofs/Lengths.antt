-- How long a line is: at most eleven bytes for each byte of its record; and the lines that are counted before they are put.
use Rattle.std.specs.Prelude.{Option, Some, None, Result, Ok, Err, ⊤}
use Prim.Native.Nat.{ℕ, zero, suc, ◌+◌, ◌≤◌, ◌<◌}
use mathlib.Core.Logic.{◌⊎◌, inl, inr}
use mathlib.Core.Path.{◌≡◌, refl, ap}
use mathlib.Core.List.{List, [], ◌∷◌}
use native.Mathlib.Omega.{arith}
use lib.Ieee.{Float, binary32, to_bits}
use lib.ListN.{length, length-append}
use Rattle.float.specs.declared.Refusal.{Refusal}
use Rattle.float.specs.Calculator.{result_of}
use Rattle.tape.specs.declared.step.State.{State}
use Rattle.tape.specs.Bytes.{float, decimal, digits, decimals, fields, row}
use Rattle.tape.specs.Lines.{refused_line, done_line}
use Rattle.tape.specs.Record.{body_len, record_of}
use Rattle.words.specs.declared.Line.{Line}
use Rattle.tape.specs.Tape.{started, add_to, result_line, step_of}
use Rattle.tape.specs.Text.{set_line}
use Rattle.tape.proofs.Digits.{length_digits, at_most}
use Rattle.float.specs.declared.FloatIntrinsicWidthCalculator.{FloatIntrinsicWidthCalculator}

-- a letter and one field
one_field : (c : ℕ) (f : List ℕ) → length (row c (f ∷ [])) ≡ 3 + length f
unfolding fields
one_field c f = let e = length-append f (10 ∷ []) in omega arith

pub length_refused : (n : Refusal) → length (refused_line n) ≤ 11
unfolding refused_line decimal decimals digits fields
length_refused Refusal.UnknownCode = omega arith
length_refused Refusal.NotFinite = omega arith
length_refused Refusal.OutOfLimits = omega arith
length_refused Refusal.WidthFixed = omega arith
length_refused Refusal.BoxesFull = omega arith
length_refused Refusal.TooFar = omega arith
length_refused Refusal.BandsFull = omega arith
length_refused Refusal.NoCalculator = omega arith
length_refused Refusal.NoRoom = omega arith

length_done : (c : ℕ) (d : Result ⊤ Refusal) → length (done_line c d) ≤ 11
unfolding done_line fields
length_done c (Ok _) = omega arith
length_done c (Err n) = length_refused n

length_started : (c : Option FloatIntrinsicWidthCalculator) (a : Result FloatIntrinsicWidthCalculator Refusal) → length (started c a).line ≤ 11
unfolding started fields
length_started c (Ok new) = omega arith
length_started c (Err n) = length_refused n

length_added : (c : Option FloatIntrinsicWidthCalculator) (w : Float) (side clear : ℕ) → length (add_to c w side clear).line ≤ 11
unfolding add_to
length_added (Some c) w side clear = length_done 65 _
length_added None w side clear = length_refused _

length_result : (c : Option FloatIntrinsicWidthCalculator) → length (result_line c) ≤ 11
unfolding result_line float
length_result (Some c) = let e = one_field 73 (float (result_of c)) in let d = length_digits 16 8 (to_bits binary32 (result_of c)) in omega arith
length_result None = length_refused Refusal.NoCalculator

-- only a line of numbers is longer, and its body is long
pub by_kind : (s : State) (k : ℕ) (b : List ℕ) → (15 ≤ body_len k) ⊎ (length (step_of s (record_of k b)).line ≤ 11)
unfolding step_of fields
by_kind s zero b = inr (omega arith)
by_kind s (suc zero) b = inr (length_done 87 _)
by_kind s (suc (suc zero)) b = inl (omega arith)
by_kind s (suc (suc (suc zero))) b = inl (omega arith)
by_kind s (suc (suc (suc (suc zero)))) b = inl (omega arith)
by_kind s (suc (suc (suc (suc (suc zero))))) b = inr (length_started s.calculator _)
by_kind s (suc (suc (suc (suc (suc (suc zero)))))) b = inr (length_added s.calculator _ _ _)
by_kind s (suc (suc (suc (suc (suc (suc (suc zero))))))) b = inr (length_result s.calculator)
by_kind s (suc (suc (suc (suc (suc (suc (suc (suc k)))))))) b = inr (omega arith)

-- the line T of an offset in a tape
pub length_offset : (i : ℕ) → i < 65536 → length (row 84 (decimal i ∷ [])) ≤ 11
unfolding decimal
length_offset i h = let e = one_field 84 (decimal i) in let d = length_digits 10 (decimals i i) i in let m = at_most 4 i i (omega arith) in omega arith

-- ---- lines that are counted first

more_fields : (f : List ℕ) (fs : List (List ℕ)) → length (fields (f ∷ fs)) ≡ suc (length f + length (fields fs))
unfolding fields
more_fields f fs = ap suc (length-append f (fields fs))

no_field : length (fields []) ≡ 1
unfolding fields
no_field = refl

length_float : (x : Float) → length (float x) ≡ 8
unfolding float
length_float x = length_digits 16 8 (to_bits binary32 x)

length_decimal : (n : ℕ) → length (decimal n) ≡ decimals n n
unfolding decimal
length_decimal n = length_digits 10 (decimals n n) n

pub length_letter : (c : ℕ) → length (row c []) ≡ 2
length_letter c = ap suc no_field

pub length_number : (c n : ℕ) → length (row c (decimal n ∷ [])) ≡ 3 + decimals n n
length_number c n = let e = one_field c (decimal n) in let d = length_decimal n in omega arith

pub length-set : (x : Line) → length (set_line x) ≡ 22 + decimals x.first x.first + decimals x.count x.count
unfolding set_line
length-set x =
    let a = more_fields (float x.x) (float x.y ∷ decimal x.first ∷ decimal x.count ∷ []) in
    let b = more_fields (float x.y) (decimal x.first ∷ decimal x.count ∷ []) in
    let c = more_fields (decimal x.first) (decimal x.count ∷ []) in
    let d = more_fields (decimal x.count) [] in
    omega (arith, no_field, length_float x.x, length_float x.y, length_decimal x.first, length_decimal x.count)
