-- `agrees` meets its contract: lines that fit stand at the front of the room, so the bytes that are compared are the lines, whole.
use Rattle.std.proofs.Common.{◌≡◌, ◌≤◌, length, Bool, true, false, cond, leb, ℕ, List, take, ℤ, pos, neg_ℤ, sym, ◌∙◌, min, w64, arith, length-append, to_z-of_z}
use native.Mathlib.Nat.{min-eq_right}
use lib.IntN.{nat_abs}
use borrow.Author.Rules.{sfits_of}
use lib.Signed.{lt_z}
use Rattle.float.specs.Page.{front}
use Rattle.float.proofs.Front.{take_front}
use Rattle.tape.specs.Tape.{returned, filled}
use Rattle.replay.proofs.agrees.Goals as goal

within : (ls a : List ℕ) → length ls ≤ length (front ls a)
unfolding front
within ls a = simp length-append (omega arith)

-- by whether the lines fit; where they do not, the answer is below 0
by-room : (ls a : List ℕ) (w : ℤ) (b : List ℕ) (fit : Bool) →
    w ≡ cond fit (pos (length ls)) (neg_ℤ (pos 13)) →
    b ≡ cond fit (front ls a) a →
    lt_z w (pos 0) ≡ false →
    take (min (length b) (nat_abs w)) b ≡ ls
by-room ls a w b true e f h = rw (e, f, min-eq_right (within ls a)) (take_front ls a)
by-room ls a w b false e f h = let clash : true ≡ false = rw e at h in cc

-- from what each call answers; z is the answer w as the machine reads it back
read_back : (ls a b ms : List ℕ) (w z : ℤ) (n : ℕ) → z ≡ w → w ≡ returned ls a → b ≡ filled ls a → lt_z z (pos 0) ≡ false → n ≡ min (length b) (nat_abs z) → take n b ≡ ms → ls ≡ ms
unfolding returned filled
read_back ls a b ms w z n p e f h k g = sym (by-room ls a z b (leb (length ls) (length a)) (p ∙ e) f h) ∙ rw (← k) g

pub returns : goal.returns
returns c e = read_back _ _ _ _ _ _ _ (to_z-of_z {w = w64} (sfits_of c.run_tape-written.type_inv)) c.run_tape-written.ensures.0 c.run_tape-written.ensures.1 c.if-written-lt0.false c.min-n.ensures (c.same.ensures.0 e)
