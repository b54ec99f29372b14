-- A record by its kind: what holds of the kind's number holds of the kind, and which tests make a record whole.
use Rattle.std.specs.Prelude.{Option, Some, None}
use Prim.Native.Nat.{ℕ, zero, suc, ◌≤◌, ◌<◌}
use mathlib.Core.Path.{◌≡◌, refl, sym, ap, ◌∙◌}
use mathlib.Core.List.{List}
use native.Mathlib.Omega.{arith}
use borrow.Author.Tests.{lt-ltb, le-ltb, le-leb, lt-leb}
use lib.ListN.{length}
use Rattle.tape.specs.declared.record.Record.{Record}
use Rattle.tape.specs.Record.{body_len, mode_of, record_of, read_of}
use Rattle.float.specs.declared.AvailableSpace.{AvailableSpace}

pub whole : (k : ℕ) (b : List ℕ) {r : Record} → k < 8 → body_len k ≤ length b → r ≡ record_of k b → Some r ≡ read_of k b
unfolding read_of
whole k b h l e = simp (lt-ltb k 8 h, le-leb (body_len k) (length b) l) (ap Some e)

pub cut : (k : ℕ) (b : List ℕ) → k < 8 → length b < body_len k → None ≡ read_of k b
unfolding read_of
cut k b h l = simp (lt-ltb k 8 h, lt-leb (body_len k) (length b) l)

pub unknown : (k : ℕ) (b : List ℕ) → 8 ≤ k → None ≡ read_of k b
unfolding read_of
unknown k b h = simp (le-ltb k 8 h)

-- the mode that an arm reads
pub as_mode : (m : ℕ) (b : List ℕ) {k : ℕ} {x : Option AvailableSpace} → k ≡ m → x ≡ mode_of m b → Record.Start x ≡ Record.Start (mode_of k b)
as_mode m b e h = ap Record.Start (h ∙ ap (λ (j : ℕ). mode_of j b) (sym e))

pub unknown_mode : (k : ℕ) (b : List ℕ) → (k ≡ 0 → ⊥) → (k ≡ 1 → ⊥) → (k ≡ 2 → ⊥) → Record.Start None ≡ Record.Start (mode_of k b)
unfolding mode_of
unknown_mode zero b x y z = absurd (x refl)
unknown_mode (suc zero) b x y z = absurd (y refl)
unknown_mode (suc (suc zero)) b x y z = absurd (z refl)
unknown_mode (suc (suc (suc k))) b x y z = refl
