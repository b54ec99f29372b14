-- `tape::line::Out::digits` meets its contract: digits that do not fit are skipped. The invariant: the digits from the i-th on stand, and those before it are the digits of m.
use Prim.Native.Nat.{◌+◌, ◌≤◌}
use mathlib.Core.Path.{◌≡◌}
use Rattle.tape.proofs.Digits.{Filling}
use Rattle.tape.proofs.line.Out.digits.Given as goal

abbrev pub invariant-loop-i : goal.invariant-loop-i
invariant-loop-i l = (l.i ≤ l.k) × (l.self.at ≡ l.at + l.k) × (l.self.room.ghost_name ≡ l.fn.self.room.ghost_name) × Filling l.base l.k l.n l.at l.i l.m l.fn.self.room.now l.self.room.now

abbrev pub decreases-loop-i : goal.decreases-loop-i
decreases-loop-i l = l.i
