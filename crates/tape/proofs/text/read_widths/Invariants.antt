-- `tape::text::read_widths` meets its contract: the widths so far stand.
use Prim.Native.Nat.{◌-◌}
use Rattle.tape.specs.Text.{floats_at}
use Rattle.tape.proofs.Texts.{Writing}
use Rattle.tape.proofs.text.read_widths.Given as goal

abbrev pub invariant-loop-i : goal.invariant-loop-i
invariant-loop-i l = Writing (floats_at l.n l.text 2) l.initial.widths l.widths l.i

abbrev pub decreases-loop-i : goal.decreases-loop-i
decreases-loop-i l = l.n - l.i
