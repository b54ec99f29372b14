-- `tape::text::stop_of` meets its contract: no record before the offset is broken.
use Prim.Native.Nat.{◌-◌}
use lib.ListN.{length}
use Rattle.tape.proofs.Stopping.{Stopping}
use Rattle.tape.proofs.text.stop_of.Given as goal

abbrev pub invariant-loop-at : goal.invariant-loop-at
invariant-loop-at l = Stopping l.tape l.at

abbrev pub decreases-loop-at : goal.decreases-loop-at
decreases-loop-at l = length l.tape - l.at
