-- `tape::step::State::run` meets its contract. The invariant: the lines so far were put into the room, and the rest of the tape makes the rest.
use Prim.Native.Nat.{◌-◌}
use lib.ListN.{length}
use Rattle.tape.specs.Put.{Blank}
use Rattle.tape.proofs.Going.{Going}
use Rattle.tape.proofs.step.State.run.Given as goal

abbrev pub invariant-loop-at : goal.invariant-loop-at
invariant-loop-at l = Going l.tape l.initial.self l.initial.out l.out l.self l.at × Blank l.self.page

abbrev pub decreases-loop-at : goal.decreases-loop-at
decreases-loop-at l = length l.tape - l.at
