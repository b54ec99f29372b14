-- `read_whole` ends: what is read lies within the room, whose length stays, and each turn leaves less of it.
use Rattle.std.proofs.Common.{length, ◌-◌, ◌≡◌, ◌≤◌}
use Rattle.bulameki.proofs.read_whole.Given as goal

abbrev pub invariant-loop-n : goal.invariant-loop-n
invariant-loop-n g l = (l.n ≤ length l.room) × (length l.room ≡ length l.initial.room)

abbrev pub decreases-loop-n : goal.decreases-loop-n
decreases-loop-n g l = length l.room - l.n
