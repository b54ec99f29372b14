-- `read_full` ends: what is read lies within the room, whose length stays, and each turn leaves less of it.
use Rattle.std.proofs.Common.{length, ◌-◌, ◌≡◌, ◌≤◌}
use Rattle.replay.proofs.read_full.Given as goal

abbrev pub invariant-loop-n : goal.invariant-loop-n
invariant-loop-n g l = (l.n ≤ length l.room) × (length l.room ≡ length l.initial.room)

abbrev pub decreases-loop-n : goal.decreases-loop-n
decreases-loop-n g l = length l.room - l.n
