-- `tape::run_tape` meets its contract: with eleven bytes for each byte of the tape the lines are written at once; else they are counted first, in no room.
use Rattle.tape.proofs.Room.{short}
use Rattle.tape.proofs.run_tape.Goals as goal

pub returns-then-answers-need : goal.returns-then-answers-need
returns-then-answers-need c = short _ _ c.lines-need.ensures c.if-answers-need.true
