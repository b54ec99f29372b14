-- `tape::written` meets its contract: the lines fit, so the test of the room passes.
use Rattle.tape.proofs.Room.{told}
use Rattle.tape.proofs.written.Goals as goal

pub returns : goal.returns
returns c = told _ _ c.requires c.lines-count.ensures
