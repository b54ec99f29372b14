-- `tape::step::State::follow` meets its contract: the run leaves the page, and a tape that is too long a fresh one.
use Rattle.tape.proofs.Going.{page_followed, page_left}
use Rattle.tape.proofs.step.State.follow.Goals as goal

pub returns-then-tape-le65536 : goal.returns-then-tape-le65536
returns-then-tape-le65536 c = page_followed _ c.if-tape-le65536.true c.run.ensures

pub returns-else-tape-le65536 : goal.returns-else-tape-le65536
returns-else-tape-le65536 c = page_left _ c.if-tape-le65536.false

pub run-requires : goal.run-requires
run-requires c = (c.if-tape-le65536.true, c.requires)
