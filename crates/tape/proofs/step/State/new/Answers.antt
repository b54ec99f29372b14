-- `tape::step::State::new` meets its contract: a fresh page.
use Rattle.tape.specs.Tape.{fresh_state}
use Rattle.tape.proofs.step.State.new.Goals as goal

pub returns : goal.returns
unfolding fresh_state
returns c = cc
