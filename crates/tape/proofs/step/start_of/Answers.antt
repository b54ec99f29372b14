-- `tape::step::start_of` meets its contract: each arm has its mode.
use mathlib.Core.Path.{sym, ap, ◌∙◌}
use Rattle.tape.specs.Tape.{start_of}
use Rattle.tape.proofs.step.start_of.Goals as goal

pub returns-in-Some : goal.returns-in-Some
unfolding start_of
returns-in-Some c = c.new.ensures ∙ sym (ap start_of c.in-Some.is)

pub returns-in-None : goal.returns-in-None
unfolding start_of
returns-in-None c = sym (ap start_of c.in-None.is)
