-- `tape::line::Out::done_line` meets its contract: the answer decides which of the two lines.
use Rattle.tape.proofs.Putting.{of_answer}
use Rattle.tape.specs.Lines.{done_line}
use Rattle.tape.proofs.line.Out.done_line.Goals as goal

pub returns-in-Ok : goal.returns-in-Ok
unfolding done_line
returns-in-Ok c = of_answer (done_line _) c.in-Ok.is c.letter_line.ensures

pub returns-in-Err : goal.returns-in-Err
unfolding done_line
returns-in-Err c = of_answer (done_line _) c.in-Err.is c.refused_line.ensures
