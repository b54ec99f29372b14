-- `tape::line::Out::bfc_line` meets its contract: the fields in their order.
use Rattle.tape.specs.Bytes.{fields}
use Rattle.tape.specs.Lines.{bfc_line}
use Rattle.tape.proofs.Putting.{and_then, of_answer}
use borrow.Author.Rules.{rules}
use Rattle.tape.proofs.line.Out.bfc_line.Goals as goal

pub returns-in-Ok : goal.returns-in-Ok
unfolding bfc_line fields
returns-in-Ok c =
    of_answer bfc_line c.in-Ok.is (record { short = search rules; puts = and_then c.put.ensures (and_then c.band.ensures.1 (and_then c.float.ensures.1 (and_then c.float-in-Ok.ensures.1 (and_then c.float-in-Ok-2.ensures.1 (and_then c.float-in-Ok-3.ensures.1 c.put-in-Ok.ensures))))) })

pub returns-in-Err : goal.returns-in-Err
unfolding bfc_line
returns-in-Err c = of_answer bfc_line c.in-Err.is c.refused_line.ensures
