-- `tape::line::Out::number_line` meets its contract: the letter, the number, the line feed.
use Rattle.tape.specs.Bytes.{fields}
use Rattle.tape.proofs.Putting.{and_then}
use borrow.Author.Rules.{rules}
use Rattle.tape.proofs.line.Out.number_line.Goals as goal

pub returns : goal.returns
unfolding fields
returns c =
    record { short = search rules; puts = and_then c.put.ensures (and_then c.number.ensures.1 c.put-2.ensures) }
