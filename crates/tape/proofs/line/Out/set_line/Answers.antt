-- `tape::line::Out::set_line` meets its contract: a letter, two floats, two numbers, a line feed.
use Rattle.tape.specs.Bytes.{fields}
use Rattle.tape.specs.Text.{set_line}
use Rattle.tape.proofs.Putting.{and_then}
use borrow.Author.Rules.{rules}
use Rattle.tape.proofs.line.Out.set_line.Goals as goal

pub returns : goal.returns
unfolding set_line fields
returns c =
    record { short = search rules; puts = and_then c.put.ensures (and_then c.float.ensures.1 (and_then c.float-2.ensures.1 (and_then c.number.ensures.1 (and_then c.number-2.ensures.1 c.put-2.ensures)))) }
