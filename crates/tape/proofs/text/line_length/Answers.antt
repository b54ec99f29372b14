-- `tape::text::line_length` meets its contract: the two numbers, and what is the same in every line.
use native.Mathlib.Omega.{arith}
use Rattle.tape.proofs.Lengths.{length-set}
use Rattle.tape.proofs.text.line_length.Goals as goal

pub returns : goal.returns
returns c = let l = c.args.l in let e = length-set l in (omega arith, omega arith)
