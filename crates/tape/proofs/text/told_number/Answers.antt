-- `tape::text::told_number` meets its contract: the line has three bytes and the decimals.
use native.Mathlib.Omega.{arith}
use borrow.Author.Rules.{rules}
use Rattle.tape.proofs.Lengths.{length_number}
use Rattle.tape.proofs.Room.{right_puts, right_short}
use Rattle.tape.proofs.text.told_number.Goals as goal

pub returns-then-answers-count_decimals : goal.returns-then-answers-count_decimals
returns-then-answers-count_decimals c = right_short _ _ (let e = length_number c.args.letter c.args.n in omega (arith, c.if-answers-count_decimals.true, c.count_decimals.ensures.0))

pub returns : goal.returns
returns c =
    let n = c.new-out.ensures in
    let l = c.number_line.ensures in
    let same = l.puts.same in
    let e = length_number c.args.letter c.args.n in
    right_puts _ (n.1, n.2) (search rules) (omega (arith, l.short, n.2)) (omega (arith, l.puts.put.next, n.2, c.if-answers-count_decimals.false, c.count_decimals.ensures.0)) l.puts
