-- `tape::text::told_letter` meets its contract: the line has two bytes.
use native.Mathlib.Omega.{arith}
use borrow.Author.Rules.{rules}
use Rattle.tape.proofs.Lengths.{length_letter}
use Rattle.tape.proofs.Room.{right_puts, right_short}
use Rattle.tape.proofs.text.told_letter.Goals as goal

pub returns-then-answers-lt2 : goal.returns-then-answers-lt2
returns-then-answers-lt2 c = right_short _ _ (let e = length_letter c.args.letter in omega (arith, c.if-answers-lt2.true))

pub returns : goal.returns
returns c =
    let n = c.new-out.ensures in
    let p = c.letter_line.ensures.puts in
    let same = p.same in
    let e = length_letter c.args.letter in
    right_puts _ (n.1, n.2) (search rules) (omega (arith, p.put.next, n.2)) (omega (arith, p.put.next, n.2, c.if-answers-lt2.false)) p
