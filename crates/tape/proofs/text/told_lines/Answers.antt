-- `tape::text::told_lines` meets its contract: the lines so far were counted; then those so far were put.
use native.Mathlib.Omega.{arith}
use borrow.Author.Rules.{rules}
use Rattle.tape.proofs.Printing.{counted_none, counted_more, printed_none, printed_more, lines_short, lines_put}
use Rattle.tape.proofs.text.told_lines.Goals as goal

pub loop-l-init : goal.loop-l-init
loop-l-init c = counted_none _

pub loop-l-preserved : goal.loop-l-preserved
loop-l-preserved c = counted_more _ _ c.loop-l-test.true c.loop-l.invariant c.line_length-need.ensures

pub returns-then-answers-need : goal.returns-then-answers-need
returns-then-answers-need c = lines_short _ c.loop-l.invariant c.loop-l-test.false _ c.if-answers-need.true

pub loop-l-2-init : goal.loop-l-2-init
loop-l-2-init c = printed_none _ _

pub loop-l-2-preserved : goal.loop-l-2-preserved
loop-l-2-preserved c = printed_more _ _ c.loop-l-2-test.true c.loop-l-2.invariant c.set_line.ensures

pub returns : goal.returns
returns c =
    let n = c.new-out.ensures in
    let same = c.loop-l-2.invariant.puts.same in
    lines_put _ c.loop-l.invariant c.loop-l-test.false (n.1, n.2) (search rules) c.if-answers-need.false c.loop-l-2.invariant c.loop-l-2-test.false (omega (arith, c.loop-l-2.auto.l-index-end, c.requires))
