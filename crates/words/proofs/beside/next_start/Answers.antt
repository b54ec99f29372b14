-- `words::beside::next_start` meets its contract: the loop stops at the definition's band.
use Rattle.std.proofs.Common.{sym, ◌∙◌}
use Rattle.words.specs.Lines.{next_start}
use Rattle.std.proofs.Math.ListN.{drop_of_length-le}
use Rattle.words.proofs.Spans.{next_yes, next_no}
use Rattle.words.proofs.beside.next_start.Goals as goal

pub returns-then-y-start : goal.returns-then-y-start
returns-then-y-start c = sym (c.loop-start.invariant ∙ next_yes _ _ c.loop-start-test.true _ _ c.if-y-start.true)

pub loop-start-preserved : goal.loop-start-preserved
loop-start-preserved c = c.loop-start.invariant ∙ next_no _ _ c.loop-start-test.true _ _ c.if-y-start.false

pub returns : goal.returns
unfolding next_start
returns c = simp (c.loop-start.invariant, drop_of_length-le c.args.bands.now c.loop-start-test.false)
