-- `words::beside::span_of` meets its contract: each band is joined as the definition joins it, and where the loop stops early no band is touched further on.
use Rattle.std.proofs.Common.{sym, ◌∙◌}
use Rattle.words.specs.Lines.{span_over}
use Rattle.std.proofs.Math.ListN.{drop_of_length-le}
use Rattle.words.proofs.Spans.{reach_num, span_one, span_stops}
use Rattle.words.proofs.beside.span_of.Goals as goal

pub returns-then-sorted-starts : goal.returns-then-sorted-starts
returns-then-sorted-starts c = sym (c.loop-start.invariant ∙ span_stops _ _ c.loop-start-test.true _ _ _ c.args.sorted c.requires.1 (reach_num c.well_formed.1.1.1.0.1 c.requires.0) c.if-sorted-starts.true)

pub loop-start-preserved : goal.loop-start-preserved
loop-start-preserved c = c.loop-start.invariant ∙ span_one _ _ c.loop-start-test.true _ _ _ _ c.joined-e.ensures

pub returns : goal.returns
unfolding span_over
returns c = simp (c.loop-start.invariant, drop_of_length-le c.args.bands.now c.loop-start-test.false)
