-- `words::check::judge_widths` meets its contract: what was judged so far, and the rest.
use Rattle.words.proofs.Judging.{judge_goes, judge_ends}
use Rattle.words.proofs.check.judge_widths.Goals as goal

pub loop-word-preserved : goal.loop-word-preserved
loop-word-preserved c = judge_goes c.loop-word.invariant c.loop-word-test.true _ _ _ c.plus_zero-w.ensures c.finite.ensures c.size_allowed.ensures

pub returns : goal.returns
returns c = judge_ends c.loop-word.invariant c.loop-word-test.false
