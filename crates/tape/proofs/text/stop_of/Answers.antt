-- `tape::text::stop_of` meets its contract: no record before the offset is broken.
use Rattle.tape.proofs.Stopping.{stopping_none, stopping_more, stop_unknown, stop_cut, stop_end}
use Rattle.tape.proofs.text.stop_of.Goals as goal

pub loop-at-init : goal.loop-at-init
loop-at-init c = stopping_none _

pub returns-then-kind-ge8 : goal.returns-then-kind-ge8
returns-then-kind-ge8 c = stop_unknown _ c.loop-at.invariant c.loop-at-test.true c.if-kind-ge8.true

pub returns-then-tape-at : goal.returns-then-tape-at
returns-then-tape-at c = stop_cut _ c.loop-at.invariant c.loop-at-test.true c.if-kind-ge8.false c.body_len-n.ensures c.if-tape-at.true

pub loop-at-preserved : goal.loop-at-preserved
loop-at-preserved c = stopping_more _ c.loop-at.invariant c.loop-at-test.true c.if-kind-ge8.false c.body_len-n.ensures c.if-tape-at.false

pub returns : goal.returns
returns c = stop_end _ c.loop-at.invariant c.loop-at-test.false
