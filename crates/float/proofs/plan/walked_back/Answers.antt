-- `float::plan::walked_back` meets its contract: the end so far stands between the start and where the search ended, and is walked back as far as that one.
use Rattle.float.proofs.Holding.{walking_next, walking_end, walking_stop}
use Rattle.float.proofs.plan.walked_back.Goals as goal

pub loop-e-preserved : goal.loop-e-preserved
loop-e-preserved c = walking_next _ _ _ _ c.loop-e.invariant c.loop-e-test.true c.if-bottom-bands.true

pub returns-else-bottom-bands : goal.returns-else-bottom-bands
returns-else-bottom-bands c = walking_stop _ _ _ _ c.loop-e.invariant c.if-bands-e.false c.if-bottom-bands.false

pub returns-after-loop-e : goal.returns-after-loop-e
returns-after-loop-e c = walking_end _ _ _ _ c.loop-e.invariant c.if-bands-e.false c.loop-e-test.false
