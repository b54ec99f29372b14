-- `float::plan::walked_back` meets its contract: the end so far stands between the start and where the search ended, and is walked back as far as that one.
use Rattle.float.proofs.Holding.{Walking}
use Rattle.float.proofs.plan.walked_back.Given as goal

abbrev pub invariant-loop-e : goal.invariant-loop-e
invariant-loop-e l = Walking l.bands l.fn.a l.fn.spot l.e

abbrev pub decreases-loop-e : goal.decreases-loop-e
decreases-loop-e l = l.e
