-- `float::plan::write` meets its contract: what was written stands from j on, and the bands below are as they were.
use Rattle.float.proofs.Holding.{Writing}
use Rattle.float.proofs.plan.write.Given as goal

abbrev pub invariant-loop-j : goal.invariant-loop-j
invariant-loop-j l = Writing l.fn.a l.fn.p l.fn.bands l.bands l.j
