-- `float::search::taller` meets its contract: the flag decides.
use Rattle.float.specs.Search.{taller}
use Rattle.float.proofs.search.taller.Goals as goal

pub returns-then-same : goal.returns-then-same
unfolding taller
returns-then-same c = simp c.if-same.true

pub returns : goal.returns
unfolding taller
returns c = simp c.if-same.false (cc)
