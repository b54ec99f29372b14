-- `float::fit::placed_at` meets its contract: it is the larger of the two by definition.
use Rattle.std.proofs.Common.{rules}
use Rattle.float.specs.Fit.{placed_at}
use Rattle.float.proofs.fit.placed_at.Goals as goal

pub returns : goal.returns
unfolding placed_at
returns c = search rules
