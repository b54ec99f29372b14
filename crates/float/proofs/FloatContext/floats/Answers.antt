-- `float::FloatContext::floats` meets its contract: the boxes of the side among the live ones.
use Rattle.std.proofs.Common.{arith}
use Rattle.float.proofs.Sides.{floats_are}
use Rattle.float.proofs.FloatContext.floats.Goals as goal

pub returns : goal.returns
returns c = floats_are c.args.self.now _ _ _ (omega arith) c.min.ensures c.of_side.ensures
