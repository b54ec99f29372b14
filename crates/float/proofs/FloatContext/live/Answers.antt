-- `float::FloatContext::live` meets its contract: a count past the end of the array is the same as its length.
use Rattle.std.proofs.Common.{arith}
use Rattle.float.specs.Page.{page_of}
use Rattle.float.proofs.Front.{take_min}
use Rattle.float.proofs.FloatContext.live.Goals as goal

pub returns : goal.returns
unfolding page_of
returns c = rw c.min.ensures (take_min _ _ 96 (omega arith))
