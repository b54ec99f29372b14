-- `float::FloatContext::depth` meets its contract: it reads the field.
use Rattle.std.proofs.Common.{refl}
use Rattle.float.specs.Page.{page_of}
use Rattle.float.specs.Slot.{depth_of}
use Rattle.float.proofs.FloatContext.depth.Goals as goal

pub returns : goal.returns
unfolding page_of depth_of
returns c = refl
