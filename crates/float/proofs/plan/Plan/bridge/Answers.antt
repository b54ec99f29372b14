-- `float::plan::Plan::bridge` meets its contract: the default band's sides are zero and unmarked.
use lib.Ieee.{of_bits}
use Rattle.f32_laws.specs.Numbers.{zero+}
use Rattle.float.proofs.plan.Plan.bridge.Goals as goal

pub returns : goal.returns
unfolding of_bits zero+
returns c = cc
