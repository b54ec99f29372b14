-- `float::number::in_reach` meets its contract: its constant is the limit 131,072.
use Rattle.std.proofs.Common.{refl}
use lib.Ieee.{of_bits}
use Rattle.float.specs.Numbers.{in_reach}
use Rattle.float.proofs.number.in_reach.Goals as goal

pub returns : goal.returns
unfolding in_reach of_bits
returns c = refl
