-- `float::number::offset_allowed` meets its contract: its constants are the limits -65,536 and 65,536.
use Rattle.std.proofs.Common.{refl}
use lib.Ieee.{of_bits}
use Rattle.float.specs.Numbers.{within}
use Rattle.float.proofs.number.offset_allowed.Goals as goal

pub returns : goal.returns
unfolding within of_bits
returns c = refl
