-- `float::number::size_allowed` meets its contract: its constants are the limits 0 and 65,536.
use Rattle.std.proofs.Common.{refl}
use lib.Ieee.{of_bits}
use Rattle.f32_laws.specs.Numbers.{zero+}
use Rattle.float.specs.Numbers.{within}
use Rattle.float.proofs.number.size_allowed.Goals as goal

pub returns : goal.returns
unfolding within of_bits zero+
returns c = refl
