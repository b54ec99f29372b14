-- `float::number::finite` meets its contract: the pattern 7F800000 is plus infinity.
use Rattle.std.proofs.Common.{refl}
use lib.Ieee.{of_bits, neg, nan_bits}
use Rattle.float.specs.Numbers.{finite}
use Rattle.float.proofs.number.finite.Goals as goal

pub float_from_bits-infinity : goal.float_from_bits-infinity
unfolding nan_bits
float_from_bits-infinity c = tt

pub returns : goal.returns
unfolding finite of_bits neg
returns c = refl
