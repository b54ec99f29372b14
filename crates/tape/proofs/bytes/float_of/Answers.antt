-- `tape::bytes::float_of` meets its contract: the test tells the patterns of a NaN.
use mathlib.Core.Path.{sym}
use lib.Ieee.{div, of_bits, of_fields, odd}
use Rattle.tape.proofs.Bits.{no_nan, a_nan}
use Rattle.tape.proofs.bytes.float_of.Goals as goal

pub float_from_bits-result : goal.float_from_bits-result
float_from_bits-result c = no_nan _ c.if-n-le2139095040.true

pub returns-else-n-le2139095040 : goal.returns-else-n-le2139095040
unfolding div of_bits of_fields odd
returns-else-n-le2139095040 c = sym (a_nan c.args.n c.if-n-le2139095040.false)
