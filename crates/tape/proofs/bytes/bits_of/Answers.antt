-- `tape::bytes::bits_of` meets its contract: only a NaN differs from itself.
use mathlib.Core.Path.{sym, ap}
use lib.Ieee.{to_bits, binary32}
use Rattle.tape.proofs.Bits.{itself, not_itself}
use Rattle.tape.proofs.bytes.bits_of.Goals as goal

pub float_to_bits-result : goal.float_to_bits-result
float_to_bits-result c = itself _ c.if-x.false

pub returns-then-x : goal.returns-then-x
unfolding to_bits
returns-then-x c = sym (ap (to_bits binary32) (not_itself c.args.x c.if-x.true))
