-- `float::number::plus_zero` meets its contract: the test decides both.
use lib.Ieee.{of_bits}
use Rattle.f32_laws.specs.Numbers.{zero+}
use Rattle.float.specs.Numbers.{plus_zero}
use Rattle.float.proofs.number.plus_zero.Goals as goal

pub returns-then-x : goal.returns-then-x
unfolding plus_zero of_bits zero+
returns-then-x c = simp c.if-x.true

pub returns-else-x : goal.returns-else-x
unfolding plus_zero of_bits zero+
returns-else-x c = simp c.if-x.false
