-- `float::calculator::zeroed` meets its contract: the cases of the match are those of the definition.
use lib.Ieee.{of_bits}
use Rattle.f32_laws.specs.Numbers.{zero+}
use Rattle.float.proofs.calculator.zeroed.Goals as goal

pub returns-in-Left-Left : goal.returns-in-Left-Left
unfolding zero+ of_bits
returns-in-Left-Left c = simp (c.in-Left-Left.is-0, c.in-Left-Left.is-1)

pub returns-in-Right-Right : goal.returns-in-Right-Right
unfolding zero+ of_bits
returns-in-Right-Right c = simp (c.in-Right-Right.is-0, c.in-Right-Right.is-1)

pub returns-in-Both-default : goal.returns-in-Both-default
unfolding zero+ of_bits
returns-in-Both-default c = simp c.in-Both-default.is-0
