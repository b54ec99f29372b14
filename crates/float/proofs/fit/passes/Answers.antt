-- `float::fit::passes` meets its contract: the test of the inset decides which half of the `||` is left.
use lib.Ieee.{of_bits}
use Rattle.f32_laws.specs.Numbers.{zero+, tol}
use Rattle.float.specs.Fit.{passes}
use Rattle.float.proofs.fit.passes.Goals as goal

pub returns-then-inset : goal.returns-then-inset
unfolding passes zero+ of_bits
returns-then-inset c = simp c.if-inset.true

pub returns-else-inset : goal.returns-else-inset
unfolding passes zero+ tol of_bits
returns-else-inset c = simp c.if-inset.false
