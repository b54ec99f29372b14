-- `float::number::smaller` meets its contract: the test decides both.
use Rattle.f32_laws.specs.Numbers.{smaller}
use Rattle.float.proofs.number.smaller.Goals as goal

pub returns-then-b-a : goal.returns-then-b-a
unfolding smaller
returns-then-b-a c = simp c.if-b-a.true

pub returns-else-b-a : goal.returns-else-b-a
unfolding smaller
returns-else-b-a c = simp c.if-b-a.false
