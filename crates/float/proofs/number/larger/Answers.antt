-- `float::number::larger` meets its contract: the test decides both.
use Rattle.f32_laws.specs.Numbers.{larger}
use Rattle.float.proofs.number.larger.Goals as goal

pub returns-then-a-b : goal.returns-then-a-b
unfolding larger
returns-then-a-b c = simp c.if-a-b.true

pub returns-else-a-b : goal.returns-else-a-b
unfolding larger
returns-else-a-b c = simp c.if-a-b.false
