-- `float::clearing::lower` meets its contract: the cases of the match are those of the definition.
use Rattle.float.specs.Clear.{lower}
use Rattle.float.proofs.clearing.lower.Goals as goal

pub returns-in-None-default : goal.returns-in-None-default
unfolding lower
returns-in-None-default c = simp c.in-None-default.is-0

pub returns-in_default-None : goal.returns-in_default-None
unfolding lower
returns-in_default-None c = simp (c.in_default-None.is-0, c.in_default-None.is-1)

pub returns-in-Some-Some : goal.returns-in-Some-Some
unfolding lower
returns-in-Some-Some c = simp (c.in-Some-Some.is-0, c.in-Some-Some.is-1, c.larger.ensures)
