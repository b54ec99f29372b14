-- `float::clearing::raise_to` meets its contract: the cases of the match are those of the definition.
use Rattle.std.proofs.Common.{rules}
use Rattle.float.specs.Clear.{raise_to}
use Rattle.float.proofs.clearing.raise_to.Goals as goal

pub returns-in-None : goal.returns-in-None
unfolding raise_to
returns-in-None c = search rules

pub returns-in-Some : goal.returns-in-Some
unfolding raise_to
returns-in-Some c = simp (c.in-Some.is, c.larger.ensures)
