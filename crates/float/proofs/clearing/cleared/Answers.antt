-- `float::clearing::cleared` meets its contract: the cases of the match are those of the definition, for every page with these bottoms.
use Rattle.std.proofs.Common.{sym}
use Rattle.float.specs.Clear.{cleared}
use Rattle.float.proofs.clearing.cleared.Goals as goal

pub returns-in-None : goal.returns-in-None
unfolding cleared
returns-in-None c = λ p l r. simp c.in-None.is

pub returns-in-Left : goal.returns-in-Left
unfolding cleared
returns-in-Left c = λ p l r. simp c.in-Left.is (sym l)

pub returns-in-Right : goal.returns-in-Right
unfolding cleared
returns-in-Right c = λ p l r. simp c.in-Right.is (sym r)

pub returns-in-Both : goal.returns-in-Both
unfolding cleared
returns-in-Both c = λ p l r. simp (c.in-Both.is, l, r) c.lower.ensures
