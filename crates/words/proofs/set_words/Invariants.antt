-- The bands so far lie at the front as numbers.
use Rattle.words.proofs.Laid.{Lays}
use Rattle.words.proofs.set_words.Given as goal

abbrev pub invariant-loop-i : goal.invariant-loop-i
invariant-loop-i l = Lays l.live l.bands l.i
