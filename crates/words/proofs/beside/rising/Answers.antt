-- `words::beside::rising` meets its contract: bands that passed the test rise, if those after them do.
use Rattle.std.proofs.Common.{refl}
use lib.Ieee.{neg, div, of_bits}
use Rattle.words.proofs.Spans.{rise_one}
use Rattle.words.proofs.beside.rising.Goals as goal

pub loop-start-init : goal.loop-start-init
unfolding div neg of_bits
loop-start-init c = λ r. r

pub loop-start-preserved : goal.loop-start-preserved
loop-start-preserved c = λ r. c.loop-start.invariant (rise_one _ _ _ c.loop-start-test.true (c.follows.ensures c.if-not-follows.false _ refl refl) r)
