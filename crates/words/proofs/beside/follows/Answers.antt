-- `words::beside::follows` meets its contract: what stands before or after a `<=` that holds is no NaN.
use Rattle.words.proofs.Spans.{fine}
use Rattle.words.proofs.beside.follows.Goals as goal

pub returns : goal.returns
returns c = fine _ _ _ c.well_formed.1.0.1 c.well_formed.1.1.0.1
