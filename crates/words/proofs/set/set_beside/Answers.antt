-- `words::set::set_beside` meets its contract: the lines are set in a place of its own, which is handed back.
use Rattle.std.proofs.Common.{Err, ap, ◌∙◌}
use Rattle.std.proofs.lemmas.Result.{err_from_is_err_and}
use Rattle.words.specs.Lines.{handed}
use Rattle.words.proofs.set.set_beside.Goals as goal

pub returns-in_err-set_in : goal.returns-in_err-set_in
unfolding handed
returns-in_err-set_in c = let p = err_from_is_err_and c.from_residual.result c.from_residual.ensures.1 in p.1 ∙ ap Err p.2 ∙ c.in_err-set_in.ensures

pub returns : goal.returns
unfolding handed
returns c = c.in_ok-set_in.ensures
