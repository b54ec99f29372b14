-- `words::set_words` meets its contract: the bands are laid as numbers, one after the other, and the lines set beside them.
use Rattle.std.proofs.Common.{Err, refl, ap, ◌∙◌, arith}
use Rattle.std.proofs.lemmas.Result.{err_from_is_err_and}
use Rattle.words.specs.Lines.{answered, handed}
use Rattle.words.proofs.Laid.{lays_none, lays_one, set_page}
use Rattle.words.proofs.set_words.Goals as goal

pub loop-i-init : goal.loop-i-init
loop-i-init c = lays_none _ _

pub loop-i-preserved : goal.loop-i-preserved
loop-i-preserved c = lays_one c.loop-i.invariant c.loop-i-test.true _ _ refl (c.lay.ensures.1 (omega (arith, c.loop-i-test.true, c.loop-i-test.array_long, c.live-live.ensures.few)))

-- the loop ends where all are laid
pub returns-in_err-set_in : goal.returns-in_err-set_in
unfolding handed
returns-in_err-set_in c =
    let p = err_from_is_err_and c.from_residual.result c.from_residual.ensures.1 in
    p.1 ∙ ap Err p.2 ∙ c.in_err-set_in.ensures ∙ ap answered (set_page c.args.page.now _ c.loop-i.bands c.loop-i.i _ c.live-live.ensures.is c.loop-i-test.false c.loop-i.auto.i-end c.loop-i.invariant)

pub returns : goal.returns
unfolding handed
returns c = c.in_ok-set_in.ensures ∙ ap answered (set_page c.args.page.now _ c.loop-i.bands c.loop-i.i _ c.live-live.ensures.is c.loop-i-test.false c.loop-i.auto.i-end c.loop-i.invariant)
