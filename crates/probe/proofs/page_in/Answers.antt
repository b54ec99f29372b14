-- `page_in` meets its contract: the page after none, after one more, and after all.
use Rattle.std.proofs.Common.{◌∙◌, ap, arith}
use Rattle.probe.specs.Kept.{page_after}
use Rattle.probe.proofs.After.{first, first_top, next, next_top}
use Rattle.probe.proofs.page_in.Goals as goal

pub loop-init : goal.loop-init
loop-init c = (first _ _ _ _ _ c.fresh-page.ensures, first_top _)

pub loop-preserved : goal.loop-preserved
loop-preserved c = (next _ _ _ _ _ _ c.loop.invariant.0 c.loop.invariant.1 c.place_in.ensures, next_top _ _ c.loop.invariant.1)

pub returns : goal.returns
returns c = let a = c.args in c.loop.invariant.0 ∙ ap (page_after a.wide a.side a.width a.height a.step) (omega (arith, c.loop.auto.counter-end, c.loop-test.false))
