-- `probe_kept` meets its contract: the page after none, after one more, and after all.
use Rattle.std.proofs.Common.{ℕ, ◌∙◌, ap, arith}
use Rattle.float.specs.declared.FloatContext.{FloatContext}
use Rattle.probe.specs.Kept.{page_after, box_at}
use Rattle.probe.proofs.After.{first, first_top, next, next_top}
use Rattle.probe.proofs.probe_kept.Goals as goal

pub loop-init : goal.loop-init
loop-init c = (first _ _ _ _ _ c.fresh-page.ensures, first_top _)

pub loop-preserved : goal.loop-preserved
loop-preserved c = (next _ _ _ _ _ _ c.loop.invariant.0 c.loop.invariant.1 c.place_floated_box.ensures, next_top _ _ c.loop.invariant.1)

pub returns : goal.returns
returns c =
    let a = c.args in
    c.top_of.ensures
    ∙ ap (λ (p : FloatContext). (box_at p a.which).y) (c.loop.invariant.0 ∙ ap (page_after a.wide a.side a.width a.height a.step) (omega (arith, c.loop.auto.counter-end, c.loop-test.false)))
