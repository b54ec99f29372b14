-- `float::page::of_side` meets its contract. The loop's invariant: of the boxes passed, those of the side stand at the front.
use Rattle.std.proofs.Common.{replicate, ap, arith}
use Rattle.float.proofs.Empty.{empty_box}
use Rattle.float.proofs.Sides.{picked_none, took, left, picked_all}
use Rattle.float.proofs.page.of_side.Goals as goal
use Rattle.float.proofs.page.of_side.Goals.{then-eq, else-eq}

pub loop-b-init : goal.loop-b-init
loop-b-init c = (omega arith, picked_none _ _ _ (ap (replicate 64) (empty_box _ c.default-out.ensures)))

pub loop-b-preserved : goal.loop-b-preserved
loop-b-preserved c =
    let l = c.loop-b in
    let t = c.loop-b-test.true in
    elim c.if-eq.branch [
      | then-eq w ↦ took c.args.d c.args.boxes.now l.b-index l.out l.count _ t c.requires l.invariant.1 _ c.eq.ensures _ _ w.if-eq.true w.out-is w.count-is
      | else-eq w ↦ left c.args.d c.args.boxes.now l.b-index l.out l.count _ t c.requires l.invariant.1 _ c.eq.ensures _ _ w.if-eq.false w.out-is w.count-is
    ]

pub returns : goal.returns
returns c = picked_all _ _ c.loop-b.b-index _ _ (omega arith) c.loop-b.invariant.1
