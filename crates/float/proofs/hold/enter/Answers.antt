-- `float::hold::enter` meets its contract: the height chooses the plan.
use Rattle.float.proofs.Entered.{enters_flat, enters_high}
use Rattle.float.proofs.hold.enter.Goals as goal

pub returns-then-a : goal.returns-then-a
returns-then-a c = λ d bs xs bands boxes adm es back el ef ee.
    let s = c.args in
    enters_flat s.head s.adm s.spot _ c.min-n.ensures d bs xs bands boxes adm es c.if-a.true _ c.still.ensures _ c.entered.ensures

pub returns : goal.returns
returns c = λ d bs xs bands boxes adm es back el ef ee.
    let s = c.args in
    enters_high s.head s.adm s.spot _ c.min-n.ensures d bs xs bands boxes adm es c.if-a.false s.last s.first s.end _ c.last_end-z.ensures s.e _ c.min.ensures back el ef ee _ c.min-number.ensures _ c.plan.ensures _ c.entered-2.ensures
