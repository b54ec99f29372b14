-- `float::plan::Site::plan` meets its contract: the start and the end choose the plan.
use Rattle.float.proofs.Coded.{from_below, from_past, from_end}
use Rattle.float.proofs.plan.Site.plan.Goals as goal

pub returns-then-self : goal.returns-then-self
returns-then-self c = from_below _ _ _ _ _ _ _ _ _ c.if-self.true c.below_plan.ensures

pub returns-then-self-2 : goal.returns-then-self-2
returns-then-self-2 c = from_past _ _ _ _ _ _ _ _ _ _ c.if-self.false c.if-self-2.true c.starts_inside-cut.ensures c.past_plan.ensures

pub returns : goal.returns
returns c = from_end _ _ _ _ _ _ _ _ _ _ _ _ _ c.if-self.false c.if-self-2.false c.starts_inside-cut.ensures c.moved.ensures.0 c.part-b.ensures c.inside-splits.ensures c.end_plan.ensures
