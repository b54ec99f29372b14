-- `float::plan::Site::end_plan` meets its contract.
use Rattle.float.proofs.Coded.{end_code}
use Rattle.float.proofs.plan.Site.end_plan.Goals as goal

pub returns : goal.returns
returns c = end_code _ _ _ _ _ _ _ _ _ _ _ _ _ c.moved-first.ensures.0 c.moved-last.ensures.0 c.moved-m.ensures.0 c.moved-count.ensures.0 c.up_to-high.ensures
