-- `float::plan::Site::past_plan` meets its contract.
use Rattle.float.proofs.Coded.{past_code}
use Rattle.float.proofs.plan.Site.past_plan.Goals as goal

pub returns : goal.returns
returns c = past_code _ _ _ _ _ _ _ _ _ c.moved-first.ensures.0 c.moved-m.ensures.0 c.moved-count.ensures.0
