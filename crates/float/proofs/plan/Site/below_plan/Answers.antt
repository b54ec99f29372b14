-- `float::plan::Site::below_plan` meets its contract.
use Rattle.float.proofs.Coded.{below_code}
use Rattle.float.proofs.plan.Site.below_plan.Goals as goal

pub returns : goal.returns
returns c = below_code _ _ _ _ _ _ _ c.moved-at.ensures.0 c.larger-y.ensures
