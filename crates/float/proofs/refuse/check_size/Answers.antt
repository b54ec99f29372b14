-- `float::refuse::check_size` meets its contract: one number, a size.
use Rattle.float.proofs.Judged.{one, told}
use Rattle.float.proofs.refuse.check_size.Goals as goal

pub returns : goal.returns
returns c = told _ c.verdict.ensures (one c.finite.ensures c.size_allowed.ensures)
