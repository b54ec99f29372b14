-- `float::refuse::check_offset` meets its contract: one number, an offset.
use Rattle.float.proofs.Judged.{one, told}
use Rattle.float.proofs.refuse.check_offset.Goals as goal

pub returns : goal.returns
returns c = told _ c.verdict.ensures (one c.finite.ensures c.offset_allowed.ensures)
