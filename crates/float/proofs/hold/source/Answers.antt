-- `float::hold::source` meets its contract.
use Rattle.float.proofs.Coded.{source_code}
use Rattle.std.proofs.Common.{arith}
use Rattle.float.proofs.hold.source.Goals as goal

pub returns : goal.returns
returns c = (source_code _ _ _ _ c.unsplit-k.ensures.0 c.unsplit.ensures.0, omega arith)
