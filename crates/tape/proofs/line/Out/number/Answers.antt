-- `tape::line::Out::number` meets its contract: a space, then as many digits as the number has.
use Rattle.tape.proofs.Putting.{put_decimal}
use Rattle.tape.proofs.line.Out.number.Goals as goal

pub returns : goal.returns
returns c = put_decimal _ c.put.ensures c.count_decimals.ensures c.digits.ensures
