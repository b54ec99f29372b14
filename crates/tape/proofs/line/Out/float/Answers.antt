-- `tape::line::Out::float` meets its contract: a space, then eight digits.
use Rattle.tape.proofs.Putting.{put_hex}
use Rattle.tape.proofs.line.Out.float.Goals as goal

pub returns : goal.returns
returns c = put_hex _ c.put.ensures c.bits_of.ensures c.digits.ensures
