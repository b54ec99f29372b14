-- `float::hold::shaped` meets its contract.
use Rattle.float.proofs.Coded.{shaped_past, shaped_code}
use Rattle.float.proofs.hold.shaped.Goals as goal

pub returns-then-j-p : goal.returns-then-j-p
returns-then-j-p c = shaped_past _ _ _ _ c.if-j-p.true

pub returns : goal.returns
returns c = shaped_code _ _ _ _ _ _ _ _ _ c.if-j-p.false c.unsplit-k.ensures.0 c.part-upper.ensures c.part-lower.ensures c.filled-t.ensures c.inked.ensures
