-- `float::FloatContext::place_in` meets its contract: the page in three parts, what `admit` and `enter` say of them, and the walk back and the writing between.
use Rattle.std.proofs.Common.{arith}
use Rattle.float.proofs.Placing.{place_held}
use Rattle.float.proofs.FloatContext.place_in.Goals as goal

pub write-requires : goal.write-requires
write-requires c =
    let p = c.args.self.now in
    let e = c.in_ok-entry.ensures _ p.bands p.boxes (omega arith) (omega arith) c.in_ok-adm.ensures c.look-spot.ensures c.walked_back-e.ensures (cc c.min.ensures) (cc c.min-2.ensures) (cc c.min-3.ensures) in
    (e.room.0, e.room.1)

pub returns : goal.returns
returns c =
    let p = c.args.self.now in
    let e = c.in_ok-entry.ensures _ p.bands p.boxes (omega arith) (omega arith) c.in_ok-adm.ensures c.look-spot.ensures c.walked_back-e.ensures (cc c.min.ensures) (cc c.min-2.ensures) (cc c.min-3.ensures) in
    place_held p _ c.head-head.ensures (e.accepted c.write.new.bands c.write.ensures) c.set_head.ensures
