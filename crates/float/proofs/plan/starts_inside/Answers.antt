-- `float::plan::starts_inside` meets its contract: to differ is not to be equal.
use Rattle.std.proofs.Common.{◌≡◌, Bool, true, false, if◌then◌else◌, not, refl}
use lib.Ieee.{eq, ne}
use Rattle.float.proofs.plan.starts_inside.Goals as goal

denied : (t : Bool) → not t ≡ (if t then false else true)
denied true = refl
denied false = refl

pub returns : goal.returns
unfolding ne
returns c = denied (eq c.args.y c.args.b.start)
