-- `float::page::of_side` meets its contract. The loop's invariant: of the boxes passed, those of the side stand at the front.
use Rattle.std.proofs.Common.{◌≤◌}
use Rattle.float.proofs.Sides.{Picked}
use Rattle.float.proofs.page.of_side.Given as goal

abbrev pub invariant-loop-b : goal.invariant-loop-b
invariant-loop-b l = (l.count ≤ l.b-index) × Picked l.d l.boxes l.b-index l.out l.count
