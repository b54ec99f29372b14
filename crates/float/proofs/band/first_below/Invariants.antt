-- `float::band::first_below` meets its contract: the loop's invariant is that what is sought from i on is what was sought.
use Rattle.std.proofs.Common.{◌≡◌}
use Rattle.float.specs.Bands.{first_below}
use Rattle.float.proofs.band.first_below.Given as goal

abbrev pub invariant-loop-i : goal.invariant-loop-i
invariant-loop-i l = first_below l.bands l.fn.from l.y ≡ first_below l.bands l.i l.y
