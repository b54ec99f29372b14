use Rattle.std.proofs.Common.{◌≡◌, ◌+◌, drop}
use Rattle.float.specs.Bands.{first_below}
use Rattle.words.specs.Laid.{bands_of}
use Rattle.words.proofs.beside.passed.Given as goal

abbrev pub invariant-loop-i : goal.invariant-loop-i
invariant-loop-i l = first_below (bands_of l.bands) 0 l.y ≡ l.i + first_below (bands_of (drop l.i l.bands)) 0 l.y
