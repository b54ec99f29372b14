use Rattle.std.proofs.Common.{◌≡◌, drop}
use Rattle.words.specs.Laid.{bands_of}
use Rattle.words.specs.Lines.{next_start}
use Rattle.words.proofs.beside.next_start.Given as goal

abbrev pub invariant-loop-start : goal.invariant-loop-start
invariant-loop-start l = next_start l.y l.z (bands_of l.bands) ≡ next_start l.y l.z (bands_of (drop l.start-index l.bands))
