use Rattle.std.proofs.Common.{true, drop}
use Rattle.std.specs.Float.{inf}
use Rattle.words.specs.Laid.{bands_of, Rising}
use Rattle.words.proofs.beside.rising.Given as goal

abbrev pub invariant-loop-start : goal.invariant-loop-start
invariant-loop-start l = Rising l.above (bands_of (drop l.start-index l.bands)) → Rising (inf true) (bands_of l.bands)
