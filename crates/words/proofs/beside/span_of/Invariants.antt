use Rattle.std.proofs.Common.{◌≡◌, drop}
use Rattle.words.specs.Laid.{bands_of}
use Rattle.words.specs.Lines.{span_over}
use Rattle.words.proofs.beside.span_of.Given as goal

abbrev pub invariant-loop-start : goal.invariant-loop-start
invariant-loop-start l = span_over l.y l.bottom l.initial.e (bands_of l.bands) ≡ span_over l.y l.bottom l.e (bands_of (drop l.start-index l.bands))
