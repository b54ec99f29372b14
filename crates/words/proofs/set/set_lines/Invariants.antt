-- The lines set so far and those that the rest will give are the definition's, and the bands left behind end above the line.
use Rattle.std.proofs.Common.{map, ◌≤◌, length}
use Rattle.float.specs.Numbers.{plus_zero}
use Rattle.words.specs.Laid.{bands_of}
use Rattle.words.proofs.Going.{Going}
use Rattle.words.proofs.Standing.{Stands}
use Rattle.words.proofs.set.set_lines.Given as goal

abbrev pub invariant-loop-below : goal.invariant-loop-below
invariant-loop-below l =
    Going l.width (bands_of l.bands) (record { widths = map plus_zero l.words; gap = l.gap; height = l.height; min_y = l.min_y; left = l.left; right = l.right }) l.set.lines l.set.count l.first l.y l.rest l.turns
    × Stands l.sorted l.min_y l.y (bands_of l.bands) (bands_of l.below)
    × (length l.below ≤ length l.bands)

abbrev pub decreases-loop-below : goal.decreases-loop-below
decreases-loop-below l = l.turns
