use Rattle.std.proofs.Common.{◌≡◌, ◌+◌, map, drop}
use Rattle.float.specs.Numbers.{plus_zero}
use Rattle.words.specs.Lines.{more}
use Rattle.words.proofs.fill.take_words.Given as goal

abbrev pub invariant-loop-i : goal.invariant-loop-i
invariant-loop-i l = more l.room l.gap l.initial.sum (map plus_zero l.others) ≡ l.i + more l.room l.gap l.sum (map plus_zero (drop l.i l.others))
