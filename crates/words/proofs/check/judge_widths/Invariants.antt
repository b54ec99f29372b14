use Rattle.words.proofs.Judging.{Judging}
use Rattle.words.proofs.check.judge_widths.Given as goal

abbrev pub invariant-loop-word : goal.invariant-loop-word
invariant-loop-word l = Judging l.words l.judged.finite l.judged.allowed l.word-index
