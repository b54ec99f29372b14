-- `tape::text::judge_text` meets its contract: what was judged so far, and the rest.
use Prim.Native.Nat.{◌-◌}
use Rattle.words.proofs.Judging.{Judging}
use Rattle.tape.specs.Text.{floats_at}
use Rattle.tape.proofs.text.judge_text.Given as goal

abbrev pub invariant-loop-i : goal.invariant-loop-i
invariant-loop-i l = Judging (floats_at l.n l.text 2) l.all_finite l.all_allowed l.i

abbrev pub decreases-loop-i : goal.decreases-loop-i
decreases-loop-i l = l.n - l.i
