-- `tape::text::told_lines` meets its contract: the lines so far were counted; then those so far were put.
use Rattle.tape.proofs.Printing.{Counted, Printed}
use Rattle.tape.proofs.text.told_lines.Given as goal

abbrev pub invariant-loop-l : goal.invariant-loop-l
invariant-loop-l l = Counted l.lines l.need l.l-index

abbrev pub invariant-loop-l-2 : goal.invariant-loop-l-2
invariant-loop-l-2 l = Printed l.initial.out l.out l.lines l.l-index
