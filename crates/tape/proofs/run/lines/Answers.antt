-- `tape::run::lines` meets its contract: a tape that is too long has the one line L, any other those of its run from a fresh state.
use borrow.Author.Rules.{rules}
use Rattle.tape.proofs.Blank.{blank_new}
use Rattle.tape.proofs.Going.{run_answered}
use Rattle.tape.proofs.Room.{over_answered}
use Rattle.tape.proofs.run.lines.Goals as goal

pub returns-then-tape-gt65536 : goal.returns-then-tape-gt65536
returns-then-tape-gt65536 c =
    let n = c.new-out.ensures in
    let same = c.letter_line.ensures.puts.same in
    over_answered _ c.if-tape-gt65536.true (n.1, n.2) (search rules) c.letter_line.ensures

pub returns : goal.returns
returns c = run_answered _ _ c.new.ensures c.if-tape-gt65536.false c.run.ensures

pub run-requires : goal.run-requires
run-requires c = (c.if-tape-gt65536.false, blank_new c.new.ensures)
