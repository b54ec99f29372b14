-- `tape::step::State::run` meets its contract. The invariant: the lines so far were put into the room, and the rest of the tape makes the rest.
use mathlib.Core.Path.{sym, ◌∙◌}
use Rattle.tape.proofs.Blank.{blank_told}
use Rattle.tape.proofs.Going.{going_first, going_more, going_broken, going_done}
use Rattle.tape.proofs.Running.{turned_whole}
use borrow.Author.Rules.{rules}
use Rattle.tape.proofs.step.State.run.Goals as goal

pub loop-at-init : goal.loop-at-init
loop-at-init c = (going_first _ _ _, c.requires.1)

pub returns-in_default : goal.returns-in_default
returns-in_default c = let n = c.loop-at.invariant.0.puts.same in let m = c.number_line.ensures.puts.same in going_broken _ _ (c.new-out.ensures.1, c.new-out.ensures.2) (search rules) c.loop-at.invariant.0 c.loop-at-test.true c.requires.0 (sym c.read_record.ensures ∙ c.in_default.is) c.number_line.ensures

pub loop-at-preserved : goal.loop-at-preserved
loop-at-preserved c =
    let s = c.step.ensures in
    (going_more _ _ _ c.loop-at.invariant.0 c.loop-at-test.true (turned_whole _ _ _ c.loop-at.at (sym c.read_record.ensures ∙ c.in-Some.is) s c.body_len.ensures), blank_told _ _ s c.loop-at.invariant.1)

pub returns : goal.returns
returns c = let n = c.loop-at.invariant.0.puts.same in going_done _ _ (c.new-out.ensures.1, c.new-out.ensures.2) (search rules) c.loop-at.invariant.0 c.loop-at-test.false
