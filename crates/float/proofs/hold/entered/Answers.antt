-- `float::hold::entered` meets its contract: refusals 6 and 7 decide.
use Rattle.std.proofs.Common.{sym, ◌∙◌}
use Rattle.float.proofs.Coded.{entered_far, entered_full, entered_done}
use Rattle.float.proofs.hold.entered.Goals as goal

pub returns-then-not-near : goal.returns-then-not-near
returns-then-not-near c = entered_far _ _ _ _ (sym c.near.ensures ∙ c.if-not-near.true)

pub returns-then-p-gt96 : goal.returns-then-p-gt96
returns-then-p-gt96 c = entered_full _ _ _ _ (sym c.near.ensures ∙ c.if-not-near.false) c.if-p-gt96.true

pub returns : goal.returns
returns c = entered_done _ _ _ _ _ _ _ (sym c.near.ensures ∙ c.if-not-near.false) c.if-p-gt96.false c.x_of.ensures c.head_after.ensures c.box_of.ensures
