-- `float::ask::bfc_quest` meets its contract: its calls clean the numbers and check them as the definition does.
use Rattle.float.proofs.Judged.{handed}
use Rattle.float.proofs.Quests.{bfc_not_asked, bfc_asks}
use Rattle.float.proofs.ask.bfc_quest.Goals as goal

pub returns-in_err-clear : goal.returns-in_err-clear
returns-in_err-clear c = bfc_not_asked _ _ c.plus_zero-y.ensures c.plus_zero.ensures c.plus_zero-2.ensures c.plus_zero-3.ensures c.plus_zero-4.ensures c.check_bfc.ensures c.in_err-clear.was (handed _ c.from_residual.ensures.1)

pub returns : goal.returns
returns c = bfc_asks _ _ c.plus_zero-y.ensures c.plus_zero.ensures c.plus_zero-2.ensures c.plus_zero-3.ensures c.plus_zero-4.ensures c.check_bfc.ensures c.in_ok-clear.was c.quest_of.ensures
