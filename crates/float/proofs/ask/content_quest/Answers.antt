-- `float::ask::content_quest` meets its contract: its calls clean the numbers and check them as the definition does.
use Rattle.float.proofs.Judged.{handed}
use Rattle.float.proofs.Quests.{content_not_asked, content_asks}
use Rattle.float.proofs.ask.content_quest.Goals as goal

pub returns-in_err-clear : goal.returns-in_err-clear
returns-in_err-clear c = content_not_asked _ _ c.plus_zero-y.ensures c.plus_zero.ensures c.plus_zero-2.ensures c.check_content.ensures c.in_err-clear.was (handed _ c.from_residual.ensures.1)

pub returns : goal.returns
returns c = content_asks _ _ c.plus_zero-y.ensures c.plus_zero.ensures c.plus_zero-2.ensures c.check_content.ensures c.in_ok-clear.was c.quest_of.ensures
