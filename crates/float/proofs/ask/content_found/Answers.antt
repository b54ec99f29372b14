-- `float::ask::content_found` meets its contract: the check was passed, so the answer is where the search lands.
use Rattle.float.proofs.Quests.{content_answered}
use Rattle.float.proofs.ask.content_found.Goals as goal

pub returns : goal.returns
returns c = λ k bs xs len eq el er f eb. content_answered k _ bs xs len eq c.landed.ensures f eb el er c.plus_zero.ensures c.plus_zero-2.ensures c.content_slot.ensures
