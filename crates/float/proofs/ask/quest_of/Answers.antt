-- `float::ask::quest_of` meets its contract: its calls give what the definition names, of a page with no band.
use Rattle.std.proofs.Common.{[], refl}
use Rattle.float.specs.Page.{page_of}
use Rattle.float.proofs.Quests.{quest_made, page_in}
use Rattle.float.proofs.ask.quest_of.Goals as goal

pub returns : goal.returns
unfolding page_of
returns c = let a = c.args in
    quest_made a.head a.clear a.after a.y c.min-n.ensures c.first_allowed.ensures c.min.ensures (c.cleared-cleared.ensures (page_in a.head [] []) refl refl) c.raise_to.ensures
