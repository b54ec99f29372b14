-- `float::search::joined` meets its contract: each part by its callee.
use Rattle.float.specs.Search.{joined}
use Rattle.float.proofs.search.joined.Goals as goal

pub returns : goal.returns
unfolding joined
returns c = cc
