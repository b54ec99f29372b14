-- `float::search::opened` meets its contract: the definition of joining, from 0.
use lib.Ieee.{of_bits}
use Rattle.f32_laws.specs.Numbers.{zero+}
use Rattle.float.specs.Search.{joined}
use Rattle.float.proofs.search.opened.Goals as goal

pub returns : goal.returns
unfolding of_bits zero+ joined
returns c = cc
