-- `float::FloatContext::new` meets its contract: both arrays are their filler, repeated.
use Rattle.std.proofs.Common.{refl}
use Rattle.float.specs.Page.{fresh_context}
use Rattle.float.proofs.Empty.{zero_bits, empty_band, empty_box}
use Rattle.float.proofs.FloatContext.new.Goals as goal

pub returns : goal.returns
unfolding fresh_context
returns c = rw (zero_bits, empty_band _ c.default.ensures, empty_box _ c.default-2.ensures) (refl)
