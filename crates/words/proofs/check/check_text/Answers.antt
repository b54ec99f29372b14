-- `words::check::check_text` meets its contract: five numbers more, then the verdict.
use lib.Ieee.{of_bits}
use Rattle.f32_laws.specs.Numbers.{zero+}
use Rattle.words.proofs.Judging.{one, more, checked}
use Rattle.words.proofs.check.check_text.Goals as goal

pub returns : goal.returns
unfolding zero+ of_bits
returns c = λ ws j. checked _ j (more c.finite.ensures c.size_allowed.ensures (more c.finite-2.ensures c.size_allowed-2.ensures (more c.finite-3.ensures c.offset_allowed.ensures (more c.finite-4.ensures c.size_allowed-3.ensures (one c.finite-5.ensures c.size_allowed-4.ensures))))) c.verdict.ensures
