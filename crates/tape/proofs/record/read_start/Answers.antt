-- `tape::record::read_start` meets its contract: each arm has its mode.
use mathlib.Core.Path.{refl, ap}
use lib.Ieee.{Float}
use Rattle.float.specs.declared.AvailableSpace.{AvailableSpace}
use Rattle.tape.specs.Record.{mode_of}
use Rattle.tape.proofs.Reading.{as_mode, unknown_mode}
use Rattle.std.proofs.Common.{arith, Some}
use Rattle.tape.proofs.record.read_start.Goals as goal

pub returns-in-0 : goal.returns-in-0
unfolding mode_of
returns-in-0 c = as_mode 0 _ c.in-0.is (ap (λ (w : Float). Some (AvailableSpace.Definite w)) c.f32_at.ensures)

pub returns-in-1 : goal.returns-in-1
unfolding mode_of
returns-in-1 c = as_mode 1 _ c.in-1.is refl

pub returns-in-2 : goal.returns-in-2
unfolding mode_of
returns-in-2 c = as_mode 2 _ c.in-2.is refl

pub returns-in_default : goal.returns-in_default
returns-in_default c = unknown_mode _ _ (λ e. omega arith) (λ e. omega arith) (λ e. omega arith)
