-- `tape::step::State::renew` meets its contract: both arrays are those of a fresh page, and so is the rest.
use Rattle.std.proofs.Common.{refl}
use Rattle.float.specs.Page.{fresh_context}
use Rattle.float.proofs.Empty.{zero_bits}
use Rattle.tape.specs.Tape.{fresh_state}
use Rattle.tape.proofs.Blank.{bands_left, boxes_left}
use Rattle.tape.proofs.step.State.renew.Goals as goal

pub blank_bands-requires : goal.blank_bands-requires
blank_bands-requires c = bands_left _ c.requires

pub blank_boxes-requires : goal.blank_boxes-requires
blank_boxes-requires c = boxes_left _ c.requires

pub returns : goal.returns
unfolding fresh_state fresh_context
returns c = rw (zero_bits, c.blank_bands.ensures, c.blank_boxes.ensures) (refl)
