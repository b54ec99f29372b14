-- `tape::after::depth` meets its contract: the run leaves the page after the tape.
use mathlib.Core.Path.{ap, ◌∙◌}
use mir.Syntax.{w64}
use mir.ValLaws.{to_z-of_z}
use Rattle.float.specs.declared.FloatContext.{FloatContext}
use Rattle.float.specs.Page.{page_of}
use Rattle.float.specs.Slot.{depth_of}
use Rattle.tape.specs.Tape.{returned_height, depth_after}
use Rattle.tape.proofs.Blank.{blank_new}
use Rattle.tape.proofs.after.depth.Goals as goal

pub returns : goal.returns
unfolding depth_after
returns c =
    to_z-of_z w64 c.returned_height.result (record { sfits = c.returned_height.type_inv })
    ∙ c.returned_height.ensures
    ∙ ap returned_height (c.depth.ensures ∙ ap (λ (p : FloatContext). depth_of (page_of p)) (c.follow.ensures c.new-state.ensures))

pub follow-requires : goal.follow-requires
follow-requires c = blank_new c.new-state.ensures
