-- `tape::after::innermost` meets its contract: the run leaves the page after the tape.
use Rattle.std.specs.Prelude.{Some}
use mathlib.Core.Path.{ap, ◌∙◌}
use mir.Syntax.{w64}
use mir.ValLaws.{to_z-of_z}
use Rattle.float.specs.declared.FloatContext.{FloatContext}
use Rattle.float.specs.Page.{page_of}
use Rattle.float.specs.Slot.{innermost}
use Rattle.tape.specs.Tape.{returned_box, innermost_after}
use Rattle.tape.proofs.Blank.{blank_new}
use Rattle.tape.proofs.after.innermost.Goals as goal

pub returns : goal.returns
unfolding innermost_after
returns c =
    let a = c.args in
    to_z-of_z w64 c.returned_box.result (record { sfits = c.returned_box.type_inv })
    ∙ c.returned_box.ensures
    ∙ ap returned_box (c.innermost.ensures ∙ ap (λ (p : FloatContext). innermost (page_of p) (Some a.band) a.side) (c.follow.ensures c.new-state.ensures))

pub follow-requires : goal.follow-requires
follow-requires c = blank_new c.new-state.ensures
