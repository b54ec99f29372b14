-- `float::ask::bfc_found` meets its contract: the check was passed, so the answer is where the search lands.
use Rattle.std.proofs.Common.{sym, ap, ◌∙◌, Result}
use Rattle.std.specs.Result.{result_unwrap_or}
use Rattle.float.specs.declared.Direction.{Direction}
use Rattle.float.specs.declared.Refusal.{Refusal}
use Rattle.float.specs.Refuse.{direction_of}
use Rattle.float.proofs.Quests.{bfc_answered, direction_read, insets_read}
use Rattle.float.proofs.ask.bfc_found.Goals as goal

pub returns : goal.returns
returns c = λ k bs xs len eq el er fl fr ed f eb ee.
    let i = insets_read k el er fl fr c.plus_zero.ensures c.plus_zero-2.ensures c.plus_zero-3.ensures c.plus_zero-4.ensures c.bfc_insets-insets.ensures in
    let d = c.unwrap_or-direction.ensures ∙ ap (λ (r : Result Direction Refusal). result_unwrap_or r Direction.Rtl) c.try_from.ensures ∙ direction_read c.args.direction in
    bfc_answered k _ bs xs len eq c.landed.ensures f eb ee (d ∙ ap direction_of (sym ed)) i c.bfc_slot.ensures
