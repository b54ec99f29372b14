-- `float::bfc::bfc_slot` meets its contract: the cases of the match are those of the definition.
use Rattle.float.proofs.Slots.{bfc_quiet, bfc_past, bfc_at_lem}
use Rattle.float.proofs.bfc.bfc_slot.Goals as goal

pub returns-in-Quiet : goal.returns-in-Quiet
returns-in-Quiet c = λ p ew band last. bfc_quiet p _ _ c.in-Quiet.is c.beside_none.ensures (c.bfc_at.ensures p ew)

pub returns-in-Past : goal.returns-in-Past
returns-in-Past c = λ p ew band last. bfc_past p _ _ c.in-Past.is last c.larger-below.ensures c.beside_none-in-Past.ensures (c.bfc_at-in-Past.ensures p ew)

pub returns-in-At : goal.returns-in-At
returns-in-At c = λ p ew band last. bfc_at_lem p _ _ c.in-At.is band c.larger-at.ensures c.beside_both-boxes.ensures (c.bfc_at-in-At.ensures p ew)
