-- `float::content::content_slot` meets its contract: the cases of the match are those of the definition.
use Rattle.float.proofs.Slots.{content_quiet, content_past, content_at_lem}
use Rattle.float.proofs.content.content_slot.Goals as goal

pub returns-in-Quiet : goal.returns-in-Quiet
returns-in-Quiet c = λ p ew read. content_quiet p _ c.in-Quiet.is (c.content_at.ensures p ew)

pub returns-in-Past : goal.returns-in-Past
returns-in-Past c = λ p ew read. content_past p _ c.in-Past.is (c.content_at-in-Past.ensures p ew)

pub returns-in-At : goal.returns-in-At
returns-in-At c = λ p ew read. content_at_lem p _ c.in-At.is read c.larger-at.ensures c.beside_band.ensures (c.content_at-in-At.ensures p ew)
