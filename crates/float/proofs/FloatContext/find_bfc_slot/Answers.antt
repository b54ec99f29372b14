-- `float::FloatContext::find_bfc_slot` meets its contract: it is both phases, with both looks among the page's own bands.
use Rattle.std.proofs.Common.{◌≡◌, ℕ, length, ◌-◌, get_or, sym, refl, ap, ◌∙◌, arith}
use Rattle.float.specs.Bands.{none}
use Rattle.float.proofs.Judged.{handed}
use Rattle.float.proofs.Quests.{bfc_whole}
use Rattle.float.proofs.FloatContext.find_bfc_slot.Goals as goal

pub returns-in_err-q : goal.returns-in_err-q
returns-in_err-q c = handed _ c.from_residual.ensures.1 ∙ sym (c.bfc_quest.ensures.refused _ c.in_err-q.was _)

pub returns : goal.returns
returns c =
    let p = c.args.self.now in
    let full : length p.bands ≡ 96 = omega arith in
    let asked = sym c.bfc_quest.ensures.is ∙ c.in_ok-q.was in
    bfc_whole p c.head-head.ensures _
    (c.bfc_found.ensures _ p.bands p.boxes full asked refl refl refl refl refl c.looked-i.ensures
    (ap (λ (m : ℕ). get_or p.bands m none) c.min.ensures)
    (ap (λ (m : ℕ). get_or p.bands (c.in_ok-q.q.n - m) none) c.min-2.ensures))
