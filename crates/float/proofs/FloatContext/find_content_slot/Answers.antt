-- `float::FloatContext::find_content_slot` meets its contract: it is both phases, with both looks among the page's own bands.
use Rattle.std.proofs.Common.{◌≡◌, ℕ, length, get_or, sym, refl, ap, ◌∙◌, arith}
use Rattle.float.specs.Bands.{none}
use Rattle.float.proofs.Judged.{handed}
use Rattle.float.proofs.Quests.{content_whole}
use Rattle.float.proofs.FloatContext.find_content_slot.Goals as goal

pub returns-in_err-q : goal.returns-in_err-q
returns-in_err-q c = handed _ c.from_residual.ensures.1 ∙ sym (c.content_quest.ensures.refused _ c.in_err-q.was _)

pub returns : goal.returns
returns c =
    let p = c.args.self.now in
    let full : length p.bands ≡ 96 = omega arith in
    let asked = sym c.content_quest.ensures.is ∙ c.in_ok-q.was in
    content_whole p c.head-head.ensures _ (c.content_found.ensures _ p.bands p.boxes full asked refl refl c.looked-i.ensures (ap (λ (m : ℕ). get_or p.bands m none) c.min.ensures))
