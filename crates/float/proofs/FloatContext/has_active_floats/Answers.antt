-- `float::FloatContext::has_active_floats` meets its contract: the check decides, then whether a band is found.
use Rattle.std.proofs.Common.{ℕ, ltb, List, length, ap, ◌∙◌}
use Rattle.float.specs.declared.Segment.{Segment}
use Rattle.float.specs.Bands.{first_below}
use Rattle.float.specs.Slot.{active}
use Rattle.float.proofs.Answers.{active_passed, active_refused}
use Rattle.float.proofs.Judged.{handed}
use Rattle.float.proofs.FloatContext.has_active_floats.Goals as goal

pub returns-in_err-check_offset : goal.returns-in_err-check_offset
returns-in_err-check_offset c = handed _ c.from_residual.ensures.1 ∙ active_refused _ _ c.plus_zero-y.ensures c.check_offset.ensures c.in_err-check_offset.was

pub returns : goal.returns
unfolding active
returns c =
    let b = c.live-bands in
    let y = c.plus_zero-y.result in
    active_passed _ _ c.plus_zero-y.ensures c.check_offset.ensures c.in_ok-check_offset.was
    (ap (λ (i : ℕ). ltb i (length b.result.now)) c.first_below.ensures ∙ ap (λ (l : List Segment). ltb (first_below l 0 y) (length l)) b.ensures)
