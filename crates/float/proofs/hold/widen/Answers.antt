-- `float::hold::widen` meets its contract: each answer is that of the lowest test that fails, whatever stands in the arrays.
use Rattle.std.proofs.Common.{sym, subst}
use Rattle.float.specs.Head.{page_with}
use Rattle.float.specs.Hold.{Widens}
use Rattle.float.proofs.Judged.{handed}
use Rattle.float.proofs.Placing.{width_refused, width_fixed, width_set}
use Rattle.float.proofs.hold.widen.Goals as goal

pub returns-in_err-check_size : goal.returns-in_err-check_size
returns-in_err-check_size c = λ bs xs l m.
    subst (Widens c.args.head bs xs c.args.width) (sym (handed _ c.from_residual.ensures.1))
    (sym (width_refused (page_with c.args.head bs xs) _ _ _ c.plus_zero-w.ensures c.check_size.ensures _ c.in_err-check_size.was))

pub returns-then-head-gt0 : goal.returns-then-head-gt0
returns-then-head-gt0 c = λ bs xs l m. sym (width_fixed (page_with c.args.head bs xs) _ _ _ c.plus_zero-w.ensures c.check_size.ensures m c.in_ok-check_size.was c.if-head-gt0.true)

pub returns : goal.returns
returns c = λ bs xs l m. sym (width_set (page_with c.args.head bs xs) _ _ _ c.plus_zero-w.ensures c.check_size.ensures _ l c.in_ok-check_size.was c.if-head-gt0.false c.min.ensures)
