-- `float::hold::admit` meets its contract: the refusals in their order, then rules 1 and 2.
use Rattle.std.proofs.Common.{sym, subst}
use Rattle.float.specs.Hold.{Admits}
use Rattle.float.specs.Place.{Call}
use Rattle.float.proofs.Admitted.{refused_input, refused_room, admits}
use Rattle.float.proofs.Judged.{handed}
use Rattle.float.proofs.hold.admit.Goals as goal

pub returns-in_err-side : goal.returns-in_err-side
returns-in_err-side c =
    let s = c.args in
    let d : Call = record { side = s.side; clear = s.clear; width = s.width; height = s.height; min_y = s.min_y; left = s.left; right = s.right } in
    subst (Admits s.head d) (sym (handed _ c.from_residual.ensures.1))
    (refused_input s.head d _ _ _ _ _ c.plus_zero-w.ensures c.plus_zero-h.ensures c.plus_zero-m.ensures c.plus_zero-l.ensures c.plus_zero-r.ensures _ c.check_box.ensures _ c.in_err-side.was)

pub returns-then-head-ge64 : goal.returns-then-head-ge64
returns-then-head-ge64 c =
    let s = c.args in
    refused_room s.head (record { side = s.side; clear = s.clear; width = s.width; height = s.height; min_y = s.min_y; left = s.left; right = s.right }) _ _ _ _ _
    c.plus_zero-w.ensures
    c.plus_zero-h.ensures
    c.plus_zero-m.ensures
    c.plus_zero-l.ensures
    c.plus_zero-r.ensures
    _ c.check_box.ensures
    _ _ c.in_ok-side.was
    c.if-head-ge64.true

pub returns : goal.returns
returns c =
    let s = c.args in
    admits s.head (record { side = s.side; clear = s.clear; width = s.width; height = s.height; min_y = s.min_y; left = s.left; right = s.right }) _ _ _ _ _
    c.plus_zero-w.ensures
    c.plus_zero-h.ensures
    c.plus_zero-m.ensures
    c.plus_zero-l.ensures
    c.plus_zero-r.ensures
    _ c.check_box.ensures
    _ _ c.in_ok-side.was
    c.if-head-ge64.false
    _ c.min.ensures
    _ c.ask_of.ensures
    _ c.raise_to-top.ensures
    _ c.cleared-cleared.ensures
    _ c.raise_to.ensures
    _ c.max.ensures
