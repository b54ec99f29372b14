-- `float::hold::head_after` meets its contract: each field is what its leaf answers.
use Rattle.float.proofs.Coded.{head_code}
use Rattle.float.proofs.hold.head_after.Goals as goal

pub returns : goal.returns
returns c =
    let s = c.args in
    head_code s.head s.a s.p
    c.bottom_after.ensures
    c.bottom_after-2.ensures
    c.lower.ensures
    c.lower-2.ensures
    c.min.ensures
    c.number_after.ensures
    c.number_after-2.ensures
