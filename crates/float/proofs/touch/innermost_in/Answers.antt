-- `float::touch::innermost_in` meets its contract: what is found is told.
use Rattle.float.specs.declared.FloatDirection.{FloatDirection}
use Rattle.std.proofs.Common.{Some}
use Rattle.float.specs.Slot.{innermost, innermost_on}
use Rattle.float.proofs.Judged.{read, coded, no_code}
use Rattle.float.proofs.Touched.{found_in}
use Rattle.float.proofs.touch.innermost_in.Goals as goal

pub returns-in_err-side : goal.returns-in_err-side
unfolding innermost
returns-in_err-side c = λ p bs long live eb. no_code _ _ _ _ c.try_from.ensures c.in_err-side.was _ c.from_residual.ensures.1

pub returns : goal.returns
unfolding innermost
returns c = λ p bs long live eb.
    coded (read _ c.try_from.ensures c.in_ok-side.was) (λ (d : FloatDirection). innermost_on d p.bands (Some c.args.k))
    (found_in p bs long c.args.count _ c.args.k live c.min.ensures c.args.b eb _ _ c.found.ensures)
