-- `float::FloatContext::innermost` meets its contract: a band with a number is read, and none is told.
use Rattle.std.proofs.Common.{ℕ, get_or, sym, refl, ap, ◌∙◌, arith, [], Option, None}
use Rattle.float.specs.declared.FloatDirection.{FloatDirection}
use Rattle.float.specs.Bands.{none}
use Rattle.float.specs.Page.{page_of}
use Rattle.float.specs.Slot.{innermost, innermost_on}
use Rattle.float.proofs.Judged.{read, coded, no_code}
use Rattle.float.proofs.Touched.{none_told}
use Rattle.float.proofs.FloatContext.innermost.Goals as goal

pub returns-in-Some : goal.returns-in-Some
unfolding page_of
returns-in-Some c =
    let p = c.args.self.now in
    c.innermost_in.ensures (page_of p) p.bands (omega arith) refl (ap (λ (i : ℕ). get_or p.bands i none) c.min.ensures)
    ∙ sym (ap (λ (b : Option ℕ). innermost (page_of p) b c.args.side) c.in-Some.is)

pub returns-in_err-try_from-in-None : goal.returns-in_err-try_from-in-None
returns-in_err-try_from-in-None c = none_told _ _ c.in-None.is (no_code [] None _ _ c.try_from.ensures c.in_err-try_from-in-None.was _ c.from_residual.ensures.1)

pub returns-in_ok-try_from-in-None : goal.returns-in_ok-try_from-in-None
returns-in_ok-try_from-in-None c = none_told _ _ c.in-None.is (coded (read _ c.try_from.ensures c.in_ok-try_from-in-None.was) (λ (d : FloatDirection). innermost_on d [] None) refl)
