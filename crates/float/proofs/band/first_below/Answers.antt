-- `float::band::first_below` meets its contract: the loop's invariant is that what is sought from i on is what was sought.
use Rattle.std.proofs.Common.{ℕ, sym, ap, ◌∙◌, add-one, arith}
use Rattle.float.specs.Bands.{first_below}
use Rattle.float.proofs.Bands.{found, next, past, clamped}
use Rattle.float.proofs.band.first_below.Goals as goal

pub loop-i-init : goal.loop-i-init
loop-i-init c = let a = c.args in sym (ap (λ (k : ℕ). first_below a.bands.now k a.y) c.min-i.ensures ∙ clamped a.bands.now a.from a.y)

pub returns-then-bands-i : goal.returns-then-bands-i
returns-then-bands-i c = sym (c.loop-i.invariant ∙ found c.args.y c.args.bands.now c.loop-i.i c.loop-i-test.true c.if-bands-i.true)

pub loop-i-preserved : goal.loop-i-preserved
loop-i-preserved c = c.loop-i.invariant ∙ rw add-one (next c.args.y c.args.bands.now c.loop-i.i c.loop-i-test.true c.if-bands-i.false)

pub returns : goal.returns
returns c = sym (c.loop-i.invariant ∙ past c.args.y c.args.bands.now c.loop-i.i (omega arith))
