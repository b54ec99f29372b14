-- `words::beside::passed` meets its contract: where the bands rise the loop counts what the definition counts.
use Rattle.std.proofs.Common.{ap, arith}
use Rattle.float.specs.Bands.{first_below}
use Rattle.words.specs.Laid.{bands_of}
use Rattle.std.proofs.Math.ListN.{drop_of_length-le}
use Rattle.words.proofs.Spans.{below_yes, below_no, passed_is}
use Rattle.words.proofs.beside.passed.Goals as goal

pub returns-then-y-end-clause-count : goal.returns-then-y-end-clause-count
returns-then-y-end-clause-count c = passed_is _ _ _ c.if-not-sorted.false (omega (arith, c.loop-i.invariant, below_yes _ _ c.loop-i-test.true _ c.if-y-end.true))

pub loop-i-preserved : goal.loop-i-preserved
loop-i-preserved c = omega (arith, c.loop-i.invariant, below_no _ _ c.loop-i-test.true _ c.if-y-end.false)

pub returns-clause-count : goal.returns-clause-count
unfolding first_below
returns-clause-count c =
    let z = ap (λ l. first_below (bands_of l) 0 c.args.y) (drop_of_length-le c.args.bands.now c.loop-i-test.false) in
    passed_is _ _ _ c.if-not-sorted.false (omega (arith, c.loop-i.invariant, c.loop-i.auto.i-end, c.loop-i-test.false, z))
