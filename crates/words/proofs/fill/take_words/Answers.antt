-- `words::fill::take_words` meets its contract: the loop takes what the definition takes.
use Rattle.std.proofs.Common.{map, ap, arith}
use Rattle.float.specs.Numbers.{plus_zero}
use Rattle.words.specs.Lines.{more}
use Rattle.std.proofs.Math.ListN.{drop_of_length-le}
use Rattle.words.proofs.Taking.{take_none, take_not, take_first, more_yes, more_no}
use Rattle.words.proofs.fill.take_words.Goals as goal

pub returns-in_default-clause-count : goal.returns-in_default-clause-count
returns-in_default-clause-count c = take_none _ _ _ _ c.in_default.len_below

pub returns-then-not-first_fits-clause-count : goal.returns-then-not-first_fits-clause-count
returns-then-not-first_fits-clause-count c = take_not _ _ _ _ c.in-len1-up.len_at_least c.plus_zero-sum.ensures c.first_fits.ensures c.if-not-first_fits.true

pub returns-then-not-wider-room-clause-count : goal.returns-then-not-wider-room-clause-count
returns-then-not-wider-room-clause-count c =
    let t = take_first c.args.e c.args.room c.args.gap c.args.rest.now c.in-len1-up.len_at_least c.plus_zero-sum.ensures c.first_fits.ensures c.if-not-first_fits.false in
    let u = more_no _ _ c.loop-i-test.true _ _ _ c.plus_zero.ensures c.if-not-wider-room.true in
    omega (arith, c.loop-i.invariant, t, u)

pub loop-i-preserved : goal.loop-i-preserved
loop-i-preserved c =
    let u = more_yes _ _ c.loop-i-test.true _ _ _ c.plus_zero.ensures c.if-not-wider-room.false in
    omega (arith, c.loop-i.invariant, u)

pub returns-clause-count : goal.returns-clause-count
unfolding more
returns-clause-count c =
    let t = take_first c.args.e c.args.room c.args.gap c.args.rest.now c.in-len1-up.len_at_least c.plus_zero-sum.ensures c.first_fits.ensures c.if-not-first_fits.false in
    let u = ap (λ l. more c.args.room c.args.gap c.loop-i.sum (map plus_zero l)) (drop_of_length-le _ c.loop-i-test.false) in
    omega (arith, c.loop-i.invariant, t, u)
