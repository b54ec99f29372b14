-- `tape::text::judge_text` meets its contract: what was judged so far, and the rest.
use Rattle.std.proofs.Common.{ℕ, map, sym, ap, ◌∙◌, subst, arith}
use lib.Ieee.{nan}
use Rattle.float.specs.Numbers.{plus_zero}
use Rattle.words.specs.Laid.{Judges}
use Rattle.words.proofs.Judging.{judge_goes, judge_ends}
use Rattle.tape.specs.Text.{floats_at}
use Rattle.tape.proofs.Texts.{floats_length, float_at}
use Rattle.tape.proofs.text.judge_text.Goals as goal

pub loop-i-preserved : goal.loop-i-preserved
loop-i-preserved c =
    let a = c.args in
    judge_goes c.loop-i.invariant (omega (arith, c.loop-i-test.true, floats_length a.n a.text.now 2)) _ _ _ (c.plus_zero-w.ensures ∙ ap plus_zero (c.f32_at.ensures ∙ sym (float_at a.n a.text.now 2 c.loop-i.i nan c.loop-i-test.true))) c.finite-all_finite.ensures c.size_allowed-all_allowed.ensures

pub returns : goal.returns
returns c =
    let a = c.args in
    let e = floats_length a.n a.text.now 2 in
    subst (λ (n : ℕ). Judges (map plus_zero (floats_at a.n a.text.now 2)) n (record { finite = c.loop-i.all_finite; allowed = c.loop-i.all_allowed })) e (judge_ends c.loop-i.invariant (omega (arith, c.loop-i-test.false)))
