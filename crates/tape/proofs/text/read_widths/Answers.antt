-- `tape::text::read_widths` meets its contract: the widths so far stand.
use mathlib.Core.Path.{sym, ◌∙◌}
use native.Mathlib.Omega.{arith}
use lib.Ieee.{nan}
use Rattle.tape.proofs.Texts.{floats_length, float_at, writing_more, writing_done}
use Rattle.tape.proofs.text.read_widths.Goals as goal

pub loop-i-preserved : goal.loop-i-preserved
loop-i-preserved c = let a = c.args in let e = floats_length a.n a.text.now 2 in writing_more _ _ (omega (arith, c.loop-i-test.true)) (omega (arith, c.requires.1)) (c.f32_at.ensures ∙ sym (float_at a.n a.text.now 2 c.loop-i.i nan c.loop-i-test.true)) c.loop-i.invariant

pub returns : goal.returns
returns c = let a = c.args in writing_done _ c.loop-i.invariant (floats_length a.n a.text.now 2) c.loop-i-test.false
