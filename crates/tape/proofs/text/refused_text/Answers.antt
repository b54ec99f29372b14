-- `tape::text::refused_text` meets its contract: more than 512 words never pass.
use native.Mathlib.Omega.{arith}
use Rattle.tape.proofs.AfterText.{check_passed}
use Rattle.tape.proofs.text.refused_text.Goals as goal

pub returns-in-Ok : goal.returns-in-Ok
returns-in-Ok c = absurd (omega (arith, c.requires.0, check_passed _ c.requires.2 c.figures_at-f.ensures c.judge_text-judged.ensures c.plus_zero.ensures c.plus_zero-2.ensures c.plus_zero-3.ensures c.plus_zero-4.ensures c.plus_zero-5.ensures c.check_text-check.ensures c.in-Ok.is))
