-- `tape::step::not_added` meets its contract: a calculator of min-content refuses the same.
use mathlib.Core.Path.{sym, ap, ◌∙◌}
use Rattle.float.specs.Calculator.{calculator_of}
use Rattle.float.specs.declared.Added.{Added}
use Rattle.tape.proofs.Stepping.{not_added_lem}
use Rattle.tape.proofs.step.not_added.Goals as goal

pub returns-in-Ok-answer : goal.returns-in-Ok-answer
returns-in-Ok-answer c = not_added_lem _ _ _ _ (sym c.new.ensures ∙ c.in-Ok.is) (ap (λ (r : Added). r.answer) (sym c.add_float.ensures) ∙ c.in-Ok-answer.is)

pub returns-in-Err-answer : goal.returns-in-Err-answer
returns-in-Err-answer c = not_added_lem _ _ _ _ (sym c.new.ensures ∙ c.in-Ok.is) (ap (λ (r : Added). r.answer) (sym c.add_float.ensures) ∙ c.in-Err-answer.is)

pub returns-in-Err : goal.returns-in-Err
unfolding calculator_of
returns-in-Err c = cc (c.new.ensures, c.in-Err.is)
