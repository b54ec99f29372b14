-- `tape::record::after_at` meets its contract: the test decides both.
use mathlib.Core.Path.{sym, ◌∙◌}
use borrow.Author.Tests.{eq-eqb, ne_eqb}
use Rattle.tape.specs.Record.{after_at}
use Rattle.tape.proofs.record.after_at.Goals as goal

pub returns-then-n : goal.returns-then-n
unfolding after_at
returns-then-n c = simp (eq-eqb _ 65535 (sym c.u16_at-n.ensures ∙ c.if-n.true))

pub returns-else-n : goal.returns-else-n
unfolding after_at
returns-else-n c = simp (ne_eqb _ 65535 (λ e. c.if-n.false (c.u16_at-n.ensures ∙ e))) (cc)
