-- `tape::step::blank_boxes` meets its contract: what held something is filled anew, and the rest is blank.
use Rattle.std.proofs.Common.{arith}
use Rattle.float.specs.Page.{fresh_context}
use Rattle.float.proofs.Empty.{empty_box}
use Rattle.tape.proofs.Blank.{all_blank}
use Rattle.tape.proofs.step.blank_boxes.Goals as goal

pub returns : goal.returns
unfolding fresh_context
returns c = all_blank c.args.boxes.now c.args.count 64 c.min.result _ (omega arith) c.requires c.min.ensures (empty_box _ c.default.ensures) (c.fill.ensures.after (λ y h. h))
