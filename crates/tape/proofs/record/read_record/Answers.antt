-- `tape::record::read_record` meets its contract: the two tests decide.
use Rattle.tape.proofs.Reading.{whole, cut, unknown}
use borrow.Author.Rules.{rules}
use Rattle.tape.proofs.record.read_record.Goals as goal
use Rattle.tape.proofs.record.read_record.Goals.{then-kind-ge8-via-then-kind-ge8, then-kind-ge8-via-else-kind-ge8+then-b-body_len}

pub returns-then-kind-ge8 : goal.returns-then-kind-ge8
returns-then-kind-ge8 c = elim c.then-kind-ge8.branch [ then-kind-ge8-via-then-kind-ge8 w ↦ unknown _ _ (search rules) | then-kind-ge8-via-else-kind-ge8+then-b-body_len w ↦ cut _ _ (search rules) (search rules) ]

pub returns : goal.returns
returns c = whole _ _ (search rules) (search rules) c.read_body.ensures
