-- `words::beside::last_end` meets its contract: the last band's end.
use Rattle.words.proofs.Laid.{end_none, end_last}
use Rattle.words.proofs.beside.last_end.Goals as goal

pub returns-in-empty : goal.returns-in-empty
returns-in-empty c = end_none _ _ c.in-empty.len_below

pub returns-in-len1-up : goal.returns-in-len1-up
returns-in-len1-up c = end_last _ _ c.in-len1-up.len_at_least
