-- `tape::text::set_text` meets its contract: what is set beside the page that the run leaves is set on the page after the tape.
use Rattle.tape.proofs.Blank.{blank_new}
use Rattle.tape.proofs.AfterText.{check_row, refusal_row, lines_row}
use Rattle.tape.proofs.Room.{passed_on}
use Rattle.tape.proofs.text.set_text.Goals as goal

pub returns-then-n-gt512 : goal.returns-then-n-gt512
returns-then-n-gt512 c = passed_on _ (record { sfits = c.told_number.type_inv }) (check_row _ _ _ c.refused_text.ensures c.text_number_of.ensures) c.told_number.ensures

pub shared_ref_as_front-lines : goal.shared_ref_as_front-lines
shared_ref_as_front-lines c = (lines_row _ _ c.requires.1 c.figures_at-f.ensures c.read_widths.ensures (c.follow.ensures c.new-state.ensures) c.set_words-set.ensures _ c.in-Ok.is).1

pub returns-in-Ok : goal.returns-in-Ok
returns-in-Ok c =
    let w = lines_row _ _ c.requires.1 c.figures_at-f.ensures c.read_widths.ensures (c.follow.ensures c.new-state.ensures) c.set_words-set.ensures _ c.in-Ok.is in
    passed_on _ (record { sfits = c.told_lines.type_inv }) w.2 c.told_lines.ensures

pub returns-in-Err : goal.returns-in-Err
returns-in-Err c =
    passed_on _ (record { sfits = c.told_number-in-Err.type_inv })
    (refusal_row _ _ c.requires.1 c.figures_at-f.ensures c.read_widths.ensures (c.follow.ensures c.new-state.ensures) c.set_words-set.ensures _ c.in-Err.is c.text_number_of-in-Err.ensures) c.told_number-in-Err.ensures

pub follow-requires : goal.follow-requires
follow-requires c = blank_new c.new-state.ensures
