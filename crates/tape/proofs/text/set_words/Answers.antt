-- `tape::text::set_words` meets its contract, by which of the four is printed.
use native.Mathlib.Omega.{arith}
use Rattle.tape.proofs.AfterText.{too_long, stops, text_cut, text_whole}
use Rattle.tape.proofs.Room.{passed_on}
use Rattle.tape.proofs.text.set_words.Goals as goal

pub returns-then-tape-gt65536 : goal.returns-then-tape-gt65536
returns-then-tape-gt65536 c = passed_on _ (record { sfits = c.told_letter.type_inv }) (too_long _ _ c.if-tape-gt65536.true) c.told_letter.ensures

pub returns-then-stop-tape : goal.returns-then-stop-tape
returns-then-stop-tape c = passed_on _ (record { sfits = c.told_number.type_inv }) (stops _ _ c.if-tape-gt65536.false c.stop_of-stop.ensures c.if-stop-tape.true) c.told_number.ensures

pub returns-then-text-lt22 : goal.returns-then-text-lt22
returns-then-text-lt22 c = passed_on _ (record { sfits = c.told_number-then-text-lt22.type_inv }) (text_cut _ _ c.if-tape-gt65536.false c.stop_of-stop.ensures c.if-stop-tape.false (λ e. omega (arith, c.if-text-lt22.true, e))) c.told_number-then-text-lt22.ensures

pub returns-then-text-n : goal.returns-then-text-n
returns-then-text-n c = passed_on _ (record { sfits = c.told_number-then-text-n.type_inv }) (text_cut _ _ c.if-tape-gt65536.false c.stop_of-stop.ensures c.if-stop-tape.false (λ e. omega (arith, c.if-text-n.true, c.u16_at-n.ensures, e))) c.told_number-then-text-n.ensures

pub returns : goal.returns
returns c = passed_on _ (record { sfits = c.set_text.type_inv }) (text_whole _ _ c.if-tape-gt65536.false c.stop_of-stop.ensures c.if-stop-tape.false (omega (arith, c.u16_at-n.ensures, c.if-text-n.false))) c.set_text.ensures
