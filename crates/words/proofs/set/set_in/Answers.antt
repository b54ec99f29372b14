-- `words::set::set_in` meets its contract: the numbers are cleaned and checked, then the lines are set.
use Rattle.std.proofs.Common.{Err, sym, ap, ◌∙◌}
use Rattle.std.proofs.lemmas.Result.{err_from_is_err_and}
use Rattle.words.specs.Laid.{bands_of}
use Rattle.words.specs.Lines.{answered, handed}
use Rattle.words.proofs.Laid.{bands_read}
use Rattle.words.proofs.Going.{on_passed, on_refused, cleaned_is}
use Rattle.words.proofs.set.set_in.Goals as goal

pub returns-in_err-check_text : goal.returns-in_err-check_text
unfolding answered handed
returns-in_err-check_text c =
    let p = err_from_is_err_and c.from_residual.result c.from_residual.ensures.1 in
    let e = cleaned_is _ c.plus_zero-g.ensures c.plus_zero-h.ensures c.plus_zero-y.ensures c.plus_zero-l.ensures c.plus_zero-r.ensures in
    ap (λ r. handed r c.args.set.now) (p.1 ∙ ap Err p.2) ∙ ap answered (on_refused _ _ _ _ _ e (sym (c.in_err-check_text.ensures _ c.judge_widths.ensures)))

pub returns : goal.returns
returns c =
    let e = cleaned_is _ c.plus_zero-g.ensures c.plus_zero-h.ensures c.plus_zero-y.ensures c.plus_zero-l.ensures c.plus_zero-r.ensures in
    let b = ap bands_of c.as_chunks.ensures.front ∙ bands_read c.args.bands.now in
    c.set_lines.ensures ∙ ap answered (on_passed _ _ _ _ _ b e (sym (c.in_ok-check_text.ensures _ c.judge_widths.ensures)))
