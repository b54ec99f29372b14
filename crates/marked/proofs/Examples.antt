-- The definitions give every figure in the table.
use Rattle.std.specs.Prelude.{◌≡◌, refl, true}
use mathlib.Core.List.{flat_map}
use Rattle.std.specs.Int.Count.{count_trailing_zeros}
use Rattle.std.specs.Float.Ieee.{add, sub, lt, le, eq, of_bits, of_fields, of_int, neg, to_bits, sum, round, units, odd, size, span, climb}
use Rattle.f32_laws.specs.Numbers.{larger, smaller, zero+, tol}
use Rattle.float.specs.Numbers.{plus_zero, finite, within, in_reach, all_finite, all_allowed}
use Rattle.float.specs.Refuse.{check_of}
use Rattle.float.specs.Bands.{split_at, mark_all, last_end, first_below}
use Rattle.float.specs.Page.{page_of, stored, front, fresh_context}
use Rattle.float.specs.Clear.{lower, raise_to, cleared}
use Rattle.float.specs.Fit.{passes, placed_at, fits}
use Rattle.float.specs.Search.{joined, taller, high_turn, join_turn, end_turn, fit_turn, start_turn, search, search_from}
use Rattle.float.specs.Place.{lowest, spot_of, walked, make, high, flat, put, admitted, checked, place, place_of, width_check, set_width, width_of}
use Rattle.float.specs.Slot.{depth_of, innermost, active, seek, content_slot, content}
use Rattle.words.specs.Text.{check_of as check_text}
use Rattle.words.specs.Lines.{span_over, span_at, more, next_start, moved_to, turn_at, set_from, set_on, set_words, answered, line_values}
use Rattle.tape.specs.Bytes.{f32_at, digits, float as float_text, decimals, decimal, fields}
use Rattle.tape.specs.Record.{after_at, read_of}
use Rattle.tape.specs.Lines.{refused_line, done_line, place_line, band, content_line}
use Rattle.tape.specs.Tape.{fresh_state, step_of, run, lines_of, runs, page_after, depth_after, broken}
use Rattle.tape.specs.Text.{floats_at, set_line, told_lines, or_else, words_after}
use Rattle.marked.specs.Table.{all_written, same, holds, first_tape, first_lines, first_text, first_words, table}

pub marked_examples : holds table fresh_context ≡ true
unfolding span_over span_at more next_start moved_to turn_at set_from set_on set_words answered line_values check_text depth_of innermost holds same all_written table first_tape first_lines page_of stored front fresh_context lower raise_to cleared split_at mark_all last_end first_below passes placed_at fits joined taller high_turn join_turn end_turn fit_turn start_turn search search_from plus_zero finite within in_reach all_finite all_allowed check_of lowest spot_of walked make high flat put admitted checked place place_of width_check set_width width_of active seek content_slot content f32_at digits float_text decimals decimal fields after_at read_of refused_line done_line place_line band content_line fresh_state step_of run lines_of runs page_after depth_after broken floats_at set_line told_lines or_else words_after first_text first_words flat_map larger smaller zero+ tol add sub lt le eq of_bits of_fields of_int neg to_bits sum round units odd size span climb count_trailing_zeros
marked_examples = refl
