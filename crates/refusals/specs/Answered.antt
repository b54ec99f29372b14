-- What it is to answer a refusal, by the definitions that the calls' contracts name. Definitions only.
use Rattle.std.specs.Prelude.{ℕ, suc, ◌≡◌, List, [], ◌∷◌, ℤ, pos, negsuc, Option, Some, None}
use Rattle.float.specs.declared.FloatContext.{FloatContext}
use Rattle.float.specs.Answers.{Said, refused, values, count, said_place, said_done, said_content, said_bfc, said_started, said_yes_no, said_threshold, said_innermost}
use Rattle.float.specs.Page.{page_of}
use Rattle.float.specs.Place.{place_of, width_of}
use Rattle.float.specs.Slot.{has_active_floats, cleared_threshold, innermost as innermost_of, content as content_of, bfc as bfc_of}
use Rattle.float.specs.Calculator.{add_of}
use Rattle.tape.specs.declared.record.Record.{Record}
use Rattle.tape.specs.Bytes.{decimal, row}
use Rattle.tape.specs.Tape.{start_of, add_to, result_line, lines_of, returned}
use Rattle.refusals.specs.Numbered.{Asked, width, active, box, content, bfc, threshold, innermost, start, add_box, result, lines}
use Rattle.float.specs.declared.FloatIntrinsicWidthCalculator.{FloatIntrinsicWidthCalculator}

-- what `run_tape` returns: how many bytes the lines have, or a refusal's number below zero
abbrev pub said_returned : ℤ → Said
said_returned (pos k) = values (count k ∷ [])
said_returned (negsuc k) = refused (suc k)

-- the line R n
abbrev pub refusal : ℕ → List ℕ
refusal n = row 82 (decimal n ∷ [])

-- refusal n is answered; where there is no calculator to be called, it is printed by the tape
abbrev pub Refuses : FloatContext → Option FloatIntrinsicWidthCalculator → Asked → ℕ → Type 0
Refuses p q (width w) n = said_done (width_of p w).answer ≡ refused n
Refuses p q (active y) n = said_yes_no (has_active_floats (page_of p) y) ≡ refused n
Refuses p q (box c) n = said_place (place_of p c).answer ≡ refused n
Refuses p q (content c) n = said_content (content_of (page_of p) c) ≡ refused n
Refuses p q (bfc c) n = said_bfc (bfc_of (page_of p) c) ≡ refused n
Refuses p q (threshold k) n = said_threshold (cleared_threshold (page_of p) k) ≡ refused n
Refuses p q (innermost i s) n = said_innermost (innermost_of (page_of p) i s) ≡ refused n
Refuses p q (start m) n = said_started (start_of m) ≡ refused n
Refuses p (Some c) (add_box w s k) n = said_done (add_of c w s k).answer ≡ refused n
Refuses p None (add_box w s k) n = (add_to None w s k).line ≡ refusal n
Refuses p q result n = result_line q ≡ refusal n
Refuses p q (lines t a) n = said_returned (returned (lines_of t) a) ≡ refused n

-- the call that a record of a tape makes; a fresh page is no call that can be refused
abbrev pub asked : Record → List Asked
asked Record.Fresh = []
asked (Record.Width w) = width w ∷ []
asked (Record.Place side clear w h y l r) = box (record { side = side; clear = clear; width = w; height = h; min_y = y; left = l; right = r }) ∷ []
asked (Record.Content y l r clear after) = content (record { min_y = y; left = l; right = r; clear = clear; after = after }) ∷ []
asked (Record.Bfc y l r ml mr d clear after) = bfc (record { min_y = y; left = l; right = r; left_margin = ml; right_margin = mr; direction = d; clear = clear; after = after }) ∷ []
asked (Record.Start mode) = start mode ∷ []
asked (Record.Add w side clear) = add_box w side clear ∷ []
asked Record.Result = result ∷ []
