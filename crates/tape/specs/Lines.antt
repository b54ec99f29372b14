-- The line of an answer, by its letter. Definitions only.
use Rattle.std.specs.Prelude.{ℕ, List, [], ◌∷◌, Option, Some, None, Result, Ok, Err, ⊤}
use Rattle.float.specs.declared.Refusal.{Refusal}
use Rattle.float.specs.Refuse.{number_of}
use Rattle.tape.specs.Bytes.{float, decimal, row}
use Rattle.float.specs.declared.Position.{Position}
use Rattle.float.specs.declared.ContentSlot.{ContentSlot}
use Rattle.float.specs.declared.BfcSlot.{BfcSlot}

-- R number
unfoldable pub refused_line : Refusal → List ℕ
refused_line n = row 82 (decimal (number_of n) ∷ [])

-- W, A: nothing but the letter where the call is accepted
unfoldable pub done_line : ℕ → Result ⊤ Refusal → List ℕ
done_line letter (Ok _) = row letter []
done_line letter (Err n) = refused_line n

-- P x y steps
unfoldable pub place_line : Result Position Refusal → List ℕ
place_line (Ok s) = row 80 (float s.x ∷ float s.y ∷ decimal s.steps ∷ [])
place_line (Err n) = refused_line n

-- a missing band is -
unfoldable pub band : Option ℕ → List ℕ
band None = 45 ∷ []
band (Some i) = decimal i

-- C band x y width
unfoldable pub content_line : Result ContentSlot Refusal → List ℕ
content_line (Ok s) = row 67 (band s.band ∷ float s.x ∷ float s.y ∷ float s.width ∷ [])
content_line (Err n) = refused_line n

-- B band x y border stretch
unfoldable pub bfc_line : Result BfcSlot Refusal → List ℕ
bfc_line (Ok s) = row 66 (band s.band ∷ float s.x ∷ float s.y ∷ float s.border_width ∷ float s.stretch_width ∷ [])
bfc_line (Err n) = refused_line n
