-- Answers by the paper: for each case of each answer its number if it is a refusal, else its values. Definitions only.
use Rattle.std.specs.Prelude.{ℕ, Bool, List, [], ◌∷◌, Float, Option, Some, None, Result, Ok, Err, ⊤}
use Rattle.float.specs.Refuse.{number_of}
use Rattle.float.specs.declared.Refusal.{Refusal}
use Rattle.float.specs.declared.Position.{Position}
use Rattle.float.specs.declared.ContentSlot.{ContentSlot}
use Rattle.float.specs.declared.BfcSlot.{BfcSlot}
use Rattle.float.specs.declared.FloatIntrinsicWidthCalculator.{FloatIntrinsicWidthCalculator}

-- a value: an f32, a count or the number of a band or a box, yes or no, or - where there is none
pub data Value : Type 0 where
  float : Float → Value
  count : ℕ → Value
  truth : Bool → Value
  missing : Value

-- what an answer says: the number of a refusal and no value, or the values
pub data Said : Type 0 where
  refused : ℕ → Said
  values : List Value → Said

-- a band's number, a box's or a bottom, if there is one
abbrev pub band : Option ℕ → Value
band None = missing
band (Some i) = count i

abbrev pub box : Option ℕ → Value
box None = missing
box (Some k) = count k

abbrev pub bottom : Option Float → Value
bottom None = missing
bottom (Some y) = float y

-- x, y, steps
abbrev pub said_place : Result Position Refusal → Said
said_place (Ok s) = values (float s.x ∷ float s.y ∷ count s.steps ∷ [])
said_place (Err n) = refused (number_of n)

-- nothing: the width is set, the box is added
abbrev pub said_done : Result ⊤ Refusal → Said
said_done (Ok _) = values []
said_done (Err n) = refused (number_of n)

-- band, x, y, width
abbrev pub said_content : Result ContentSlot Refusal → Said
said_content (Ok s) = values (band s.band ∷ float s.x ∷ float s.y ∷ float s.width ∷ [])
said_content (Err n) = refused (number_of n)

-- band, x, y, border width, stretch width
abbrev pub said_bfc : Result BfcSlot Refusal → Said
said_bfc (Ok s) = values (band s.band ∷ float s.x ∷ float s.y ∷ float s.border_width ∷ float s.stretch_width ∷ [])
said_bfc (Err n) = refused (number_of n)

-- nothing but the calculator itself
abbrev pub said_started : Result FloatIntrinsicWidthCalculator Refusal → Said
said_started (Ok c) = values []
said_started (Err n) = refused (number_of n)

-- yes or no
abbrev pub said_yes_no : Result Bool Refusal → Said
said_yes_no (Ok b) = values (truth b ∷ [])
said_yes_no (Err n) = refused (number_of n)

-- the bottom, if any
abbrev pub said_threshold : Result (Option Float) Refusal → Said
said_threshold (Ok b) = values (bottom b ∷ [])
said_threshold (Err n) = refused (number_of n)

-- the largest bottom, if any
abbrev pub said_depth : Option Float → Said
said_depth b = values (bottom b ∷ [])

-- the box's number, if any
abbrev pub said_innermost : Result (Option ℕ) Refusal → Said
said_innermost (Ok k) = values (box k ∷ [])
said_innermost (Err n) = refused (number_of n)
