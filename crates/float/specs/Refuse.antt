-- The numbered no: the paper's number of each refusal, the codes, and refusals 1 to 3. Definitions only.
use Rattle.std.specs.Prelude.{ℕ, zero, suc, Bool, cond, List, Result, Ok, Err, ⊤}
use Rattle.float.specs.declared.Refusal.{Refusal}
use Rattle.float.specs.declared.FloatDirection.{FloatDirection}
use Rattle.float.specs.declared.Clear.{Clear}
use Rattle.float.specs.declared.Direction.{Direction}
use Rattle.float.specs.Numbers.{Given, all_finite, all_allowed}

-- the paper's number
abbrev pub number_of : Refusal → ℕ
number_of Refusal.UnknownCode = 1
number_of Refusal.NotFinite = 2
number_of Refusal.OutOfLimits = 3
number_of Refusal.WidthFixed = 4
number_of Refusal.BoxesFull = 5
number_of Refusal.TooFar = 6
number_of Refusal.BandsFull = 7
number_of Refusal.NoCalculator = 8
number_of Refusal.NoRoom = 13

-- what a known code means: sides 0 left, 1 right; clear 0 none, 1 left, 2 right, 3 both; direction 0 Ltr, 1 Rtl
abbrev pub side_of : ℕ → FloatDirection
side_of zero = FloatDirection.Left
side_of (suc n) = FloatDirection.Right

abbrev pub clear_of : ℕ → Clear
clear_of zero = Clear.None
clear_of (suc zero) = Clear.Left
clear_of (suc (suc zero)) = Clear.Right
clear_of (suc (suc (suc n))) = Clear.Both

abbrev pub direction_of : ℕ → Direction
direction_of zero = Direction.Ltr
direction_of (suc n) = Direction.Rtl

-- refusals 1 to 3, the lowest first: each is tested over all codes or all numbers of the call before the next
unfoldable pub check_of : Bool → List Given → Result ⊤ Refusal
check_of known gs =
    cond known
    (cond (all_finite gs)
    (cond (all_allowed gs) (Ok tt) (Err Refusal.OutOfLimits))
    (Err Refusal.NotFinite))
    (Err Refusal.UnknownCode)
