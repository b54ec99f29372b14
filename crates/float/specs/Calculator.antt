-- The intrinsic width: new, add, result. Definitions only.
use Rattle.std.specs.Prelude.{ℕ, true, cond, ◌&&◌, [], ◌∷◌, nat_lt, Float, Result, Ok, Err, ⊤}
use Rattle.std.specs.Float.{binary32}
use Rattle.std.specs.Float.Ieee.{add}
use Rattle.f32_laws.specs.Numbers.{larger, smaller, zero+}
use Rattle.float.specs.declared.Added.{Added}
use Rattle.float.specs.declared.AvailableSpace.{AvailableSpace}
use Rattle.float.specs.declared.Clear.{Clear}
use Rattle.float.specs.declared.FloatDirection.{FloatDirection}
use Rattle.float.specs.declared.FloatIntrinsicWidthCalculator.{FloatIntrinsicWidthCalculator}
use Rattle.float.specs.declared.Refusal.{Refusal}
use Rattle.float.specs.Numbers.{size, plus_zero, in_reach}
use Rattle.float.specs.Refuse.{side_of, clear_of, check_of}
use Rattle.float.specs.Bands.{on_side, same_side}

-- `new`: all sums 0; a definite width is a number handed in
abbrev pub started_with : AvailableSpace → FloatIntrinsicWidthCalculator
started_with a = record { available = a; left_sum = zero+; right_sum = zero+; total = zero+; widest = zero+ }

unfoldable pub calculator_of : AvailableSpace → Result FloatIntrinsicWidthCalculator Refusal
calculator_of AvailableSpace.MinContent = Ok (started_with AvailableSpace.MinContent)
calculator_of AvailableSpace.MaxContent = Ok (started_with AvailableSpace.MaxContent)
calculator_of (AvailableSpace.Definite w) =
    elim (check_of true (size (plus_zero w) ∷ [])) [ Ok _ ↦ Ok (started_with (AvailableSpace.Definite (plus_zero w))) | Err n ↦ Err n ]

-- the sum x of the side s, zeroed if clear names the side
abbrev pub zeroed : Clear → FloatDirection → Float → Float
zeroed Clear.None s x = x
zeroed Clear.Left s x = on_side s zero+ x
zeroed Clear.Right s x = on_side s x zero+
zeroed Clear.Both s x = zero+

-- the sums l and r after the box, or refusal 6: a side's sum or the two together pass 131,072
abbrev pub summed : FloatIntrinsicWidthCalculator → (width left right : Float) → Added
summed c w l r =
    cond (in_reach l && in_reach r && in_reach (add binary32 l r))
    (record { answer = Ok tt; calculator = record { available = c.available; left_sum = l; right_sum = r; total = larger c.total (add binary32 l r); widest = larger c.widest w } })
    (record { answer = Err Refusal.TooFar; calculator = c })

-- the sum x of the side t with the width w of a box of the side s
abbrev pub plus_on : (box side : FloatDirection) (sum width : Float) → Float
plus_on s t x w = cond (same_side s t) (add binary32 x w) x

-- the cleared sides' sums are zeroed, then the width is added
unfoldable pub added_sums : FloatIntrinsicWidthCalculator → Float → FloatDirection → Clear → Added
added_sums c w s k =
    summed c w
    (plus_on s FloatDirection.Left (zeroed k FloatDirection.Left c.left_sum) w)
    (plus_on s FloatDirection.Right (zeroed k FloatDirection.Right c.right_sum) w)

-- min-content keeps the widest box
abbrev pub added_widest : FloatIntrinsicWidthCalculator → Float → Added
added_widest c w = record { answer = Ok tt; calculator = record { available = c.available; left_sum = c.left_sum; right_sum = c.right_sum; total = larger c.total w; widest = larger c.widest w } }

unfoldable pub added : FloatIntrinsicWidthCalculator → Float → FloatDirection → Clear → AvailableSpace → Added
added c w s k AvailableSpace.MinContent = added_widest c w
added c w s k AvailableSpace.MaxContent = added_sums c w s k
added c w s k (AvailableSpace.Definite a) = added_sums c w s k

-- the codes and the width of a box: refusals 1, 2 and 3
abbrev pub add_check : (width : Float) (side clear : ℕ) → Result ⊤ Refusal
add_check w side clear = check_of (nat_lt side 2 && nat_lt clear 4) (size (plus_zero w) ∷ [])

-- `add_float`: these, then 6
unfoldable pub add_of : FloatIntrinsicWidthCalculator → (width : Float) (side clear : ℕ) → Added
add_of c w side clear =
    elim (add_check w side clear) [
      | Ok _ ↦ added c (plus_zero w) (side_of side) (clear_of clear) c.available
      | Err n ↦ record { answer = Err n; calculator = c }
    ]

-- `result`: definite answers the smaller of total and available, but never less than the widest
unfoldable pub result_at : (total widest : Float) → AvailableSpace → Float
result_at total widest AvailableSpace.MinContent = total
result_at total widest AvailableSpace.MaxContent = total
result_at total widest (AvailableSpace.Definite a) = larger (smaller total a) widest

abbrev pub result_of : FloatIntrinsicWidthCalculator → Float
result_of c = result_at c.total c.widest c.available
