use Rattle.std.specs.Prelude.{Result, Ok, Err, ⊤}
-- A refused add leaves the calculator: each way of an add either accepts, or hands it back.
use Prim.Native.Nat.{ℕ}
use mathlib.Core.Bool.{Bool, ◌&&◌}
use mathlib.Core.Path.{◌≡◌, refl}
use mathlib.Core.List.{List}
use lib.Ieee.{Float, binary32, add}
use Rattle.f32_laws.proofs.Tests.{both}
use Rattle.float.specs.declared.Added.{Added}
use Rattle.float.specs.declared.AvailableSpace.{AvailableSpace}
use Rattle.float.specs.declared.Clear.{Clear}
use Rattle.float.specs.declared.FloatDirection.{FloatDirection}
use Rattle.float.specs.declared.FloatIntrinsicWidthCalculator.{FloatIntrinsicWidthCalculator}
use Rattle.float.specs.declared.Refusal.{Refusal}
use Rattle.float.specs.Numbers.{Given, in_reach}
use Rattle.float.specs.Refuse.{check_of}
use Rattle.float.specs.Calculator.{summed, added_sums, added, add_of}

-- a check's two ways, whatever is checked
pub check_ways {ℓ} : {A : Type ℓ} (P : A → Type 0) (b : Bool) (gs : List Given) {x : A} {f : Refusal → A} → P x → ((n : Refusal) → P (f n)) → P (elim (check_of b gs) [ Ok _ ↦ x | Err n ↦ f n ])
check_ways P b gs {x} {f} p q = go (check_of b gs)
  where
    go : (c : Result ⊤ Refusal) → P (elim c [ Ok _ ↦ x | Err n ↦ f n ])
    go (Ok _) = p
    go (Err n) = q n

abbrev pub LeftAs : FloatIntrinsicWidthCalculator → Added → Type 0
LeftAs c r = elim r.answer [ Ok _ ↦ Unit {0} | Err n ↦ r.calculator ≡ c ]

summed_left : (c : FloatIntrinsicWidthCalculator) (w l r : Float) → LeftAs c (summed c w l r)
summed_left c w l r = both (LeftAs c) (in_reach l && in_reach r && in_reach (add binary32 l r)) (λ t. tt) (λ t. refl)

added_left : (c : FloatIntrinsicWidthCalculator) (w : Float) (s : FloatDirection) (k : Clear) (a : AvailableSpace) → LeftAs c (added c w s k a)
unfolding added added_sums
added_left c w s k AvailableSpace.MinContent = tt
added_left c w s k AvailableSpace.MaxContent = summed_left c w _ _
added_left c w s k (AvailableSpace.Definite a) = summed_left c w _ _

pub add_left : (c : FloatIntrinsicWidthCalculator) (w : Float) (side clear : ℕ) → LeftAs c (add_of c w side clear)
unfolding add_of
add_left c w side clear = check_ways (LeftAs c) _ _ (added_left c _ _ _ c.available) (λ n. refl)
