-- What a record does: its equations carried over to what is told, and the refusals of an add with no calculator.
use Rattle.std.specs.Prelude.{Result, Ok, Err, ⊤}
use Prim.Native.Nat.{ℕ}
use mathlib.Core.Path.{◌≡◌, refl, sym, ap, ◌∙◌, subst, subst⁻¹}
use lib.Ieee.{Float}
use Rattle.float.specs.declared.AvailableSpace.{AvailableSpace}
use Rattle.float.specs.declared.FloatIntrinsicWidthCalculator.{FloatIntrinsicWidthCalculator}
use Rattle.float.specs.declared.Refusal.{Refusal}
use Rattle.float.specs.Calculator.{calculator_of, added, add_check, add_of}
use Rattle.tape.specs.declared.line.Out.{Out}
use Rattle.tape.specs.Put.{Tells}
use Rattle.tape.specs.Tape.{Told, not_added}

pub of_known : {A B : Type 0} (f : B → Told A) {x y : B} {a : A} {o p : Out} → x ≡ y → Tells (f y) a o p → Tells (f x) a o p
of_known {A} {B} f {x} {y} {a} {o} {p} e t = subst⁻¹ (λ (z : B). Tells (f z) a o p) e t

-- the same of what a call answered, by what it says
pub of_answered : {A B : Type 0} (f : B → Told A) {x y : B} {a : A} {o p : Out} → x ≡ y → Tells (f x) a o p → Tells (f y) a o p
of_answered {A} {B} f {x} {y} {a} {o} {p} e t = subst (λ (z : B). Tells (f z) a o p) e t

-- a calculator of min-content refuses what is refused with no calculator, but for refusal 8
abbrev given_up : Result ⊤ Refusal → Refusal
given_up (Ok _) = Refusal.NoCalculator
given_up (Err n) = n

module _ (c : FloatIntrinsicWidthCalculator) (w : Float) (side clear : ℕ) where
  by_check : (x : Result ⊤ Refusal) → add_check w side clear ≡ x → c.available ≡ AvailableSpace.MinContent → given_up (add_of c w side clear).answer ≡ not_added x
  unfolding add_of added
  by_check (Ok _) e m = rw (e, add_of, m, added)
  by_check (Err n) e m = rw (e, add_of)

  pub not_added_lem : {d : Result ⊤ Refusal} → calculator_of AvailableSpace.MinContent ≡ Ok c → (add_of c w side clear).answer ≡ d → given_up d ≡ not_added (add_check w side clear)
  unfolding calculator_of
  not_added_lem m e = ap given_up (sym e) ∙ by_check (add_check w side clear) refl (cc m)
