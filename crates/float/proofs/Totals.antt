-- What the checks of the calculator's calls decide: the check is passed or refused, and the definition goes the same way.
use Rattle.std.proofs.Common.{◌≡◌, ℕ, true, ◌&&◌, nat_lt, [], ◌∷◌, refl, ap, ◌∙◌, Result, Ok, Err}
use Rattle.std.specs.Prelude.{⊤}
use Rattle.std.specs.Result.{IsErrAnd}
use lib.Ieee.{Float}
use Rattle.float.specs.declared.Added.{Added}
use Rattle.float.specs.declared.AvailableSpace.{AvailableSpace}
use Rattle.float.specs.declared.Clear.{Clear}
use Rattle.float.specs.declared.FloatDirection.{FloatDirection}
use Rattle.float.specs.declared.FloatIntrinsicWidthCalculator.{FloatIntrinsicWidthCalculator}
use Rattle.float.specs.declared.Refusal.{Refusal}
use Rattle.float.specs.Numbers.{size, plus_zero}
use Rattle.float.specs.Refuse.{side_of, clear_of, check_of}
use Rattle.float.specs.Calculator.{started_with, calculator_of, added, add_of}
use Rattle.float.proofs.Judged.{Told, handed, told_ok, told_err}

-- no width is given
pub new_without : (a : AvailableSpace) → ((w : Float) → a ≡ AvailableSpace.Definite w → ⊥) → Ok (started_with a) ≡ calculator_of a
unfolding calculator_of
new_without AvailableSpace.MinContent h = refl
new_without AvailableSpace.MaxContent h = refl
new_without (AvailableSpace.Definite w) h = absurd (h w refl)

-- v is the number as it is read, k its check
module _ {a : AvailableSpace} {w v : Float} {k : Result ⊤ Refusal} (ea : a ≡ AvailableSpace.Definite w) (ev : v ≡ plus_zero w) (ek : k ≡ check_of true (size v ∷ [])) where
  pub new_passed : {u : ⊤} → k ≡ Ok u → Ok (started_with (AvailableSpace.Definite v)) ≡ calculator_of a
  unfolding calculator_of
  new_passed {u} e = let p : check_of true (size (plus_zero w) ∷ []) ≡ Ok u = cc in rw (ea, p, calculator_of) (cc)

  pub new_refused : {n : Refusal} → k ≡ Err n → (r : Result FloatIntrinsicWidthCalculator Refusal) → IsErrAnd r (λ m. m ≡ n) → r ≡ calculator_of a
  unfolding calculator_of
  new_refused {n} e r h = let p : check_of true (size (plus_zero w) ∷ []) ≡ Err n = cc in handed r h ∙ rw (ea, p, calculator_of)

-- k is the check of a box: both codes and the number v as it is read
module _ (c : FloatIntrinsicWidthCalculator) (side clear : ℕ) (w : Float) {v : Float} {k : Result (FloatDirection × Clear) Refusal} (ev : v ≡ plus_zero w) (ek : k ≡ Told (nat_lt side 2 && nat_lt clear 4) (size v ∷ []) (side_of side, clear_of clear)) where
  pub add_passed : {s : FloatDirection} {t : Clear} {r : Added} → k ≡ Ok (s, t) → r ≡ added c v s t c.available → r ≡ add_of c w side clear
  unfolding add_of
  add_passed {s} {t} {r} e er =
      let o = told_ok (nat_lt side 2 && nat_lt clear 4) (size v ∷ []) (side_of side, clear_of clear) ek e in
      rw (← ev, o.0, add_of) (er ∙ ap (λ (q : FloatDirection × Clear). added c v q.0 q.1 c.available) o.1 ∙ ap (λ (x : Float). added c x (side_of side) (clear_of clear) c.available) ev)

  pub add_refused : {n : Refusal} → k ≡ Err n → ◌≡◌ {A = Added} (record { answer = Err n; calculator = c }) (add_of c w side clear)
  unfolding add_of
  add_refused {n} e =
      let o = told_err (nat_lt side 2 && nat_lt clear 4) (size v ∷ []) (side_of side, clear_of clear) ek e in
      rw (← ev, o, add_of)
