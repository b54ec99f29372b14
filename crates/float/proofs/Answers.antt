-- Whether floats are active: the check is passed or refused, and the definition goes the same way.
use Rattle.std.proofs.Common.{◌≡◌, Bool, true, [], ◌∷◌, Result, Ok, Err}
use Rattle.std.specs.Prelude.{⊤}
use lib.Ieee.{Float}
use Rattle.float.specs.declared.Refusal.{Refusal}
use Rattle.float.specs.Numbers.{offset, plus_zero}
use Rattle.float.specs.Refuse.{check_of}
use Rattle.float.specs.Page.{Page}
use Rattle.float.specs.Slot.{active, has_active_floats}

-- v is the height as it is read, k its check

module _ (p : Page) (w : Float) {v : Float} {k : Result ⊤ Refusal} (ev : v ≡ plus_zero w) (ek : k ≡ check_of true (offset v ∷ [])) where
  pub active_passed : {t : Bool} → k ≡ Ok tt → t ≡ active p.bands v → Ok t ≡ has_active_floats p w
  unfolding has_active_floats
  active_passed e et = let q : check_of true (offset (plus_zero w) ∷ []) ≡ Ok tt = cc in rw (q, has_active_floats) (cc)

  pub active_refused : {n : Refusal} → k ≡ Err n → Err n ≡ has_active_floats p w
  unfolding has_active_floats
  active_refused {n} e = let q : check_of true (offset (plus_zero w) ∷ []) ≡ Err n = cc in rw (q, has_active_floats)
