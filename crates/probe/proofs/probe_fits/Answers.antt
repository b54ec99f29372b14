-- `probe_fits` meets its contract, a side at a time: a code that is no side is a second successor.
use Rattle.std.proofs.Common.{◌≡◌, ℕ, zero, suc, Float, refl, ap, ◌∙◌, cond, ltb, sym, Result, Ok, Err, arith, le-ltb}
use Rattle.float.specs.declared.FloatDirection.{FloatDirection}
use Rattle.float.specs.declared.Refusal.{Refusal}
use Rattle.float.specs.Refuse.{side_of}
use Rattle.probe.specs.Truth.{bit, fits_at}
use Rattle.probe.proofs.probe_fits.Goals as goal
use Rattle.probe.proofs.probe_fits.Goals.{in-Left, in-Right}

-- the code n is read as r
abbrev Reads : ℕ → Result FloatDirection Refusal → Type 0
Reads n r = r ≡ cond (ltb n 2) (Ok (side_of n)) (Err Refusal.UnknownCode)

left_right : {A : Type 0} → FloatDirection.Left ≡ FloatDirection.Right → A
left_right e = absurd (let y : ◌≡◌ {A = ℕ} 0 1 = cc in omega arith)

module _ (w p l r cl cr : Float) where
  at_left : (n : ℕ) {x : ℕ} {d : FloatDirection} → Reads n (Ok d) → d ≡ FloatDirection.Left → x ≡ fits_at 0 w p l r cl cr → x ≡ fits_at n w p l r cl cr
  at_left zero e f h = h
  at_left (suc zero) e f h = left_right (sym (cc))
  at_left (suc (suc n)) e f h = let q = le-ltb (suc (suc n)) 2 (omega arith) in absurd (let y : ◌≡◌ {A = ℕ} 0 1 = cc in omega arith)

  at_right : (n : ℕ) {x : ℕ} {d : FloatDirection} → Reads n (Ok d) → d ≡ FloatDirection.Right → x ≡ fits_at 1 w p l r cl cr → x ≡ fits_at n w p l r cl cr
  at_right zero e f h = left_right (cc)
  at_right (suc zero) e f h = h
  at_right (suc (suc n)) e f h = let q = le-ltb (suc (suc n)) 2 (omega arith) in absurd (let y : ◌≡◌ {A = ℕ} 0 1 = cc in omega arith)

  unknown : (n : ℕ) {m : Refusal} → Reads n (Err m) → 2 ≡ fits_at n w p l r cl cr
  unfolding fits_at
  unknown zero e = absurd (let y : ◌≡◌ {A = ℕ} 0 1 = cc in omega arith)
  unknown (suc zero) e = absurd (let y : ◌≡◌ {A = ℕ} 0 1 = cc in omega arith)
  unknown (suc (suc n)) e = refl

pub returns-in_default : goal.returns-in_default
returns-in_default c = unknown _ _ _ _ _ _ _ (sym c.in_default.is ∙ c.try_from.ensures)

pub returns : goal.returns
unfolding fits_at
returns c = elim c.match-side.branch [
  | in-Left w ↦ at_left _ _ _ _ _ _ _ (sym c.in-Ok.is ∙ c.try_from.ensures) w.in-Left.is (c.byte.ensures ∙ ap bit (c.fits.ensures ∙ rw (w.lead-is, w.in-Left.is)))
  | in-Right w ↦ at_right _ _ _ _ _ _ _ (sym c.in-Ok.is ∙ c.try_from.ensures) w.in-Right.is (c.byte.ensures ∙ ap bit (c.fits.ensures ∙ rw (w.lead-is, w.in-Right.is)))
]
