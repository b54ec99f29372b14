-- A call whose tests are asked one after the other, lower numbers first, answers the lowest number that applies: what one test adds to that.
use Prim.Native.Nat.{ℕ, suc, ◌<◌}
use native.Mathlib.Omega.{arith}
use native.Mathlib.Nat.{eq-or-lt_of_le}
use mathlib.Core.Path.{◌≡◌, sym, subst}
use mathlib.Core.Logic.{◌⊎◌, inl, inr, ◌↔◌}
use mathlib.Core.Bool.{Bool, cond}
use lib.Dec.{T}
use Rattle.f32_laws.proofs.Tests.{both}
use Rattle.demands.proofs.Tested.{Three, less, same, more, three, Fails}
use Rattle.refusals.specs.Numbered.{Lowest}

-- R m: refusal m is answered; it is n alone
pub record Says (R : ℕ → Type 0) (n : ℕ) : Type 0 where
  pub this : R n
  pub alone : (m : ℕ) → R m → m ≡ n

-- nothing is refused and nothing applies, or the one refusal is the lowest that applies
pub data Outcome (R A : ℕ → Type 0) : Type 0 where
  none : ((n : ℕ) → ¬ R n) → ((n : ℕ) → ¬ A n) → Outcome R A
  one : (n : ℕ) → Says R n → Lowest A n → Outcome R A

pub exactly : {R A : ℕ → Type 0} → Outcome R A → (n : ℕ) → R n ↔ Lowest A n
exactly {R} {A} (none r a) n = (λ h. absurd (r n h), λ l. absurd (a n l.0))
exactly {R} {A} (one k s l) n = (λ h. subst (Lowest A) (sym (s.alone n h)) l, λ h. subst R (meet h (three k n)) s.this)
  where
    meet : Lowest A n → Three k n → k ≡ n
    meet h (less j) = absurd (h.1 k j l.0)
    meet h (same e) = e
    meet h (more j) = absurd (l.1 n j h.0)

-- nothing below n applies
abbrev pub Free : (ℕ → Type 0) → ℕ → Type 0
Free A n = (m : ℕ) → m < n → ¬ A m

pub gap : {A : ℕ → Type 0} (n : ℕ) → ¬ A n → Free A n → Free A (suc n)
gap {A} n h f m l a = go (eq-or-lt_of_le l)
  where
    go : (suc m ≡ suc n) ⊎ (suc m < suc n) → ⊥
    go (inl e) = h (subst A (let d : m ≡ n = omega arith in d) a)
    go (inr k) = f m (omega arith) a

-- a test that fails exactly where n applies
pub tested : {B : Type 0} (R : B → ℕ → Type 0) {A : ℕ → Type 0} {X : Type 0} {b : Bool} {x y : B} (n : ℕ) → Fails X b → (X → A n) → (A n → X) → Free A n → Says (R y) n → (T b → Free A (suc n) → Outcome (R x) A) → Outcome (R (cond b x y)) A
tested R {A} {X} {b} {x} {y} n t i o f s k = both (λ z. Outcome (R z) A) b {x = x} {y = y} (λ h. k h (gap {A = A} n (λ a. t.passed h (o a)) f)) (λ h. one n s (i (t.failed h), f))
