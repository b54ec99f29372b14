-- What holds of each in a list, of every two, and of some: one more at the end, and one by its number.
use mathlib.Core.Path.{◌≡◌, refl}
use mathlib.Core.Logic.{inl, inr}
use Prim.Native.Nat.{ℕ, zero, suc}
use native.Mathlib.Omega.{arith}
use mathlib.Core.List.{List, [], ◌∷◌, ◌++◌}
use mathlib.Core.Option.{some}
use lib.ListN.{length, get_or, get_elem?}
use Rattle.demands.specs.Runs.{Each, Pairs, Any}

module _ {A : Type 0} where
  pub each_append : (P : A → Type 0) (l : List A) (a : A) → Each P l → P a → Each P (l ++ a ∷ [])
  each_append P [] a h p = (p, tt)
  each_append P (x ∷ l) a h p = (h.0, each_append P l a h.1 p)

  pub pairs_append : (P : A → A → Type 0) (l : List A) (a : A) → Pairs P l → Each (λ x. P x a) l → Pairs P (l ++ a ∷ [])
  pairs_append P [] a h p = (tt, tt)
  pairs_append P (x ∷ l) a h p = (each_append (P x) l a h.0 p.0, pairs_append P l a h.1 p.1)

  pub each_map : (P Q : A → Type 0) (l : List A) → ((x : A) → P x → Q x) → Each P l → Each Q l
  each_map P Q [] f h = tt
  each_map P Q (x ∷ l) f h = (f x h.0, each_map P Q l f h.1)

  pub each_both : (P Q : A → Type 0) (l : List A) → Each P l → Each Q l → Each (λ x. P x × Q x) l
  each_both P Q [] h g = tt
  each_both P Q (x ∷ l) h g = ((h.0, g.0), each_both P Q l h.1 g.1)

  pub each_of : (P : A → Type 0) (l : List A) → ((x : A) → P x) → Each P l
  each_of P [] f = tt
  each_of P (x ∷ l) f = (f x, each_of P l f)

  pub each_at : (P : A → Type 0) (l : List A) (i : ℕ) (d : A) → P d → Each P l → P (get_or l i d)
  each_at P [] i d p h = p
  each_at P (x ∷ l) zero d p h = h.0
  each_at P (x ∷ l) (suc i) d p h = each_at P l i d p h.1

  pub some_last : (P : A → Type 0) (l : List A) (a : A) → P a → Any P (l ++ a ∷ [])
  some_last P [] a p = inl p
  some_last P (x ∷ l) a p = inr (some_last P l a p)

  pub some_append : (P Q : A → Type 0) (l : List A) (a : A) → ((x : A) → P x → Q x) → Any P l → Any Q (l ++ a ∷ [])
  some_append P Q [] a f h = absurd h
  some_append P Q (x ∷ l) a f (inl p) = inl (f x p)
  some_append P Q (x ∷ l) a f (inr h) = inr (some_append P Q l a f h)

  -- of one that P holds of, what holds of each
  pub some_each : (P Q : A → Type 0) {R : Type 0} (l : List A) → ((x : A) → P x → Q x → R) → Any P l → Each Q l → R
  some_each P Q [] f h g = absurd h
  some_each P Q (x ∷ l) f (inl p) g = f x p g.0
  some_each P Q (x ∷ l) f (inr h) g = some_each P Q l f h g.1

  -- what has a number keeps it, and the new one has the next
  pub kth_stays : (l m : List A) (k : ℕ) (x : A) → get_elem? l k ≡ some x → get_elem? (l ++ m) k ≡ some x
  kth_stays [] m k x e = absurd (let z : ◌≡◌ {A = ℕ} 0 1 = cc in omega arith)
  kth_stays (a ∷ l) m zero x e = e
  kth_stays (a ∷ l) m (suc k) x e = kth_stays l m k x e

  pub kth_last : (l : List A) (x : A) → get_elem? (l ++ x ∷ []) (length l) ≡ some x
  kth_last [] x = refl
  kth_last (a ∷ l) x = kth_last l x
