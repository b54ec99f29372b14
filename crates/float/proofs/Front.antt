-- A list at the front of an array: laws of `front`, and the lengths of a page's two arrays.
use Rattle.std.proofs.Common.{◌≡◌, ℕ, suc, ◌<◌, ◌≤◌, min, List, [], ◌∷◌, ◌++◌, length, take, drop, set, sym, refl, ap, ◌∙◌, append_assoc, add-one, arith, length-append, take-append-drop, length-take-le, take_all, drop-cons}
use native.Mathlib.Decide.{dec_le}
use native.Mathlib.Nat.{min-eq_left, min-eq_right}
use denote.Laws.{Is}
use denote.Struct.Declared.{row}
use mir.Val.{Val}
use lib.Seq.{take-append_seam, set-append_seam}
use Rattle.float.specs.declared.FloatContext.{FloatContext}
use Rattle.float.specs.Page.{front}
use Rattle.float.specs.contracts.FloatContext.{the_type}

module _ {A : Type 0} where
  pub front_nil : (a : List A) → front [] a ≡ a
  unfolding front
  front_nil a = refl

  -- what is live of it
  pub take_front : (l a : List A) → take (length l) (front l a) ≡ l
  unfolding front
  take_front l a = take-append_seam l (drop (length l) a)

  -- a list that is the array's own beginning
  front_take : (n : ℕ) (a : List A) → n ≤ length a → front (take n a) a ≡ a
  unfolding front
  front_take n a h = ap (λ (k : ℕ). take n a ++ drop k a) (length-take-le n a h) ∙ take-append-drop n a

  -- whatever the count
  pub front_live : (n : ℕ) (a : List A) → front (take n a) a ≡ a
  front_live n a = go (dec_le n (length a))
    where
      go : Dec (n ≤ length a) → front (take n a) a ≡ a
      go (yes h) = front_take n a h
      go (no h) = ap (λ (l : List A). front l a) (take_all n a (omega arith) ∙ sym (take_all (length a) a (omega arith))) ∙ front_take (length a) a (omega arith)

  -- one more element, stored at its end
  pub front_more : (l a : List A) (x : A) → length l < length a → set (front l a) (length l) x ≡ front (l ++ x ∷ []) a
  unfolding front
  front_more l a x h =
      ap (λ (r : List A). set (l ++ r) (length l) x) (drop-cons a (length l) x h)
      ∙ set-append_seam l _ (drop (suc (length l)) a) x
      ∙ sym (ap (λ (k : ℕ). (l ++ x ∷ []) ++ drop k a) (length-append l (x ∷ []) ∙ add-one (length l)) ∙ append_assoc l (x ∷ []) (drop (suc (length l)) a))

  -- a count past the end is the same as the length
  pub take_min : (l : List A) (c m : ℕ) → length l ≡ m → take (min c m) l ≡ take c l
  take_min l c m e = go (dec_le c m)
    where
      go : Dec (c ≤ m) → take (min c m) l ≡ take c l
      go (yes h) = ap (λ (n : ℕ). take n l) (min-eq_left h)
      go (no h) = ap (λ (n : ℕ). take n l) (min-eq_right {n = m} {m = c} (omega arith)) ∙ take_all m l (omega arith) ∙ sym (take_all c l (omega arith))

-- a page that the machine holds has 96 places for bands and 64 for boxes
pub bands_96 : (p : FloatContext) (v : List Val) → Is (row the_type) p v → length p.bands ≡ 96
bands_96 p v g = g.1.1.1.0.1.0.1

pub boxes_64 : (p : FloatContext) (v : List Val) → Is (row the_type) p v → length p.boxes ≡ 64
boxes_64 p v g = g.1.1.1.1.1.0.1.0.1
