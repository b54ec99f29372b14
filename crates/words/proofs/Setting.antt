-- The lines as they come of one turn after the other.
use mathlib.Core.Path.{◌≡◌, refl, sym, ap, subst, ◌∙◌}
use Prim.Native.Nat.{ℕ, zero, suc, ◌+◌}
use native.Mathlib.Omega.{arith}
use mathlib.Core.List.{List, [], ◌∷◌}
use lib.Ieee.{Float}
use lib.ListN.{drop}
use Rattle.float.specs.declared.Segment.{Segment}
use Rattle.words.specs.declared.Line.{Line}
use Rattle.words.specs.declared.TextRefusal.{TextRefusal}
use Rattle.words.specs.Text.{Text}
use Rattle.words.specs.Lines.{bottom_at, Turn, too_far, moves, takes, turn_at, Told, lines, refused, before, set_from}

-- the line that begins at x and y with the word k and has n words
abbrev pub line_at : (x y : Float) (k n : ℕ) → Line
line_at x y k n = record { x = x; y = y; first = k; count = n }

-- the words ws, k of which stand above, are set in the lines xs from the top y on
pub data Sets (w : Float) (l : List Segment) (t : Text) : ℕ → Float → List Float → List Line → Type 0 where
  ended : {k : ℕ} {y : Float} → Sets w l t k y [] []
  moved : {k : ℕ} {y v z : Float} {vs : List Float} {xs : List Line} → turn_at w l t y v vs ≡ moves z → Sets w l t k z (v ∷ vs) xs → Sets w l t k y (v ∷ vs) xs
  lined : {k n : ℕ} {y v x : Float} {vs : List Float} {xs : List Line} → turn_at w l t y v vs ≡ takes x n → Sets w l t (k + suc n) (bottom_at t y) (drop n vs) xs → Sets w l t k y (v ∷ vs) (line_at x y k (suc n) ∷ xs)

module _ (w : Float) (l : List Segment) (t : Text) where
  -- what comes of a turn, with the fuel f for the others
  abbrev pub onward : (f k : ℕ) (y v : Float) → List Float → Turn → Told
  onward f k y v vs too_far = refused TextRefusal.TooFar
  onward f k y v vs (moves z) = set_from f w l t k z (v ∷ vs)
  onward f k y v vs (takes x n) = before (line_at x y k (suc n)) (set_from f w l t (k + suc n) (bottom_at t y) (drop n vs))

  turn_first : (f k : ℕ) (y v : Float) (vs : List Float) (u : Turn) → elim u [ too_far ↦ refused TextRefusal.TooFar | moves z ↦ set_from f w l t k z (v ∷ vs) | takes x n ↦ before (line_at x y k (suc n)) (set_from f w l t (k + suc n) (bottom_at t y) (drop n vs)) ] ≡ onward f k y v vs u
  turn_first f k y v vs too_far = refl
  turn_first f k y v vs (moves z) = refl
  turn_first f k y v vs (takes x n) = refl

  pub by_turn : (f k : ℕ) (y v : Float) (vs : List Float) (u : Turn) → turn_at w l t y v vs ≡ u → set_from (suc f) w l t k y (v ∷ vs) ≡ onward f k y v vs u
  unfolding set_from
  by_turn f k y v vs u e = turn_first f k y v vs (turn_at w l t y v vs) ∙ ap (onward f k y v vs) e

  abbrev Goes : ℕ → Type 0
  Goes f = (k : ℕ) (y : Float) (ws : List Float) (xs : List Line) → set_from f w l t k y ws ≡ lines xs → Sets w l t k y ws xs

  none_set : (k : ℕ) (y : Float) (xs : List Line) → lines [] ≡ lines xs → Sets w l t k y [] xs
  none_set k y [] e = ended
  none_set k y (x ∷ xs) e = absurd (let z : ◌≡◌ {A = ℕ} 0 1 = cc in omega arith)

  one_set : (f k n : ℕ) (y v x : Float) (vs : List Float) (xs : List Line) → Goes f → turn_at w l t y v vs ≡ takes x n → (r : Told) → set_from f w l t (k + suc n) (bottom_at t y) (drop n vs) ≡ r → before (line_at x y k (suc n)) r ≡ lines xs → Sets w l t k y (v ∷ vs) xs
  one_set f k n y v x vs xs g u (lines zs) d e = subst (Sets w l t k y (v ∷ vs)) (cc) (lined u (g (k + suc n) (bottom_at t y) (drop n vs) zs d))
  one_set f k n y v x vs xs g u (refused m) d e = absurd (let z : ◌≡◌ {A = ℕ} 0 1 = cc in omega arith)

  turn_set : (f k : ℕ) (y v : Float) (vs : List Float) (xs : List Line) → Goes f → (u : Turn) → turn_at w l t y v vs ≡ u → onward f k y v vs u ≡ lines xs → Sets w l t k y (v ∷ vs) xs
  turn_set f k y v vs xs g too_far u e = absurd (let z : ◌≡◌ {A = ℕ} 0 1 = cc in omega arith)
  turn_set f k y v vs xs g (moves z) u e = moved u (g k z (v ∷ vs) xs e)
  turn_set f k y v vs xs g (takes x n) u e = one_set f k n y v x vs xs g u (set_from f w l t (k + suc n) (bottom_at t y) (drop n vs)) refl e

  pub sets : (f : ℕ) → Goes f
  unfolding set_from
  sets zero k y [] xs e = none_set k y xs e
  sets zero k y (v ∷ vs) xs e = absurd (let z : ◌≡◌ {A = ℕ} 0 1 = cc in omega arith)
  sets (suc f) k y [] xs e = none_set k y xs e
  sets (suc f) k y (v ∷ vs) xs e = turn_set f k y v vs xs (sets f) (turn_at w l t y v vs) refl (sym (by_turn f k y v vs (turn_at w l t y v vs) refl) ∙ e)
