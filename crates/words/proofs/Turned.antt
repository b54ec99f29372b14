-- What a turn says of its line: the tests of `turn_at`, read back from what it gave.
use mathlib.Core.Path.{◌≡◌, refl, sym, ◌∙◌}
use Prim.Native.Nat.{ℕ}
use native.Mathlib.Omega.{arith}
use mathlib.Core.Bool.{Bool, true, false, not, cond}
use mathlib.Core.List.{List}
use lib.Dec.{T}
use lib.Ieee.{Float}
use Rattle.float.specs.declared.Segment.{Segment}
use Rattle.float.specs.Numbers.{in_reach}
use Rattle.words.specs.Text.{Text}
use Rattle.words.specs.Lines.{bottom_at, span_at, room_of, first_fits, more, moved_to, Turn, too_far, moves, takes, turn_at}

module _ (w : Float) (l : List Segment) (t : Text) (y v : Float) (vs : List Float) where
  abbrev pub room : Float
  room = room_of w (span_at l t y)

  -- the first word fits
  abbrev pub fits? : Bool
  fits? = first_fits (span_at l t y) room v

  -- what comes of the two tests: the bottom is in reach, the first word fits
  abbrev turn : Bool → Bool → Turn
  turn true true = takes (span_at l t y).left (more room t.gap v vs)
  turn true false = moves (moved_to l y)
  turn false c = too_far

  turn_is : (b c : Bool) → cond b (cond c (takes (span_at l t y).left (more room t.gap v vs)) (moves (moved_to l y))) too_far ≡ turn b c
  turn_is true true = refl
  turn_is true false = refl
  turn_is false c = refl

  by_tests : turn_at w l t y v vs ≡ turn (in_reach (bottom_at t y)) fits?
  unfolding turn_at
  by_tests = turn_is (in_reach (bottom_at t y)) fits?

  -- it takes words
  pub record Takes (x : Float) (n : ℕ) : Type 0 where
    pub reach : T (in_reach (bottom_at t y))
    pub first : T fits?
    pub edge : x ≡ (span_at l t y).left
    pub count : n ≡ more room t.gap v vs

  -- it moves
  pub record Moves (z : Float) : Type 0 where
    pub reach : T (in_reach (bottom_at t y))
    pub narrow : T (not fits?)
    pub to : z ≡ moved_to l y

  pub takes_is : (x : Float) (n : ℕ) → turn_at w l t y v vs ≡ takes x n → Takes x n
  takes_is x n e = go (in_reach (bottom_at t y)) fits? (λ h f e c. record { reach = h; first = f; edge = e; count = c }) (sym by_tests ∙ e)
    where
      go : (b c : Bool) → (T b → T c → x ≡ (span_at l t y).left → n ≡ more room t.gap v vs → Takes x n) → turn b c ≡ takes x n → Takes x n
      go true true f e = f tt tt (cc) (cc)
      go true false f e = absurd (let z : ◌≡◌ {A = ℕ} 0 1 = cc in omega arith)
      go false c f e = absurd (let z : ◌≡◌ {A = ℕ} 0 1 = cc in omega arith)

  pub moves_is : (z : Float) → turn_at w l t y v vs ≡ moves z → Moves z
  moves_is z e = go (in_reach (bottom_at t y)) fits? (λ h f e. record { reach = h; narrow = f; to = e }) (sym by_tests ∙ e)
    where
      go : (b c : Bool) → (T b → T (not c) → z ≡ moved_to l y → Moves z) → turn b c ≡ moves z → Moves z
      go true true f e = absurd (let z : ◌≡◌ {A = ℕ} 0 1 = cc in omega arith)
      go true false f e = f tt tt (cc)
      go false c f e = absurd (let z : ◌≡◌ {A = ℕ} 0 1 = cc in omega arith)

  pub far_is : turn_at w l t y v vs ≡ too_far → T (not (in_reach (bottom_at t y)))
  far_is e = go (in_reach (bottom_at t y)) fits? (sym by_tests ∙ e)
    where
      go : (b c : Bool) → turn b c ≡ too_far → T (not b)
      go true true e = absurd (let z : ◌≡◌ {A = ℕ} 0 1 = cc in omega arith)
      go true false e = absurd (let z : ◌≡◌ {A = ℕ} 0 1 = cc in omega arith)
      go false c e = tt

  -- and a bottom that passes is all that it takes
  pub is_far : T (not (in_reach (bottom_at t y))) → turn_at w l t y v vs ≡ too_far
  is_far h = by_tests ∙ go (in_reach (bottom_at t y)) fits? h
    where
      go : (b c : Bool) → T (not b) → turn b c ≡ too_far
      go true c h = absurd h
      go false c h = refl
