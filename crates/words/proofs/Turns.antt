-- On bands that lie edge to edge the lines go down, and each turn takes a word or leaves fewer heights to move to: so the fuel lasts.
use mathlib.Core.Path.{◌≡◌, refl, sym, ap, ◌∙◌}
use Prim.Native.Nat.{ℕ, zero, suc, ◌+◌, ◌≤◌}
use native.Mathlib.Omega.{arith}
use mathlib.Core.Bool.{true}
use mathlib.Core.List.{List, [], ◌∷◌}
use lib.Ieee.{Float, nan, inf, fin, binary32, fits as fits_in}
use lib.ListN.{length, drop, length-drop}
use Rattle.f32_laws.specs.Key.{Num}
use Rattle.f32_laws.proofs.Keys.{key→le}
use Rattle.float.specs.declared.Segment.{Segment}
use Rattle.demands.specs.Runs.{F32}
use Rattle.demands.proofs.Laws.{k, Val, Ins, sum_val, sum_grows}
use Rattle.demands.proofs.Chain.{Chain}
use Rattle.words.specs.declared.Line.{Line}
use Rattle.words.specs.declared.TextRefusal.{TextRefusal}
use Rattle.words.specs.Text.{Text}
use Rattle.words.specs.Lines.{bottom_at, Turn, too_far, moves, takes, turn_at, Told, lines, refused, before, set_from}
use Rattle.words.specs.Layout.{Down, Tried, lower, after, PassesFar}
use Rattle.words.proofs.Turned.{takes_is, moves_is, far_is}
use Rattle.words.proofs.Setting.{line_at, Sets, ended, moved, lined, onward, by_turn}
use Rattle.words.proofs.Moving.{ahead, ahead_falls, Sinks, sinks}

-- a number is a value of f32
num_f32 : (x : Float) → Num binary32 x → F32 x
unfolding fits_in
num_f32 nan n = tt
num_f32 (inf s) n = tt
num_f32 (fin s m e) n = n.is

module _ (w : Float) (l : List Segment) (t : Text) (c : Chain (inf true) l) (h : Ins t.height) where
  -- the top after a move, and after a line
  module _ {y : Float} (p : Val y) (v : Float) (vs : List Float) where
    sunk : {z : Float} → turn_at w l t y v vs ≡ moves z → Sinks l y z
    sunk {z} u = sinks w l t c y v vs (num_f32 y p.num) (moves_is w l t y v vs z u)

    val_to : {z : Float} → Sinks l y z → Val z
    val_to s = record { num = s.to.num; low = omega (arith, p.low, s.down); high = s.to.high }

    val_under : {x : Float} {n : ℕ} → turn_at w l t y v vs ≡ takes x n → Val (bottom_at t y)
    val_under {x} {n} u = sum_val p h (takes_is w l t y v vs x n u).reach

  -- ---- the lines go down
  pub down : {i : ℕ} {y z : Float} {ws : List Float} {xs : List Line} → Val y → Num binary32 z → k z ≤ k y → Sets w l t i y ws xs → Down t z xs
  down p n o ended = tt
  down p n o (moved {v = v} {vs = vs} u s) = let m = sunk p v vs u in down (val_to p v vs m) n (omega (arith, m.down)) s
  down p n o (lined {v = v} {vs = vs} u s) = let b = val_under p v vs u in (key→le n p.num o, down b b.num (omega arith) s)

  -- ---- the fuel lasts
  -- as many turns as heights to move to and lines
  pub enough : {i : ℕ} {y : Float} {ws : List Float} {xs : List Line} → Val y → Sets w l t i y ws xs → (f : ℕ) → ahead y l + length xs ≤ f → set_from f w l t i y ws ≡ lines xs
  unfolding set_from
  enough p ended zero g = refl
  enough p ended (suc f) g = refl
  enough p (moved {v = v} {vs = vs} u s) zero g = let m = sunk p v vs u in absurd (omega (arith, m.fewer))
  enough p (moved {k = i} {y = y} {v = v} {z = z} {vs = vs} u s) (suc f) g = let m = sunk p v vs u in by_turn w l t f i y v vs (moves z) u ∙ enough (val_to p v vs m) s f (omega (arith, m.fewer))
  enough p (lined u s) zero g = absurd (omega arith)
  enough p (lined {k = i} {n = n} {y = y} {v = v} {x = x} {vs = vs} u s) (suc f) g =
      let b = val_under p v vs u in
      by_turn w l t f i y v vs (takes x n) u ∙ ap (before (line_at x y i (suc n))) (enough b s f (omega (arith, ahead_falls p.num b.num (sum_grows p h) l c)))

  -- with as many as heights and words, a refusal comes of a bottom that passes
  abbrev Far : ℕ → Type 0
  Far f = (n : TextRefusal) (i : ℕ) (y : Float) (ws : List Float) → Val y → Tried w l t i y ws → ahead y l + length ws ≤ f → set_from f w l t i y ws ≡ refused n → PassesFar w l t

  far_on : (f : ℕ) → Far f → (n : TextRefusal) (i : ℕ) (y v : Float) (vs : List Float) → Val y → Tried w l t i y (v ∷ vs) → ahead y l + suc (length vs) ≤ suc f → (u : Turn) → turn_at w l t y v vs ≡ u → onward w l t f i y v vs u ≡ refused n → PassesFar w l t
  far_on f r n i y v vs p d g too_far u e = record { above = i; top = y; word = v; rest = vs; tried = d; far = far_is w l t y v vs u }
  far_on f r n i y v vs p d g (moves z) u e = let m = sunk p v vs u in r n i z (v ∷ vs) (val_to p v vs m) (lower d u) (omega (arith, m.fewer)) e
  far_on f r n i y v vs p d g (takes x m) u e =
      let b = val_under p v vs u in
      r n (i + suc m) (bottom_at t y) (drop m vs) b (after d u) (omega (arith, ahead_falls p.num b.num (sum_grows p h) l c, length-drop m vs)) (go (set_from f w l t (i + suc m) (bottom_at t y) (drop m vs)) e)
    where
      go : (r : Told) → before (line_at x y i (suc m)) r ≡ refused n → r ≡ refused n
      go (lines xs) e = absurd (let z : ◌≡◌ {A = ℕ} 0 1 = cc in omega arith)
      go (refused k) e = e

  pub far : (f : ℕ) → Far f
  unfolding set_from
  far zero n i y [] p d g e = absurd (let z : ◌≡◌ {A = ℕ} 0 1 = cc in omega arith)
  far zero n i y (v ∷ vs) p d g e = absurd (omega arith)
  far (suc f) n i y [] p d g e = absurd (let z : ◌≡◌ {A = ℕ} 0 1 = cc in omega arith)
  far (suc f) n i y (v ∷ vs) p d g e = far_on f (far f) n i y v vs p d g (turn_at w l t y v vs) refl (sym (by_turn w l t f i y v vs (turn_at w l t y v vs) refl) ∙ e)
