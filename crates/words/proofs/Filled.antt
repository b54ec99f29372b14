-- A line's words: with those that `more` counts it fits its room, and with the next one it does not.
use mathlib.Core.Path.{◌≡◌, refl, sym, ap, subst, ◌∙◌}
use Prim.Native.Nat.{ℕ, zero, suc, ◌+◌, ◌≤◌}
use native.Mathlib.Omega.{arith}
use mathlib.Core.Bool.{Bool, true, false, not, ◌||◌}
use mathlib.Core.List.{List, [], ◌∷◌}
use mathlib.Core.Option.{some}
use lib.Dec.{T}
use lib.Ieee.{Float, binary32, add, le}
use lib.ListN.{length, take, drop, get_elem?}
use lib.Seq.{drop-drop}
use Rattle.float.specs.declared.Segment.{Segment}
use Rattle.float.specs.Numbers.{in_reach}
use Rattle.demands.specs.Runs.{Each}
use Rattle.words.specs.declared.Line.{Line}
use Rattle.words.specs.Text.{Text}
use Rattle.words.specs.Lines.{span_at, room_of, more}
use Rattle.words.specs.Layout.{summed, measured, line_bottom, Fits, Full}
use Rattle.words.proofs.Turned.{Takes, takes_is}
use Rattle.words.proofs.Setting.{line_at, Sets, ended, moved, lined}

-- ---- how many words
-- a line with one word more
abbrev widened : (gap sum v : Float) → Float
widened gap sum v = add binary32 (add binary32 sum gap) v

module _ (room gap : Float) where
  abbrev wider : Float → Float → Float
  wider = widened gap

  -- no more than there are
  pub more_few : (sum : Float) (vs : List Float) → more room gap sum vs ≤ length vs
  unfolding more
  more_few sum [] = omega arith
  more_few sum (v ∷ vs) = go (le (wider sum v) room) (more_few (wider sum v) vs)
    where
      go : (b : Bool) → more room gap (wider sum v) vs ≤ length vs → elim b [ true ↦ suc (more room gap (wider sum v) vs) | false ↦ 0 ] ≤ suc (length vs)
      go true h = omega arith
      go false h = omega arith

  -- they fit
  pub more_fits : (sum : Float) (vs : List Float) → T (le sum room) → T (le (summed gap sum (take (more room gap sum vs) vs)) room)
  unfolding more summed
  more_fits sum [] h = h
  more_fits sum (v ∷ vs) h = go (le (wider sum v) room) (more_fits (wider sum v) vs)
    where
      go : (b : Bool) → (T b → T (le (summed gap (wider sum v) (take (more room gap (wider sum v) vs) vs)) room))
          → T (le (summed gap sum (take (elim b [ true ↦ suc (more room gap (wider sum v) vs) | false ↦ 0 ]) (v ∷ vs))) room)
      go true f = f tt
      go false f = h

  -- and no further one does
  pub more_full : (sum : Float) (vs : List Float) (u : Float) → get_elem? vs (more room gap sum vs) ≡ some u → T (not (le (wider (summed gap sum (take (more room gap sum vs) vs)) u) room))
  unfolding more summed
  more_full sum [] u e = absurd (let z : ◌≡◌ {A = ℕ} 0 1 = cc in omega arith)
  more_full sum (v ∷ vs) u e = go (le (wider sum v) room) refl (more_full (wider sum v) vs u) e
    where
      go : (b : Bool) → le (wider sum v) room ≡ b → (get_elem? vs (more room gap (wider sum v) vs) ≡ some u → T (not (le (wider (summed gap (wider sum v) (take (more room gap (wider sum v) vs) vs)) u) room)))
          → get_elem? (v ∷ vs) (elim b [ true ↦ suc (more room gap (wider sum v) vs) | false ↦ 0 ]) ≡ some u
          → T (not (le (wider (summed gap sum (take (elim b [ true ↦ suc (more room gap (wider sum v) vs) | false ↦ 0 ]) (v ∷ vs))) u) room))
      go true d f e = f e
      go false d f e = subst (λ (x : Float). T (not (le (wider sum x) room))) (cc) (subst (λ (b : Bool). T (not b)) (sym d) tt)

-- ---- one line after the other
at_drop : (k n : ℕ) (ws : List Float) → get_elem? ws (k + n) ≡ get_elem? (drop k ws) n
at_drop zero n ws = ap (get_elem? ws) (omega arith)
at_drop (suc k) n [] = refl
at_drop (suc k) n (w ∷ ws) = let e : suc k + n ≡ suc (k + n) = omega arith in ap (get_elem? (w ∷ ws)) e ∙ at_drop k n ws

module _ (w : Float) (l : List Segment) (t : Text) where
  -- what every turn that takes words says of its line, every line has
  pub each_line : (P : Line → Type 0) → ((k n : ℕ) (y v x : Float) (vs : List Float) → drop k t.widths ≡ v ∷ vs → Takes w l t y v vs x n → P (line_at x y k (suc n)))
      → {k : ℕ} {y : Float} {ws : List Float} {xs : List Line} → drop k t.widths ≡ ws → Sets w l t k y ws xs → Each P xs
  each_line P f d ended = tt
  each_line P f d (moved u s) = each_line P f d s
  each_line P f d (lined {k = k} {n = n} {y = y} {v = v} {x = x} {vs = vs} u s) = (
    f k n y v x vs d (takes_is w l t y v vs x n u),
    each_line P f (sym (drop-drop (suc n) k t.widths) ∙ ap (drop (suc n)) d) s,
  )

  -- where it begins, and its bottom
  pub at_edge : (k n : ℕ) (y v x : Float) (vs : List Float) → drop k t.widths ≡ v ∷ vs → Takes w l t y v vs x n → (line_at x y k (suc n)).x ≡ (span_at l t y).left
  at_edge k n y v x vs d h = h.edge

  pub in_reach_lem : (k n : ℕ) (y v x : Float) (vs : List Float) → drop k t.widths ≡ v ∷ vs → Takes w l t y v vs x n → T (in_reach (line_bottom t (line_at x y k (suc n))))
  in_reach_lem k n y v x vs d h = h.reach

  -- beside a band its words fit
  pub fits : (k n : ℕ) (y v x : Float) (vs : List Float) → drop k t.widths ≡ v ∷ vs → Takes w l t y v vs x n → Fits w l t (line_at x y k (suc n))
  fits k n y v x vs d h b =
      subst (λ (ws : List Float). T (le (measured t.gap (take (suc n) ws)) (room_of w (span_at l t y)))) (sym d)
      (subst (λ (m : ℕ). T (le (summed t.gap v (take m vs)) (room_of w (span_at l t y)))) (sym h.count) (more_fits (room_of w (span_at l t y)) t.gap v vs (go (span_at l t y).beside b h.first)))
    where
      go : (c : Bool) → T c → T (not c || le v (room_of w (span_at l t y))) → T (le v (room_of w (span_at l t y)))
      go true c f = f
      go false c f = absurd c

  -- and with the next one they would not
  pub full : (k n : ℕ) (y v x : Float) (vs : List Float) → drop k t.widths ≡ v ∷ vs → Takes w l t y v vs x n → Full w l t (line_at x y k (suc n))
  full k n y v x vs d h u e =
      let at : get_elem? (v ∷ vs) (suc n) ≡ some u = ap (λ (ws : List Float). get_elem? ws (suc n)) (sym d) ∙ sym (at_drop k (suc n) t.widths) ∙ e in
      subst (λ (ws : List Float). T (not (le (widened t.gap (measured t.gap (take (suc n) ws)) u) (room_of w (span_at l t y))))) (sym d)
      (subst (λ (m : ℕ). T (not (le (widened t.gap (summed t.gap v (take m vs)) u) (room_of w (span_at l t y))))) (sym h.count)
      (more_full (room_of w (span_at l t y)) t.gap v vs u (subst (λ (m : ℕ). get_elem? vs m ≡ some u) h.count at)))
