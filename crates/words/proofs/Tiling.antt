-- Every word stands on exactly one line.
use mathlib.Core.Path.{refl, sym, subst}
use Prim.Native.Nat.{ℕ, suc, ◌+◌, ◌≤◌}
use native.Mathlib.Omega.{arith}
use mathlib.Core.List.{List, [], ◌∷◌}
use lib.Ieee.{Float}
use lib.ListN.{length, length-drop}
use Rattle.float.specs.declared.Segment.{Segment}
use Rattle.words.specs.declared.Line.{Line}
use Rattle.words.specs.Text.{Text}
use Rattle.words.specs.Layout.{Tiles}
use Rattle.words.proofs.Turned.{room, takes_is}
use Rattle.words.proofs.Setting.{Sets, ended, moved, lined}
use Rattle.words.proofs.Filled.{more_few}

module _ (w : Float) (l : List Segment) (t : Text) where
  pub tiles : {k : ℕ} {y : Float} {ws : List Float} {xs : List Line} → Sets w l t k y ws xs → Tiles k (k + length ws) xs
  tiles ended = omega arith
  tiles (moved u s) = tiles s
  tiles (lined {k = k} {n = n} {y = y} {v = v} {x = x} {vs = vs} {xs = xs} u s) =
      let few = more_few (room w l t y v vs) t.gap v vs in
      let h : n ≤ length vs = subst (λ (m : ℕ). m ≤ length vs) (sym (takes_is w l t y v vs x n u).count) few in
      (refl, omega arith, subst (λ (m : ℕ). Tiles (k + suc n) m xs) (omega (arith, length-drop n vs)) (tiles s))

-- as many lines as words at the most
pub tiles_few : (k n : ℕ) (xs : List Line) → Tiles k n xs → k + length xs ≤ n
tiles_few k n [] h = omega (arith, h)
tiles_few k n (x ∷ xs) h = omega (arith, h.1, tiles_few (k + x.count) n xs h.2)
