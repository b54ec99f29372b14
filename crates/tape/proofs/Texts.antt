-- A text read from its bytes.
use Prim.Native.Nat.{ℕ, zero, suc, ◌+◌, ◌*◌, ◌≤◌, ◌<◌}
use mathlib.Core.Path.{◌≡◌, refl, sym, ap, ◌∙◌}
use mathlib.Core.List.{List, [], ◌∷◌, ◌++◌}
use native.Mathlib.Numerals.{add-one}
use native.Mathlib.Omega.{arith}
use lib.Ieee.{Float, nan}
use lib.ListN.{length, take, get_or, set, length-set}
use lib.Seq.{take-suc, take-suc-set, take_all}
use Rattle.tape.specs.Bytes.{f32_at}
use Rattle.tape.specs.Text.{floats_at}

pub floats_length : (n : ℕ) (b : List ℕ) (i : ℕ) → length (floats_at n b i) ≡ n
unfolding floats_at
floats_length zero b i = refl
floats_length (suc n) b i = ap suc (floats_length n b (i + 4))

pub float_at : (n : ℕ) (b : List ℕ) (i k : ℕ) (d : Float) → k < n → get_or (floats_at n b i) k d ≡ f32_at b (i + 4 * k)
unfolding floats_at
float_at zero b i k d h = absurd (omega arith)
float_at (suc n) b i zero d h = ap (f32_at b) (omega arith)
float_at (suc n) b i (suc k) d h = float_at n b (i + 4) k d (omega arith) ∙ ap (f32_at b) (omega arith)

-- of the list ws, to be written at the front of o₀, which is now o, the first i are
pub record Writing (ws o₀ o : List Float) (i : ℕ) : Type 0 where
  pub inside : i ≤ length ws
  pub same : length o ≡ length o₀
  pub written : take i o ≡ take i ws

pub writing_more : (ws : List Float) {o₀ o : List Float} {i : ℕ} (x : Float) → i < length ws → length ws ≤ length o₀ → x ≡ get_or ws i nan → Writing ws o₀ o i → Writing ws o₀ (set o i x) (i + 1)
writing_more ws {o₀} {o} {i} x h l e g = record {
  inside = omega arith;
  same = length-set o i x ∙ g.same;
  written =
      ap (λ (j : ℕ). take j (set o i x)) (add-one i)
      ∙ take-suc-set o i x (let z = g.same in omega arith)
      ∙ ap (λ (y : List Float). y ++ x ∷ []) g.written
      ∙ ap (λ (y : Float). take i ws ++ y ∷ []) e
      ∙ sym (take-suc ws i nan h)
      ∙ ap (λ (j : ℕ). take j ws) (sym (add-one i));
}

pub writing_done : (ws : List Float) {o₀ o : List Float} {i n : ℕ} → Writing ws o₀ o i → length ws ≡ n → n ≤ i → take n o ≡ ws
writing_done ws {o₀} {o} {i} {n} g e h =
    let f : n ≡ i = let x = g.inside in omega arith in
    ap (λ (j : ℕ). take j o) f ∙ g.written ∙ take_all i ws (omega arith)
