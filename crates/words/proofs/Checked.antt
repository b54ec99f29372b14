use Rattle.std.specs.Prelude.{Result, Ok, Err, ⊤}
-- The check of a text: what one that passed it has; and the answer, which is the check's or that of the lines.
use mathlib.Core.Path.{◌≡◌, refl}
use Prim.Native.Nat.{ℕ, ◌+◌, ◌≤◌}
use native.Mathlib.Omega.{arith}
use mathlib.Core.Logic.{◌≢◌}
use mathlib.Core.Bool.{Bool, true, false, not, cond}
use mathlib.Core.List.{List}
use lib.Dec.{T, leb, leb→le}
use lib.Ieee.{eq}
use lib.ListN.{length}
use Rattle.f32_laws.specs.Numbers.{zero+}
use Rattle.float.specs.Numbers.{all_finite, all_allowed}
use Rattle.float.specs.Page.{Page}
use Rattle.words.specs.declared.Line.{Line}
use Rattle.words.specs.declared.TextRefusal.{TextRefusal}
use Rattle.words.specs.Text.{Text, cleaned, numbers, check_of, max_words}
use Rattle.words.specs.Lines.{Told, lines, refused, set_all, set_on, set_words}
use Rattle.words.proofs.Setting.{Sets, sets}

-- ---- the check
pub record Passed (t : Text) : Type 0 where
  pub finite : T (all_finite (numbers t))
  pub allowed : T (all_allowed (numbers t))
  pub few : length t.widths ≤ max_words
  pub high : T (not (eq t.height zero+))

pub passed : (t : Text) → check_of t ≡ Ok tt → Passed t
unfolding check_of
passed t = go (all_finite (numbers t)) (all_allowed (numbers t)) (leb (length t.widths) max_words) (eq t.height zero+) (λ f a w h. record { finite = f; allowed = a; few = leb→le (length t.widths) max_words w; high = h })
  where
    go : (f a w h : Bool) → (T f → T a → T w → T (not h) → Passed t)
        → ◌≡◌ {A = Result ⊤ TextRefusal} (cond f (cond a (cond w (cond h (Err TextRefusal.NoLineHeight) (Ok tt)) (Err TextRefusal.TooManyWords)) (Err TextRefusal.OutOfLimits)) (Err TextRefusal.NotFinite)) (Ok tt) → Passed t
    go true true true false k e = k tt tt tt tt
    go true true true true k e = absurd (let z : ◌≡◌ {A = ℕ} 0 1 = cc in omega arith)
    go true true false h k e = absurd (let z : ◌≡◌ {A = ℕ} 0 1 = cc in omega arith)
    go true false w h k e = absurd (let z : ◌≡◌ {A = ℕ} 0 1 = cc in omega arith)
    go false a w h k e = absurd (let z : ◌≡◌ {A = ℕ} 0 1 = cc in omega arith)

-- no check says that a line lies too far
pub never_far : (t : Text) (n : TextRefusal) → check_of t ≡ Err n → n ≢ TextRefusal.TooFar
unfolding check_of
never_far t n = go (all_finite (numbers t)) (all_allowed (numbers t)) (leb (length t.widths) max_words) (eq t.height zero+)
  where
    go : (f a w h : Bool) → ◌≡◌ {A = Result ⊤ TextRefusal} (cond f (cond a (cond w (cond h (Err TextRefusal.NoLineHeight) (Ok tt)) (Err TextRefusal.TooManyWords)) (Err TextRefusal.OutOfLimits)) (Err TextRefusal.NotFinite)) (Err n) → n ≢ TextRefusal.TooFar
    go true true true false e d = let z : ◌≡◌ {A = ℕ} 0 1 = cc in omega arith
    go true true true true e d = let z : ◌≡◌ {A = ℕ} 0 1 = cc in omega arith
    go true true false h e d = let z : ◌≡◌ {A = ℕ} 0 1 = cc in omega arith
    go true false w h e d = let z : ◌≡◌ {A = ℕ} 0 1 = cc in omega arith
    go false a w h e d = let z : ◌≡◌ {A = ℕ} 0 1 = cc in omega arith

-- ---- the answer
module _ (p : Page) (t : Text) where
  abbrev all : Told
  all = set_all p.width p.bands (cleaned t)

  -- it is the check's, or that of the lines
  pub told : (P : Told → Type 0) → ((n : TextRefusal) → check_of (cleaned t) ≡ Err n → P (refused n)) → (check_of (cleaned t) ≡ Ok tt → P all) → P (set_words p t)
  unfolding set_words set_on
  told P f g = go (check_of (cleaned t)) refl
    where
      go : (c : Result ⊤ TextRefusal) → check_of (cleaned t) ≡ c → P (elim c [ Ok _ ↦ all | Err n ↦ refused n ])
      go (Ok _) e = g e
      go (Err n) e = f n e

  module _ (xs : List Line) (e : set_words p t ≡ lines xs) where
    comes : (check_of (cleaned t) ≡ Ok tt) × (all ≡ lines xs)
    comes = told (λ r. r ≡ lines xs → (check_of (cleaned t) ≡ Ok tt) × (all ≡ lines xs)) (λ n c e. absurd (let z : ◌≡◌ {A = ℕ} 0 1 = cc in omega arith)) (λ c e. (c, e)) e

    pub text_passed : Passed (cleaned t)
    text_passed = passed (cleaned t) comes.0

    pub lines_set : Sets p.width p.bands (cleaned t) 0 (cleaned t).min_y (cleaned t).widths xs
    lines_set = sets p.width p.bands (cleaned t) (length p.bands + length (cleaned t).widths) 0 (cleaned t).min_y (cleaned t).widths xs comes.1

  -- a line too far comes of the lines
  module _ (e : set_words p t ≡ refused TextRefusal.TooFar) where
    pub comes_far : (check_of (cleaned t) ≡ Ok tt) × (all ≡ refused TextRefusal.TooFar)
    comes_far = told (λ r. r ≡ refused TextRefusal.TooFar → (check_of (cleaned t) ≡ Ok tt) × (all ≡ refused TextRefusal.TooFar)) (λ n c e. absurd (never_far (cleaned t) n c (cc))) (λ c e. (c, e)) e
