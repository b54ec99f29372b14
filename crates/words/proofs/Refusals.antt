use Rattle.std.specs.Prelude.{Result, Ok, Err, ⊤}
-- A text is refused with the first row of the table that applies, and with no other: the check gives the rows before the last, and the lines give that one.
use mathlib.Core.Path.{◌≡◌, refl, sym, ap, subst, ◌∙◌}
use mathlib.Core.Logic.{◌⊎◌, inl, inr, ◌↔◌, ◌≢◌}
use Prim.Native.Nat.{ℕ, zero, suc, ◌+◌}
use native.Mathlib.Omega.{arith}
use mathlib.Core.Bool.{Bool, not}
use mathlib.Core.List.{List, [], ◌∷◌}
use lib.Dec.{T, leb, T_not}
use lib.Ieee.{Float, eq}
use lib.ListN.{length, drop}
use Rattle.f32_laws.specs.Numbers.{zero+}
use Rattle.f32_laws.proofs.Tests.{both}
use Rattle.float.specs.declared.Segment.{Segment}
use Rattle.float.specs.Numbers.{all_finite, all_allowed}
use Rattle.float.specs.Page.{Page}
use Rattle.demands.specs.Runs.{Each}
use Rattle.words.specs.declared.Line.{Line}
use Rattle.words.specs.declared.TextRefusal.{TextRefusal}
use Rattle.words.specs.Text.{Text, cleaned, numbers, check_of, max_words}
use Rattle.words.specs.Lines.{bottom_at, Turn, too_far, moves, takes, turn_at, Told, lines, refused, before, set_from, set_all, set_words}
use Rattle.words.specs.Layout.{Tried, begun, lower, after, PassesFar}
use Rattle.words.specs.Refused.{AppliesTo, order, First, AreLines}
use Rattle.words.proofs.Turned.{is_far}
use Rattle.words.proofs.Setting.{line_at, onward, by_turn}
use Rattle.words.proofs.Checked.{never_far, told}
use Rattle.words.proofs.Limits.{text_finite, text_inside, few_words, height_read}

-- ---- the first that applies
-- the rows that the check gives
abbrev checks : List TextRefusal
checks = TextRefusal.NotFinite ∷ TextRefusal.OutOfLimits ∷ TextRefusal.TooManyWords ∷ TextRefusal.NoLineHeight ∷ []

module _ (A : TextRefusal → Type 0) where
  -- none of these applies
  abbrev None : List TextRefusal → Type 0
  None = Each (λ n. ¬ A n)

  first_none : (ms : List TextRefusal) (n : TextRefusal) → First A ms n → ¬ None ms
  first_none [] n f h = f
  first_none (m ∷ ms) n (inl p) h = h.0 p.1
  first_none (m ∷ ms) n (inr p) h = first_none ms n p.1 h.1

  first_alone : (ms : List TextRefusal) (n o : TextRefusal) → First A ms n → First A ms o → n ≡ o
  first_alone [] n o f g = absurd f
  first_alone (m ∷ ms) n o (inl p) (inl q) = p.0 ∙ sym q.0
  first_alone (m ∷ ms) n o (inl p) (inr q) = absurd (q.0 p.1)
  first_alone (m ∷ ms) n o (inr p) (inl q) = absurd (p.0 q.1)
  first_alone (m ∷ ms) n o (inr p) (inr q) = first_alone ms n o p.1 q.1

  -- where no check does, the last may
  last_first : None checks → A TextRefusal.TooFar → First A order TextRefusal.TooFar
  last_first h a = inr (h.0, inr (h.1.0, inr (h.1.1.0, inr (h.1.1.1.0, inl (refl, a)))))

  first_last : (n : TextRefusal) → None checks → First A order n → (n ≡ TextRefusal.TooFar) × A TextRefusal.TooFar
  first_last n h (inl p) = absurd (h.0 p.1)
  first_last n h (inr (_, inl p)) = absurd (h.1.0 p.1)
  first_last n h (inr (_, inr (_, inl p))) = absurd (h.1.1.0 p.1)
  first_last n h (inr (_, inr (_, inr (_, inl p)))) = absurd (h.1.1.1.0 p.1)
  first_last n h (inr (_, inr (_, inr (_, inr (_, inl p))))) = p
  first_last n h (inr (_, inr (_, inr (_, inr (_, inr p))))) = absurd p.1

-- ---- the check
abbrev Judged : (TextRefusal → Type 0) → Result ⊤ TextRefusal → Type 0
Judged A (Ok _) = None A checks
Judged A (Err n) = First A order n

module _ (w : Float) (l : List Segment) (t : Text) where
  abbrev A : TextRefusal → Type 0
  A = AppliesTo w l t

  judged : Judged A (check_of (cleaned t))
  unfolding check_of
  judged =
      let c = cleaned t in
      both (Judged A) (all_finite (numbers c))
      (λ b2. let n2 = (text_finite t).passed b2 in
      both (Judged A) (all_allowed (numbers c))
      (λ b3. let n3 = (text_inside t b2).passed b3 in
      both (Judged A) (leb (length c.widths) max_words)
      (λ b9. let n9 = (few_words t).passed b9 in
      both (Judged A) (eq c.height zero+)
      (λ a. (inr (n2, inr (n3, inr (n9, inl (refl, subst T (height_read t) a))))))
      (λ b10. (n2, (n3, (n9, (T_not (eq t.height zero+) (subst (λ (b : Bool). T (not b)) (height_read t) b10), tt))))))
      (λ a. (inr (n2, inr (n3, inl (refl, (few_words t).failed a))))))
      (λ a. (inr (n2, inl (refl, (text_inside t b2).failed a)))))
      (λ a. (inl (refl, (text_finite t).failed a)))

-- ---- the lines
module _ (w : Float) (l : List Segment) (t : Text) where
  -- they are refused as too far alone
  abbrev OnlyFar : ℕ → Type 0
  OnlyFar f = (n : TextRefusal) (i : ℕ) (y : Float) (ws : List Float) → set_from f w l t i y ws ≡ refused n → n ≡ TextRefusal.TooFar

  far_on : (f : ℕ) → OnlyFar f → (n : TextRefusal) (i : ℕ) (y v : Float) (vs : List Float) (u : Turn) → onward w l t f i y v vs u ≡ refused n → n ≡ TextRefusal.TooFar
  far_on f r n i y v vs too_far e = cc
  far_on f r n i y v vs (moves z) e = r n i z (v ∷ vs) e
  far_on f r n i y v vs (takes x m) e = go (set_from f w l t (i + suc m) (bottom_at t y) (drop m vs)) refl e
    where
      go : (d : Told) → set_from f w l t (i + suc m) (bottom_at t y) (drop m vs) ≡ d → before (line_at x y i (suc m)) d ≡ refused n → n ≡ TextRefusal.TooFar
      go (lines xs) d e = absurd (let z : ◌≡◌ {A = ℕ} 0 1 = cc in omega arith)
      go (refused o) d e = r n (i + suc m) (bottom_at t y) (drop m vs) (d ∙ e)

  only_far : (f : ℕ) → OnlyFar f
  unfolding set_from
  only_far zero n i y [] e = absurd (let z : ◌≡◌ {A = ℕ} 0 1 = cc in omega arith)
  only_far zero n i y (v ∷ vs) e = cc
  only_far (suc f) n i y [] e = absurd (let z : ◌≡◌ {A = ℕ} 0 1 = cc in omega arith)
  only_far (suc f) n i y (v ∷ vs) e = far_on f (only_far f) n i y v vs (turn_at w l t y v vs) (sym (by_turn w l t f i y v vs (turn_at w l t y v vs) refl) ∙ e)

  -- and where they are set, every line that is tried is set
  record Lined (i : ℕ) (y : Float) (ws : List Float) : Type 0 where
    pub fuel : ℕ
    pub below : List Line
    pub is : set_from fuel w l t i y ws ≡ lines below

  lined_on : (f i : ℕ) (y v : Float) (vs : List Float) (xs : List Line) → set_from f w l t i y (v ∷ vs) ≡ lines xs → (u : Turn) → turn_at w l t y v vs ≡ u → (P : Type 0) → ((g : ℕ) → onward w l t g i y v vs u ≡ lines xs → P) → P
  unfolding set_from
  lined_on zero i y v vs xs e u d P k = absurd (let z : ◌≡◌ {A = ℕ} 0 1 = cc in omega arith)
  lined_on (suc f) i y v vs xs e u d P k = k f (sym (by_turn w l t f i y v vs u d) ∙ e)

  all_lined : {i : ℕ} {y : Float} {ws : List Float} → Lined 0 t.min_y t.widths → Tried w l t i y ws → Lined i y ws
  all_lined s begun = s
  all_lined s (lower {k = i} {y = y} {v = v} {z = z} {vs = vs} d u) =
      let h = all_lined s d in
      lined_on h.fuel i y v vs h.below h.is (moves z) u (Lined i z (v ∷ vs)) (λ g e. record { fuel = g; below = h.below; is = e })
  all_lined s (after {k = i} {n = n} {y = y} {v = v} {x = x} {vs = vs} d u) =
      let h = all_lined s d in
      lined_on h.fuel i y v vs h.below h.is (takes x n) u (Lined (i + suc n) (bottom_at t y) (drop n vs)) (λ g e. rest g (set_from g w l t (i + suc n) (bottom_at t y) (drop n vs)) refl e)
    where
      rest : (g : ℕ) (r : Told) → set_from g w l t (i + suc n) (bottom_at t y) (drop n vs) ≡ r → {xs : List Line} → before (line_at x y i (suc n)) r ≡ lines xs → Lined (i + suc n) (bottom_at t y) (drop n vs)
      rest g (lines zs) d e = record { fuel = g; below = zs; is = d }
      rest g (refused o) d e = absurd (let z : ◌≡◌ {A = ℕ} 0 1 = cc in omega arith)

  none_far : Lined 0 t.min_y t.widths → ¬ PassesFar w l t
  none_far s p =
      let h = all_lined s p.tried in
      lined_on h.fuel p.above p.top p.word p.rest h.below h.is too_far (is_far w l t p.top p.word p.rest p.far) ⊥ (λ g e. let z : ◌≡◌ {A = ℕ} 0 1 = cc in omega arith)

-- ---- the answer
-- lines, and nothing applies; or the check's row, which is the first that does; or a line too far, and no row of the check applies
abbrev Outcome : (TextRefusal → Type 0) → Told → Type 0
Outcome A (lines xs) = None A order
Outcome A (refused n) = ((n ≢ TextRefusal.TooFar) × First A order n) ⊎ ((n ≡ TextRefusal.TooFar) × None A checks)

module _ (p : Page) (t : Text) where
  abbrev Row : TextRefusal → Type 0
  Row = AppliesTo p.width p.bands t

  outcome : Outcome Row (set_words p t)
  outcome = told p t (Outcome Row) by_check (λ e. by_lines (subst (Judged Row) e (judged p.width p.bands t)) (set_all p.width p.bands (cleaned t)) refl)
    where
      by_check : (n : TextRefusal) → check_of (cleaned t) ≡ Err n → Outcome Row (refused n)
      by_check n e = inl (never_far (cleaned t) n e, subst (Judged Row) e (judged p.width p.bands t))

      by_lines : None Row checks → (r : Told) → set_all p.width p.bands (cleaned t) ≡ r → Outcome Row r
      by_lines h (lines xs) e = (h.0, (h.1.0, (h.1.1.0, (h.1.1.1.0, (none_far p.width p.bands (cleaned t) (record { fuel = _; below = xs; is = e }), tt)))))
      by_lines h (refused n) e = inr (only_far p.width p.bands (cleaned t) _ n _ _ _ e, h)

module _ (A : TextRefusal → Type 0) (n : TextRefusal) where
  before_far : n ≢ TextRefusal.TooFar → (r : Told) → Outcome A r → (r ≡ refused n) ↔ First A order n
  before_far d (lines xs) h = (λ e. absurd (let z : ◌≡◌ {A = ℕ} 0 1 = cc in omega arith), λ f. absurd (first_none A order n f h))
  before_far d (refused m) (inl h) = (λ e. subst (First A order) (cc) h.1, λ f. ap refused (first_alone A order m n h.1 f))
  before_far d (refused m) (inr h) = (λ e. absurd (d (cc)), λ f. absurd (d (first_last A n h.1 f).0))

  -- where a line lies too far only if its bottom passes
  always : (r : Told) → (r ≡ refused TextRefusal.TooFar → A TextRefusal.TooFar) → Outcome A r → (r ≡ refused n) ↔ First A order n
  always (lines xs) g h = (λ e. absurd (let z : ◌≡◌ {A = ℕ} 0 1 = cc in omega arith), λ f. absurd (first_none A order n f h))
  always (refused m) g (inl h) = (λ e. subst (First A order) (cc) h.1, λ f. ap refused (first_alone A order m n h.1 f))
  always (refused m) g (inr h) = (λ e. subst (First A order) (cc) (last_first A h.1 (g (ap refused h.0))), λ f. ap refused (h.0 ∙ sym (first_last A n h.1 f).0))

lines_where : (A : TextRefusal → Type 0) (r : Told) → (r ≡ refused TextRefusal.TooFar → A TextRefusal.TooFar) → Outcome A r → AreLines r ↔ None A order
lines_where A (lines xs) g h = (λ u. h, λ n. tt)
lines_where A (refused m) g (inl h) = (λ u. absurd u, λ n. first_none A order m h.1 n)
lines_where A (refused m) g (inr h) = (λ u. absurd u, λ n. n.1.1.1.1.0 (g (ap refused h.0)))

module _ (p : Page) (t : Text) where
  pub refused_early : (n : TextRefusal) → n ≢ TextRefusal.TooFar → (set_words p t ≡ refused n) ↔ First (AppliesTo p.width p.bands t) order n
  refused_early n d = before_far (AppliesTo p.width p.bands t) n d (set_words p t) (outcome p t)

  module _ (g : set_words p t ≡ refused TextRefusal.TooFar → PassesFar p.width p.bands (cleaned t)) where
    pub refused_first : (n : TextRefusal) → (set_words p t ≡ refused n) ↔ First (AppliesTo p.width p.bands t) order n
    refused_first n = always (AppliesTo p.width p.bands t) n (set_words p t) g (outcome p t)

    pub lines_first : AreLines (set_words p t) ↔ Each (λ n. ¬ AppliesTo p.width p.bands t n) order
    lines_first = lines_where (AppliesTo p.width p.bands t) (set_words p t) g (outcome p t)
