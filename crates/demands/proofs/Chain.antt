-- What splitting, appending and marking keep of a list of bands: they lie edge to edge, and each band is read by its number.
use mathlib.Core.Path.{◌≡◌, refl, sym, ap, ◌∙◌, subst}
use Prim.Native.Nat.{ℕ, zero, suc, ◌≤◌, ◌<◌}
use native.Mathlib.Nat.{le_of_suc-le-suc, not-suc-le-zero}
use native.Mathlib.Decide.{dec_le}
use native.Mathlib.Omega.{arith}
use mathlib.Core.Bool.{true}
use mathlib.Core.List.{List, [], ◌∷◌, ◌++◌}
use lib.Ieee.{Float}
use lib.ListN.{length, get_or}
use Rattle.float.specs.declared.FloatDirection.{FloatDirection}
use Rattle.float.specs.declared.Segment.{Segment}
use Rattle.float.specs.Bands.{other, lead, has_float, none, spanning, marked, split_at, mark_all, last_end}
use Rattle.demands.specs.Runs.{Each}
use Rattle.demands.proofs.Laws.{k, Val, Ins, Top, val_top}

-- a band whose numbers are in order
pub record Sound (b : Segment) : Type 0 where
  pub start : Top b.start
  pub end : Val b.end
  pub inset : (r : FloatDirection) → Ins (lead r b)
  pub order : k b.start ≤ k b.end

-- sound bands, edge to edge from x on
abbrev pub Chain : Float → List Segment → Type 0
Chain x [] = Unit {0}
Chain x (b ∷ bs) = (b.start ≡ x) × Sound b × Chain b.end bs

pub chain_at : (x : Float) (l : List Segment) (i : ℕ) → Chain x l → i < length l → Sound (get_or l i none)
chain_at x [] i c h = absurd (not-suc-le-zero h)
chain_at x (b ∷ bs) zero c h = c.1
chain_at x (b ∷ bs) (suc i) c h = chain_at b.end bs i c.2 (le_of_suc-le-suc h)

pub chain_next : (x : Float) (l : List Segment) (i : ℕ) → Chain x l → suc i < length l → (get_or l (suc i) none).start ≡ (get_or l i none).end
chain_next x [] i c h = absurd (not-suc-le-zero h)
chain_next x (b ∷ []) i c h = absurd (not-suc-le-zero (le_of_suc-le-suc h))
chain_next x (b ∷ d ∷ bs) zero c h = c.2.0
chain_next x (b ∷ d ∷ bs) (suc i) c h = chain_next b.end (d ∷ bs) i c.2 (le_of_suc-le-suc h)

-- what holds of every end holds of the last
last_has : (P : Float → Type 0) → ((b : Segment) → Sound b → P b.end) → (x : Float) (l : List Segment) → P x → Chain x l → P (last_end x l)
unfolding last_end
last_has P f x [] t c = t
last_has P f x (b ∷ bs) t c = last_has P f b.end bs (f b c.1) c.2

-- a band ends at or above where a later one starts
pub chain_under : (x : Float) (l : List Segment) (i j : ℕ) → Chain x l → i < j → j < length l → k (get_or l i none).end ≤ k (get_or l j none).start
chain_under x l i zero c h u = absurd (not-suc-le-zero h)
chain_under x l i (suc j) c h u = go (dec_le j i) (λ m. chain_under x l i j c m (omega arith))
  where
    go : Dec (j ≤ i) → (i < j → k (get_or l i none).end ≤ k (get_or l j none).start) → k (get_or l i none).end ≤ k (get_or l (suc j) none).start
    go (yes d) r = let e : i ≡ j = omega arith in omega (arith, ap k (chain_next x l j c u), ap (λ (n : ℕ). k (get_or l n none).end) e)
    go (no d) r = omega (arith, ap k (chain_next x l j c u), (chain_at x l j c (omega arith)).order, r (omega arith))

pub chain_last : (x : Float) (l : List Segment) → Top x → Chain x l → Top (last_end x l)
chain_last = last_has Top (λ b s. val_top s.end)

pub last_val : (x : Float) (l : List Segment) → Chain x l → 0 < length l → Val (last_end x l)
unfolding last_end
last_val x [] c h = absurd (not-suc-le-zero h)
last_val x (b ∷ bs) c h = last_has Val (λ b s. s.end) b.end bs c.1.end c.2

pub chain_append : (x : Float) (l : List Segment) (b : Segment) → Chain x l → b.start ≡ last_end x l → Sound b → Chain x (l ++ b ∷ [])
unfolding last_end
chain_append x [] b c e s = (e, s, tt)
chain_append x (d ∷ l) b c e s = (c.0, c.1, chain_append d.end l b c.2 e s)

pub last_append : (x : Float) (l : List Segment) (b : Segment) → last_end x (l ++ b ∷ []) ≡ b.end
unfolding last_end
last_append x [] b = refl
last_append x (d ∷ l) b = last_append d.end l b

pub chain_split : (x : Float) (l : List Segment) (i : ℕ) (y : Float) → Chain x l → Val y → k (get_or l i none).start ≤ k y → k y ≤ k (get_or l i none).end → Chain x (split_at l i y)
unfolding split_at
chain_split x [] i y c v h g = c
chain_split x (b ∷ bs) zero y c v h g = (
  c.0,
  record { start = c.1.start; end = v; inset = c.1.inset; order = h },
  (refl, record { start = val_top v; end = c.1.end; inset = c.1.inset; order = g }, c.2),
)
chain_split x (b ∷ bs) (suc i) y c v h g = (c.0, c.1, chain_split b.end bs i y c.2 v h g)

marked_sound : (r : FloatDirection) (num : ℕ) {v : Float} {b : Segment} → Ins v → Sound b → Sound (marked r v num b)
marked_sound FloatDirection.Left num {v = v} {b = b} p s = record { start = s.start; end = s.end; inset = λ q. elim q as (λ r. Ins (lead r (marked FloatDirection.Left v num b))) [ FloatDirection.Left ↦ p | FloatDirection.Right ↦ s.inset FloatDirection.Right ]; order = s.order }
marked_sound FloatDirection.Right num {v = v} {b = b} p s = record { start = s.start; end = s.end; inset = λ q. elim q as (λ r. Ins (lead r (marked FloatDirection.Right v num b))) [ FloatDirection.Left ↦ s.inset FloatDirection.Left | FloatDirection.Right ↦ p ]; order = s.order }

marked_start : (r : FloatDirection) (v : Float) (num : ℕ) (b : Segment) → (marked r v num b).start ≡ b.start
marked_start FloatDirection.Right v num b = refl
marked_start FloatDirection.Left v num b = refl

pub marked_end : (r : FloatDirection) (v : Float) (num : ℕ) (b : Segment) → (marked r v num b).end ≡ b.end
marked_end FloatDirection.Right v num b = refl
marked_end FloatDirection.Left v num b = refl

marked_lead : (r : FloatDirection) (v : Float) (num : ℕ) (b : Segment) → lead r (marked r v num b) ≡ v
marked_lead FloatDirection.Right v num b = refl
marked_lead FloatDirection.Left v num b = refl

marked_float : (r : FloatDirection) (v : Float) (num : ℕ) (b : Segment) → has_float r (marked r v num b) ≡ true
marked_float FloatDirection.Right v num b = refl
marked_float FloatDirection.Left v num b = refl

marked_trail : (r : FloatDirection) (v : Float) (num : ℕ) (b : Segment) → lead (other r) (marked r v num b) ≡ lead (other r) b
marked_trail FloatDirection.Right v num b = refl
marked_trail FloatDirection.Left v num b = refl

module _ (r : FloatDirection) (v : Float) (num : ℕ) where
  mark_head : (x : Float) (b : Segment) (bs bs' : List Segment) → Ins v → Chain x (b ∷ bs) → Chain b.end bs' → Chain x (marked r v num b ∷ bs')
  mark_head x b bs bs' p c d = (marked_start r v num b ∙ c.0, marked_sound r num p c.1, subst (λ (z : Float). Chain z bs') (sym (marked_end r v num b)) d)

  pub chain_mark : (x : Float) (l : List Segment) (s e : ℕ) → Ins v → Chain x l → Chain x (mark_all r v num l s e)
  unfolding mark_all
  chain_mark x [] s e p c = c
  chain_mark x (b ∷ bs) zero zero p c = mark_head x b bs bs p c c.2
  chain_mark x (b ∷ bs) zero (suc e) p c = mark_head x b bs (mark_all r v num bs zero e) p c (chain_mark b.end bs zero e p c.2)
  chain_mark x (b ∷ bs) (suc s) zero p c = c
  chain_mark x (b ∷ bs) (suc s) (suc e) p c = (c.0, c.1, chain_mark b.end bs s e p c.2)

  pub length_mark : (l : List Segment) (s e : ℕ) → length (mark_all r v num l s e) ≡ length l
  unfolding mark_all
  length_mark [] s e = refl
  length_mark (b ∷ bs) zero zero = refl
  length_mark (b ∷ bs) zero (suc e) = ap suc (length_mark bs zero e)
  length_mark (b ∷ bs) (suc s) zero = refl
  length_mark (b ∷ bs) (suc s) (suc e) = ap suc (length_mark bs s e)

  pub mark_trail : (l : List Segment) (s e i : ℕ) → lead (other r) (get_or (mark_all r v num l s e) i none) ≡ lead (other r) (get_or l i none)
  unfolding mark_all
  mark_trail [] s e i = refl
  mark_trail (b ∷ bs) zero zero zero = marked_trail r v num b
  mark_trail (b ∷ bs) zero zero (suc i) = refl
  mark_trail (b ∷ bs) zero (suc e) zero = marked_trail r v num b
  mark_trail (b ∷ bs) zero (suc e) (suc i) = mark_trail bs zero e i
  mark_trail (b ∷ bs) (suc s) zero i = refl
  mark_trail (b ∷ bs) (suc s) (suc e) zero = refl
  mark_trail (b ∷ bs) (suc s) (suc e) (suc i) = mark_trail bs s e i

  mark_at : (l : List Segment) (s e i : ℕ) → s ≤ i → i ≤ e → i < length l → get_or (mark_all r v num l s e) i none ≡ marked r v num (get_or l i none)
  unfolding mark_all
  mark_at [] s e i a b h = absurd (not-suc-le-zero h)
  mark_at (b ∷ bs) zero zero zero a d h = refl
  mark_at (b ∷ bs) zero zero (suc i) a d h = absurd (not-suc-le-zero d)
  mark_at (b ∷ bs) zero (suc e) zero a d h = refl
  mark_at (b ∷ bs) zero (suc e) (suc i) a d h = mark_at bs zero e i (omega arith) (le_of_suc-le-suc d) (le_of_suc-le-suc h)
  mark_at (b ∷ bs) (suc s) zero zero a d h = absurd (not-suc-le-zero a)
  mark_at (b ∷ bs) (suc s) zero (suc i) a d h = absurd (not-suc-le-zero d)
  mark_at (b ∷ bs) (suc s) (suc e) zero a d h = absurd (not-suc-le-zero a)
  mark_at (b ∷ bs) (suc s) (suc e) (suc i) a d h = mark_at bs s e i (le_of_suc-le-suc a) (le_of_suc-le-suc d) (le_of_suc-le-suc h)

  pub mark_in : (l : List Segment) (s e i : ℕ) → s ≤ i → i ≤ e → i < length l → lead r (get_or (mark_all r v num l s e) i none) ≡ v
  mark_in l s e i a b h = ap (lead r) (mark_at l s e i a b h) ∙ marked_lead r v num (get_or l i none)

  pub mark_float : (l : List Segment) (s e i : ℕ) → s ≤ i → i ≤ e → i < length l → has_float r (get_or (mark_all r v num l s e) i none) ≡ true
  mark_float l s e i a b h = ap (has_float r) (mark_at l s e i a b h) ∙ marked_float r v num (get_or l i none)

  pub mark_after : (l : List Segment) (s e i : ℕ) → e < i → get_or (mark_all r v num l s e) i none ≡ get_or l i none
  unfolding mark_all
  mark_after [] s e i h = refl
  mark_after (b ∷ bs) zero zero zero h = absurd (not-suc-le-zero h)
  mark_after (b ∷ bs) zero zero (suc i) h = refl
  mark_after (b ∷ bs) zero (suc e) zero h = absurd (not-suc-le-zero h)
  mark_after (b ∷ bs) zero (suc e) (suc i) h = mark_after bs zero e i (le_of_suc-le-suc h)
  mark_after (b ∷ bs) (suc s) zero i h = refl
  mark_after (b ∷ bs) (suc s) (suc e) zero h = refl
  mark_after (b ∷ bs) (suc s) (suc e) (suc i) h = mark_after bs s e i (le_of_suc-le-suc h)

-- ---- the old number of band j after a split of band i
unfoldable pub old : ℕ → ℕ → ℕ
old i zero = zero
old zero (suc j) = j
old (suc i) (suc j) = suc (old i j)

pub old_le : (i j : ℕ) → j ≤ i → old i j ≡ j
unfolding old
old_le zero zero h = refl
old_le (suc i) zero h = refl
old_le zero (suc j) h = absurd (not-suc-le-zero h)
old_le (suc i) (suc j) h = ap suc (old_le i j (le_of_suc-le-suc h))

pub old_gt : (i j : ℕ) → i < j → suc (old i j) ≡ j
unfolding old
old_gt i zero h = absurd (not-suc-le-zero h)
old_gt zero (suc j) h = refl
old_gt (suc i) (suc j) h = ap suc (old_gt i j (le_of_suc-le-suc h))

pub length_split : (l : List Segment) (i : ℕ) (y : Float) → i < length l → length (split_at l i y) ≡ suc (length l)
unfolding split_at
length_split [] i y h = absurd (not-suc-le-zero h)
length_split (b ∷ bs) zero y h = refl
length_split (b ∷ bs) (suc i) y h = ap suc (length_split bs i y (le_of_suc-le-suc h))

pub split_lead : (r : FloatDirection) (l : List Segment) (i : ℕ) (y : Float) (j : ℕ) → lead r (get_or (split_at l i y) j none) ≡ lead r (get_or l (old i j) none)
unfolding split_at old
split_lead r [] i y j = refl
split_lead r (b ∷ bs) zero y zero = refl
split_lead r (b ∷ bs) zero y (suc zero) = refl
split_lead r (b ∷ bs) zero y (suc (suc j)) = refl
split_lead r (b ∷ bs) (suc i) y zero = refl
split_lead r (b ∷ bs) (suc i) y (suc j) = split_lead r bs i y j

-- ---- starts and ends after a change
pub split_start : (l : List Segment) (i : ℕ) (y : Float) (j : ℕ) → j ≤ i → (get_or (split_at l i y) j none).start ≡ (get_or l j none).start
unfolding split_at
split_start [] i y j h = refl
split_start (b ∷ bs) zero y zero h = refl
split_start (b ∷ bs) zero y (suc j) h = absurd (not-suc-le-zero h)
split_start (b ∷ bs) (suc i) y zero h = refl
split_start (b ∷ bs) (suc i) y (suc j) h = split_start bs i y j (le_of_suc-le-suc h)

pub split_upper : (l : List Segment) (i : ℕ) (y : Float) → i < length l → (get_or (split_at l i y) i none).end ≡ y
unfolding split_at
split_upper [] i y h = absurd (not-suc-le-zero h)
split_upper (b ∷ bs) zero y h = refl
split_upper (b ∷ bs) (suc i) y h = split_upper bs i y (le_of_suc-le-suc h)

pub split_lower : (l : List Segment) (i : ℕ) (y : Float) → i < length l → (get_or (split_at l i y) (suc i) none).start ≡ y
unfolding split_at
split_lower [] i y h = absurd (not-suc-le-zero h)
split_lower (b ∷ bs) zero y h = refl
split_lower (b ∷ bs) (suc i) y h = split_lower bs i y (le_of_suc-le-suc h)

pub split_end : (l : List Segment) (i : ℕ) (y : Float) (j : ℕ) → i ≤ j → (get_or (split_at l i y) (suc j) none).end ≡ (get_or l j none).end
unfolding split_at
split_end [] i y j h = refl
split_end (b ∷ bs) zero y zero h = refl
split_end (b ∷ bs) zero y (suc j) h = refl
split_end (b ∷ bs) (suc i) y zero h = absurd (not-suc-le-zero h)
split_end (b ∷ bs) (suc i) y (suc j) h = split_end bs i y j (le_of_suc-le-suc h)

pub last_is : (x : Float) (l : List Segment) (i : ℕ) → length l ≡ suc i → last_end x l ≡ (get_or l i none).end
unfolding last_end
last_is x [] i h = absurd (not-suc-le-zero {n = 0} (omega arith))
last_is x (b ∷ []) zero h = refl
last_is x (b ∷ []) (suc i) h = absurd (not-suc-le-zero {n = 0} (omega arith))
last_is x (b ∷ d ∷ bs) zero h = absurd (not-suc-le-zero {n = 0} (omega arith))
last_is x (b ∷ d ∷ bs) (suc i) h = last_is b.end (d ∷ bs) i (omega arith)

module _ (r : FloatDirection) (v : Float) (num : ℕ) where
  pub mark_start : (l : List Segment) (s e i : ℕ) → (get_or (mark_all r v num l s e) i none).start ≡ (get_or l i none).start
  unfolding mark_all
  mark_start [] s e i = refl
  mark_start (b ∷ bs) zero zero zero = marked_start r v num b
  mark_start (b ∷ bs) zero zero (suc i) = refl
  mark_start (b ∷ bs) zero (suc e) zero = marked_start r v num b
  mark_start (b ∷ bs) zero (suc e) (suc i) = mark_start bs zero e i
  mark_start (b ∷ bs) (suc s) zero i = refl
  mark_start (b ∷ bs) (suc s) (suc e) zero = refl
  mark_start (b ∷ bs) (suc s) (suc e) (suc i) = mark_start bs s e i

  pub mark_end : (l : List Segment) (s e i : ℕ) → (get_or (mark_all r v num l s e) i none).end ≡ (get_or l i none).end
  unfolding mark_all
  mark_end [] s e i = refl
  mark_end (b ∷ bs) zero zero zero = marked_end r v num b
  mark_end (b ∷ bs) zero zero (suc i) = refl
  mark_end (b ∷ bs) zero (suc e) zero = marked_end r v num b
  mark_end (b ∷ bs) zero (suc e) (suc i) = mark_end bs zero e i
  mark_end (b ∷ bs) (suc s) zero i = refl
  mark_end (b ∷ bs) (suc s) (suc e) zero = refl
  mark_end (b ∷ bs) (suc s) (suc e) (suc i) = mark_end bs s e i

-- ---- what holds of each band
module _ (P : Segment → Type 0) where
  pub each_split : (y : Float) → ((b : Segment) → P b → P (spanning b b.start y) × P (spanning b y b.end)) → (l : List Segment) (i : ℕ) → Each P l → Each P (split_at l i y)
  unfolding split_at
  each_split y f [] i h = tt
  each_split y f (b ∷ bs) zero h = let d = f b h.0 in (d.0, (d.1, h.1))
  each_split y f (b ∷ bs) (suc i) h = (h.0, each_split y f bs i h.1)

  pub each_mark : (r : FloatDirection) (v : Float) (num : ℕ) → ((b : Segment) → P b → P (marked r v num b)) → (l : List Segment) (s e : ℕ) → Each P l → Each P (mark_all r v num l s e)
  unfolding mark_all
  each_mark r v num f [] s e h = tt
  each_mark r v num f (b ∷ bs) zero zero h = (f b h.0, h.1)
  each_mark r v num f (b ∷ bs) zero (suc e) h = (f b h.0, each_mark r v num f bs zero e h.1)
  each_mark r v num f (b ∷ bs) (suc s) zero h = h
  each_mark r v num f (b ∷ bs) (suc s) (suc e) h = (h.0, each_mark r v num f bs s e h.1)
