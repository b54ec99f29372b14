-- Laws of the search, a turn at a time: which turn a state takes, and that the turns lead from the first state to the answer.
use Rattle.std.proofs.Common.{◌≡◌, ℕ, zero, suc, ◌+◌, ◌-◌, ◌<◌, ◌≤◌, max, true, false, eqb, ltb, List, length, get_or, sym, ap, ◌∙◌, add-one, arith, le-ltb, lt-ltb}
use lib.Ieee.{Float, le}
use Rattle.f32_laws.specs.Numbers.{larger, zero+}
use Rattle.float.specs.declared.Segment.{Segment}
use Rattle.float.specs.declared.fit.Ask.{Ask}
use Rattle.float.specs.declared.search.Reach.{Reach}
use Rattle.float.specs.declared.search.Spot.{Spot}
use Rattle.float.specs.Bands.{none, lead, trail}
use Rattle.float.specs.Fit.{placed_at, fits}
use Rattle.float.specs.Search.{Try, State, at_start, at_end, Turn, stop, again, try_from, spot, joined, opened, taller, high_turn, join_turn, end_turn, fit_turn, start_turn, turn, search, search_from}

-- what is done with a turn, by what is done with a state that is left
abbrev onward : (State → Spot) → Turn → Spot
onward f t = elim t [ stop s ↦ s | again x ↦ f x ]

module _ (l : List Segment) (a : Ask) where
  pub go_again : (f : ℕ) (st st' : State) → turn l a st ≡ again st' → search (suc f) l a st ≡ search f l a st'
  unfolding search
  go_again f st st' e = ap (onward (λ x. search f l a x)) e

  pub go_stop : (f : ℕ) (st : State) (s : Spot) → turn l a st ≡ stop s → search f l a st ≡ s
  unfolding search
  go_stop zero st s e = ap (onward (λ x. spot (try_from 0 zero+) zero+)) e
  go_stop (suc f) st s e = ap (onward (λ x. search f l a x)) e

  go_same : (f : ℕ) (st st' : State) → turn l a st ≡ turn l a st' → search f l a st ≡ search f l a st'
  unfolding search
  go_same zero st st' e = ap (onward (λ x. spot (try_from 0 zero+) zero+)) e
  go_same (suc f) st st' e = ap (onward (λ x. search f l a x)) e

  -- from st₀ the search comes to st with k moves given up
  pub record Comes (st₀ st : State) (k : ℕ) : Type 0 where
    pub by : (f : ℕ) → search (f + k) l a st₀ ≡ search f l a st

  pub comes_first : (st : State) → Comes st st 0
  comes_first st = record { by = λ f. let e : f + 0 ≡ f = omega arith in ap (λ (n : ℕ). search n l a st) e }

  pub comes_again : {st₀ st st' : State} {k : ℕ} → Comes st₀ st k → turn l a st ≡ again st' → Comes st₀ st' (k + 1)
  comes_again {st₀} {st} {st'} {k} c e =
      record { by = λ f. let n : f + (k + 1) ≡ suc f + k = omega arith in ap (λ (m : ℕ). search m l a st₀) n ∙ c.by (suc f) ∙ go_again f st st' e }

  pub comes_same : {st₀ st : State} (st' : State) {k : ℕ} → Comes st₀ st k → turn l a st ≡ turn l a st' → Comes st₀ st' k
  comes_same {st₀} {st} st' {k} c e = record { by = λ f. c.by f ∙ go_same f st st' e }

  comes_stop : {st₀ st : State} {s : Spot} (k F : ℕ) → Comes st₀ st k → turn l a st ≡ stop s → k ≤ F → s ≡ search F l a st₀
  comes_stop {st₀} {st} {s} k F c e h =
      let n : F ≡ (F - k) + k = omega arith in
      sym (ap (λ (m : ℕ). search m l a st₀) n ∙ c.by (F - k) ∙ go_stop (F - k) st s e)

-- the turns
module _ (l : List Segment) (a : Ask) (t : Try) where
  inn : (i : ℕ) → i < length l → ltb i (length l) ≡ true
  inn i p = lt-ltb i (length l) p

  out : (i : ℕ) → length l ≤ i → ltb i (length l) ≡ false
  out i p = le-ltb i (length l) p

  -- the start is given up: the next state, where the code's larger number is e
  abbrev Lower : ℕ → State
  Lower e = at_start (record { start = t.start + 1; end = e; y = t.y; steps = t.steps + 1 })

  pub start_out : length l ≤ t.start → turn l a (at_start t) ≡ stop (spot t a.cb_lead)
  unfolding start_turn
  start_out p = simp (out t.start p)

  pub start_no : (e : ℕ) → e ≡ max t.end (t.start + 1) → t.start < length l → fits a (lead a.side (get_or l t.start none)) (trail a.side (get_or l t.start none)) ≡ false → turn l a (at_start t) ≡ again (Lower e)
  unfolding start_turn
  start_no e m p f = simp (inn t.start p, f, m, add-one)

  pub start_yes : (y : Float) (r : Reach) → y ≡ larger t.y (get_or l t.start none).start → r ≡ opened a.side (get_or l t.start none) y → t.start < length l → fits a (lead a.side (get_or l t.start none)) (trail a.side (get_or l t.start none)) ≡ true → turn l a (at_start t) ≡ turn l a (at_end (record { start = t.start; end = t.end; y = y; steps = t.steps }) r)
  unfolding start_turn fit_turn
  start_yes y r u v p f = simp (inn t.start p, f, v, u)

  module _ (r : Reach) where
    pub end_out : (i : Float) → i ≡ placed_at a r.lead → length l ≤ t.end → turn l a (at_end t r) ≡ stop (spot t i)
    unfolding end_turn
    end_out i m p = simp (out t.end p, m)

    pub end_no : (e : ℕ) → e ≡ max t.end (t.start + 1) → t.end < length l → (j : Reach) → j ≡ joined a.side r (get_or l t.end none) → fits a j.lead j.trail ≡ false → turn l a (at_end t r) ≡ again (Lower e)
    unfolding end_turn join_turn
    end_no e m p j q f = simp (inn t.end p, sym q, f, m, add-one)

    pub end_yes : t.end < length l → (j : Reach) → j ≡ joined a.side r (get_or l t.end none) → fits a j.lead j.trail ≡ true → (g : Reach) → g ≡ taller j (get_or l t.end none) (eqb t.end t.start) → turn l a (at_end t r) ≡ high_turn a t g
    unfolding end_turn join_turn
    end_yes p j q f g u = simp (inn t.end p, sym q, f, sym u)

    pub end_short : (g : Reach) → turn l a (at_end t r) ≡ high_turn a t g → le a.height g.height ≡ false → turn l a (at_end t r) ≡ again (at_end (record { start = t.start; end = t.end + 1; y = t.y; steps = t.steps + 1 }) g)
    unfolding high_turn
    end_short g p f = p ∙ simp (f, add-one)

    pub end_done : (g : Reach) (i : Float) → i ≡ placed_at a g.lead → turn l a (at_end t r) ≡ high_turn a t g → le a.height g.height ≡ true → turn l a (at_end t r) ≡ stop (spot t i)
    unfolding high_turn
    end_done g i m p f = p ∙ simp (f, m)

pub finish : (l : List Segment) (a : Ask) (first : ℕ) (y : Float) {st : State} (s : Spot) {k : ℕ} → Comes l a (at_start (try_from first y)) st k → k ≤ length l + length l → turn l a st ≡ stop s → s ≡ search_from l a first y
unfolding search_from
finish l a first y s {k = k} c m e = comes_stop l a k (length l + length l) c e m
