-- The search ends: a turn that gives up moves the start or the end on, so 2n moves are enough. So what every turn keeps, the spot has.
use Prim.Native.Nat.{ℕ, zero, suc, ◌+◌, ◌≤◌, ◌<◌}
use native.Mathlib.Omega.{arith}
use mathlib.Core.List.{List}
use lib.Dec.{ltb, eqb, ltb→lt}
use lib.Ieee.{Float, le}
use lib.ListN.{length, get_or}
use Rattle.f32_laws.specs.Numbers.{larger, zero+}
use Rattle.f32_laws.proofs.Tests.{both}
use Rattle.float.specs.declared.Segment.{Segment}
use Rattle.float.specs.declared.fit.Ask.{Ask}
use Rattle.float.specs.declared.search.Reach.{Reach}
use Rattle.float.specs.declared.search.Spot.{Spot}
use Rattle.float.specs.Bands.{lead, trail, none}
use Rattle.float.specs.Fit.{fits}
use Rattle.float.specs.Search.{Try, State, at_start, at_end, Turn, stop, again, try_from, spot, joined, opened, taller, give_up, high_turn, join_turn, end_turn, fit_turn, start_turn, turn, search, search_from}

module _ (l : List Segment) (a : Ask) where
  -- the start and the end, with f moves left
  record Stands (f : ℕ) (t : Try) : Type 0 where
    order : t.start ≤ t.end
    last : t.end ≤ length l
    fuel : length l + length l ≤ f + (t.start + t.end)

  abbrev Led : ℕ → State → Type 0
  Led f (at_start t) = Stands f t
  Led f (at_end t j) = (t.start < length l) × Stands f t

  abbrev Moves : ℕ → Turn → Type 0
  Moves f (stop p) = Unit {0}
  Moves zero (again st) = ⊥
  Moves (suc f) (again st) = Led f st

  gives_up : (f : ℕ) (t : Try) → t.start < length l → Stands f t → Moves f (give_up t)
  gives_up zero t h g = omega (arith, g.fuel, g.last)
  gives_up (suc f) t h g = record { order = omega arith; last = omega (arith, g.last); fuel = omega (arith, g.fuel) }

  goes_on : (f : ℕ) (t : Try) (j : Reach) → t.start < length l → t.end < length l → Stands f t → Moves f (again (at_end (record { start = t.start; end = suc t.end; y = t.y; steps = suc t.steps }) j))
  goes_on zero t j h i g = omega (arith, g.fuel)
  goes_on (suc f) t j h i g = (h, record { order = omega (arith, g.order); last = i; fuel = omega (arith, g.fuel) })

  end_moves : (f : ℕ) (t : Try) (j : Reach) → t.start < length l → Stands f t → Moves f (end_turn l a t j)
  unfolding end_turn join_turn high_turn
  end_moves f t j h g =
      let e = t.end in
      let b = get_or l e none in
      let i = joined a.side j b in
      let o = taller i b (eqb e t.start) in
      both (Moves f) (ltb e (length l))
      (λ r. both (Moves f) (fits a i.lead i.trail)
      (λ u. both (Moves f) (le a.height o.height) (λ v. tt) (λ v. goes_on f t o h (ltb→lt e (length l) r) g))
      (λ u. gives_up f t h g))
      (λ r. tt)

  turn_moves : (f : ℕ) (st : State) → Led f st → Moves f (turn l a st)
  unfolding start_turn fit_turn
  turn_moves f (at_start t) g =
      let s = t.start in
      let b = get_or l s none in
      let z = larger t.y b.start in
      both (Moves f) (ltb s (length l))
      (λ r. let h = ltb→lt s (length l) r in both (Moves f) (fits a (lead a.side b) (trail a.side b)) (λ u. end_moves f _ (opened a.side b z) h (record { order = g.order; last = g.last; fuel = g.fuel })) (λ u. gives_up f t h g))
      (λ r. tt)
  turn_moves f (at_end t j) g = end_moves f t j g.0 g.1

  begun : (s : ℕ) (y : Float) → s ≤ length l → Stands (length l + length l) (try_from s y)
  begun s y h = record { order = omega arith; last = h; fuel = omega arith }

  -- start and end stay in order
  abbrev pub Ordered : State → Type 0
  Ordered (at_start t) = (t.start ≤ t.end) × (t.end ≤ length l)
  Ordered (at_end t j) = (t.start < length l) × (t.start ≤ t.end) × (t.end ≤ length l)

  ordered : (f : ℕ) (st : State) → Led f st → Ordered st
  ordered f (at_start t) g = (g.order, g.last)
  ordered f (at_end t j) g = (g.0, g.1.order, g.1.last)

  module _ (G : State → Type 0) (S : Spot → Type 0) where
    -- what a turn keeps
    abbrev pub Keeps : Turn → Type 0
    Keeps (stop p) = S p
    Keeps (again st) = G st

    search_keeps : ((st : State) → Ordered st → G st → Keeps (turn l a st)) → (f : ℕ) (st : State) → Led f st → G st → S (search f l a st)
    unfolding search
    search_keeps k zero st u g = go (turn l a st) (turn_moves zero st u) (k st (ordered zero st u) g)
      where
        go : (t : Turn) → Moves zero t → Keeps t → S (elim t [ stop p ↦ p | again x ↦ spot (try_from 0 zero+) zero+ ])
        go (stop p) m h = h
        go (again x) m h = absurd m
    search_keeps k (suc f) st u g = go (turn l a st) (turn_moves (suc f) st u) (k st (ordered (suc f) st u) g) (search_keeps k f)
      where
        go : (t : Turn) → Moves (suc f) t → Keeps t → ((st : State) → Led f st → G st → S (search f l a st)) → S (elim t [ stop p ↦ p | again x ↦ search f l a x ])
        go (stop p) m h r = h
        go (again x) m h r = r x m h

    -- THE SEARCH, from its first state on
    pub search_has : ((st : State) → Ordered st → G st → Keeps (turn l a st)) → (s : ℕ) (y : Float) → s ≤ length l → G (at_start (try_from s y)) → S (search_from l a s y)
    unfolding search_from
    search_has k s y h g = search_keeps k (length l + length l) (at_start (try_from s y)) (begun s y h) g
