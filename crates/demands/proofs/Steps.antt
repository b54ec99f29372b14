use Rattle.std.specs.Prelude.{Result, Ok, Err}
-- A placement on n bands takes at most 2n steps: each step moves the start or the end on, so the steps are at most the two numbers together.
use Prim.Native.Nat.{ℕ, ◌+◌, ◌≤◌}
use native.Mathlib.Omega.{arith}
use mathlib.Core.List.{List}
use lib.Dec.{ltb, eqb}
use lib.Ieee.{Float, le}
use lib.ListN.{length, get_or}
use Rattle.f32_laws.specs.Numbers.{larger}
use Rattle.f32_laws.proofs.Tests.{both}
use Rattle.float.specs.declared.Segment.{Segment}
use Rattle.float.specs.declared.fit.Ask.{Ask}
use Rattle.float.specs.declared.search.Reach.{Reach}
use Rattle.float.specs.declared.search.Spot.{Spot}
use Rattle.float.specs.Bands.{lead, trail, none}
use Rattle.float.specs.Page.{Page}
use Rattle.float.specs.Fit.{fits}
use Rattle.float.specs.Search.{Try, State, at_start, at_end, joined, opened, taller, high_turn, join_turn, end_turn, fit_turn, start_turn, turn, search_from}
use Rattle.float.specs.Place.{Call, cleaned, ask_of, spot_of, place}
use Rattle.demands.proofs.Turns.{Ordered, Keeps, search_has}
use Rattle.demands.proofs.First.{first_le}
use Rattle.demands.proofs.Ways.{place_ways}
use Rattle.float.specs.declared.Refusal.{Refusal}
use Rattle.float.specs.declared.Position.{Position}

module _ (l : List Segment) (a : Ask) where
  abbrev Good : State → Type 0
  Good (at_start t) = t.steps ≤ t.start + t.end
  Good (at_end t j) = t.steps ≤ t.start + t.end

  abbrev Few : Spot → Type 0
  Few p = p.steps ≤ length l + length l

  end_few : (t : Try) (j : Reach) → t.start ≤ t.end → t.end ≤ length l → t.steps ≤ t.start + t.end → Keeps l a Good Few (end_turn l a t j)
  unfolding end_turn join_turn high_turn
  end_few t j h i g =
      let e = t.end in
      let b = get_or l e none in
      let o = joined a.side j b in
      let K = Keeps l a Good Few in
      both K (ltb e (length l)) (λ r. both K (fits a o.lead o.trail) (λ u. both K (le a.height (taller o b (eqb e t.start)).height) (λ v. omega arith) (λ v. omega arith)) (λ u. omega arith)) (λ r. omega arith)

  turn_few : (st : State) → Ordered l a st → Good st → Keeps l a Good Few (turn l a st)
  unfolding start_turn fit_turn
  turn_few (at_start t) o g =
      let s = t.start in
      let b = get_or l s none in
      let z = larger t.y b.start in
      let K = Keeps l a Good Few in
      both K (ltb s (length l)) (λ r. both K (fits a (lead a.side b) (trail a.side b)) (λ u. end_few _ (opened a.side b z) o.0 o.1 g) (λ u. omega arith)) (λ r. omega (arith, o.0, o.1))
  turn_few (at_end t j) o g = end_few t j o.1 o.2 g

  search_few : (s : ℕ) (y : Float) → s ≤ length l → Few (search_from l a s y)
  search_few s y h = search_has l a Good Few turn_few s y h (omega arith)

-- the steps of an answer are at most 2n
abbrev pub StepsTo : ℕ → Result Position Refusal → Type 0
StepsTo n (Ok s) = s.steps ≤ n + n
StepsTo n (Err m) = Unit {0}

spot_few : (p : Page) (c : Call) → (spot_of p c).steps ≤ length p.bands + length p.bands
unfolding spot_of
spot_few p c = search_few p.bands (ask_of p c) _ _ (first_le p.bands _ _)

pub place_few : (p : Page) (c : Call) → StepsTo (length p.bands) (place p c).answer
place_few p c = place_ways (λ r. StepsTo (length p.bands) r.answer) p c (λ n. tt) (spot_few p (cleaned c)) (spot_few p (cleaned c))
