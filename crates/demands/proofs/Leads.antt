-- Rule 1: the placed inset is at least the containing lead inset, whatever the search joins; for it is the larger of two, or that inset itself.
use Prim.Native.Nat.{ℕ, ◌≤◌, ◌<◌}
use mathlib.Core.Bool.{true}
use mathlib.Core.List.{List}
use lib.Dec.{T, ltb, eqb, ltb→lt}
use lib.Ieee.{Float, inf, binary32, le}
use lib.ListN.{length, get_or}
use Rattle.f32_laws.specs.Numbers.{larger}
use Rattle.f32_laws.specs.Key.{Num}
use Rattle.f32_laws.proofs.Tests.{both}
use Rattle.f32_laws.proofs.Order.{refl_le}
use Rattle.f32_laws.proofs.Larger.{larger_num, larger_right}
use Rattle.float.specs.declared.Segment.{Segment}
use Rattle.float.specs.declared.fit.Ask.{Ask}
use Rattle.float.specs.declared.search.Reach.{Reach}
use Rattle.float.specs.declared.search.Spot.{Spot}
use Rattle.float.specs.Bands.{lead, trail, none}
use Rattle.float.specs.Fit.{placed_at, fits}
use Rattle.float.specs.Search.{Try, State, at_start, at_end, joined, opened, taller, high_turn, join_turn, end_turn, fit_turn, start_turn, turn, search_from}
use Rattle.demands.proofs.Laws.{ins_zero}
use Rattle.demands.proofs.Chain.{Chain, chain_at}
use Rattle.demands.proofs.Turns.{Ordered, Keeps, search_has}

module _ (l : List Segment) (a : Ask) (c : Chain (inf true) l) (q : Num binary32 a.cb_lead) where
  -- the joined lead inset is a number
  abbrev Good : State → Type 0
  Good (at_start t) = Unit {0}
  Good (at_end t j) = Num binary32 j.lead

  abbrev pub Leads : Spot → Type 0
  Leads p = T (le a.cb_lead p.inset)

  -- with one band more
  joins : (i : ℕ) (j : Reach) → i < length l → Num binary32 j.lead → Num binary32 (joined a.side j (get_or l i none)).lead
  unfolding joined
  joins i j h v = larger_num v ((chain_at (inf true) l i c h).inset a.side).num

  placed : (x : Float) → Num binary32 x → T (le a.cb_lead (placed_at a x))
  unfolding placed_at
  placed x v = larger_right v q

  end_leads : (t : Try) (j : Reach) → Num binary32 j.lead → Keeps l a Good Leads (end_turn l a t j)
  unfolding end_turn join_turn high_turn taller
  end_leads t j v =
      let e = t.end in
      let b = get_or l e none in
      let i = joined a.side j b in
      let K = Keeps l a Good Leads in
      both K (ltb e (length l))
      (λ h. let w = joins e j (ltb→lt e (length l) h) v in both K (fits a i.lead i.trail) (λ u. both K (le a.height (taller i b (eqb e t.start)).height) (λ z. placed i.lead w) (λ z. w)) (λ u. tt))
      (λ h. placed j.lead v)

  turn_leads : (st : State) → Ordered l a st → Good st → Keeps l a Good Leads (turn l a st)
  unfolding start_turn fit_turn
  turn_leads (at_start t) o g =
      let s = t.start in
      let b = get_or l s none in
      let z = larger t.y b.start in
      let K = Keeps l a Good Leads in
      both K (ltb s (length l))
      (λ h. both K (fits a (lead a.side b) (trail a.side b)) (λ u. end_leads _ (opened a.side b z) (joins s _ (ltb→lt s (length l) h) ins_zero.num)) (λ u. tt))
      (λ h. refl_le q)
  turn_leads (at_end t j) o g = end_leads t j g

  pub search_leads : (s : ℕ) (y : Float) → s ≤ length l → Leads (search_from l a s y)
  search_leads s y h = search_has l a Good Leads turn_leads s y h tt
