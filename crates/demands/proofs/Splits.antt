-- Every split falls strictly inside its band: the search takes a start with y at its start or strictly inside, and the end is split by its own test.
use mathlib.Core.Path.{◌≡◌, refl, ap}
use mathlib.Core.Logic.{◌⊎◌, inl, inr}
use Prim.Native.Nat.{ℕ, suc, ◌-◌, ◌≤◌, ◌<◌, max}
use native.Mathlib.Nat.{not-suc-le-zero}
use native.Mathlib.Decide.{dec_le}
use native.Mathlib.Omega.{arith}
use mathlib.Core.Bool.{true, not}
use mathlib.Core.List.{List, [], ◌∷◌, ◌++◌}
use lib.Dec.{T, ltb, eqb, ltb→lt, nltb→le, T_not}
use lib.Ieee.{Float, inf, binary32, add, lt, le, eq}
use lib.Ieee.Fits.{and_l, and_r}
use lib.ListN.{length, get_or}
use Rattle.f32_laws.specs.Numbers.{larger}
use Rattle.f32_laws.specs.Key.{Num}
use Rattle.f32_laws.proofs.Tests.{both}
use Rattle.f32_laws.proofs.Keys.{lt→key, key→lt, key→eq}
use Rattle.f32_laws.proofs.Larger.{larger_num, larger_key}
use Rattle.float.specs.declared.Segment.{Segment}
use Rattle.float.specs.declared.fit.Ask.{Ask}
use Rattle.float.specs.declared.search.Reach.{Reach}
use Rattle.float.specs.declared.search.Spot.{Spot}
use Rattle.float.specs.Bands.{lead, trail, none, split_at}
use Rattle.float.specs.Fit.{fits}
use Rattle.float.specs.Search.{Try, State, at_start, at_end, joined, opened, taller, give_up, high_turn, join_turn, end_turn, fit_turn, start_turn, turn, search_from}
use Rattle.float.specs.Place.{Made, seed, end_of, below_all, walked, inside, started_at, make}
use Rattle.demands.specs.Runs.{StrictlyIn, StartSplit, EndSplit}
use Rattle.demands.proofs.Laws.{k}
use Rattle.demands.proofs.Chain.{Chain, chain_at, chain_next}
use Rattle.demands.proofs.Turns.{Ordered, Keeps, search_has}

-- ---- the ways of rules 6 and 7, with what the tests say of a split
module _ (P : Made → Type 0) (a : Ask) (l : List Segment) where
  module _ (s e : ℕ) (y : Float) where
    abbrev b : Float
    b = add binary32 y a.height

    abbrev w : ℕ
    w = walked l s b e

    -- the end band split or left, or running past the last
    pub started_ways : (e < length l → StrictlyIn (get_or l w none) b → P (record { bands = split_at l w b; start = s; end = w; y = y })) → (e < length l → P (record { bands = l; start = s; end = w; y = y }))
        → (length l ≤ e → T (lt (end_of l) b) → P (record { bands = l ++ seed a (end_of l) b ∷ []; start = s; end = length l; y = y })) → (length l ≤ e → T (not (lt (end_of l) b)) → P (record { bands = l; start = s; end = length l - 1; y = y }))
        → P (started_at a l s e y)
    started_ways f g h i =
        let d = get_or l w none in
        both P (ltb e (length l))
        (λ t. let o = ltb→lt e (length l) t in both P (inside d b) (λ u. f o (and_l (lt d.start b) (lt b d.end) u, and_r (lt d.start b) (lt b d.end) u)) (λ u. g o))
        (λ t. let o = nltb→le e (length l) t in both P (lt (end_of l) b) (h o) (i o))

  -- the start band left or split, or below all
  pub make_ways : (p : Spot) → (p.start < length l → P (started_at a l p.start p.end p.y))
      → (p.start < length l → T (not (eq p.y (get_or l p.start none).start)) → P (started_at a (split_at l p.start p.y) (suc p.start) (suc p.end) p.y))
      → (length l ≤ p.start → P (below_all a l (end_of l) p.y)) → P (make a l p)
  unfolding make
  make_ways p f g h =
      both P (ltb p.start (length l))
      (λ t. let o = ltb→lt p.start (length l) t in both P (eq p.y (get_or l p.start none).start) (λ u. f o) (g o))
      (λ t. h (nltb→le p.start (length l) t))

-- ---- the start
-- y is the band's start, or strictly inside
pub record Within (b : Segment) (y : Float) : Type 0 where
  pub num : Num binary32 y
  pub at : (k y ≡ k b.start) ⊎ ((k b.start < k y) × (k y < k b.end))

module _ (l : List Segment) (a : Ask) (c : Chain (inf true) l) where
  abbrev Good : State → Type 0
  Good (at_start t) = Num binary32 t.y × (t.start < length l → (k t.y ≤ k (get_or l t.start none).start) ⊎ (k t.y < k (get_or l t.start none).end))
  Good (at_end t j) = Within (get_or l t.start none) t.y

  abbrev pub Taken : Spot → Type 0
  Taken p = p.start < length l → Within (get_or l p.start none) p.y

  -- the next band starts where this one ends
  gives_up : (t : Try) → Num binary32 t.y → k t.y ≤ k (get_or l t.start none).end → Keeps l a Good Taken (give_up t)
  gives_up t v o = (v, λ h. inl (omega (arith, ap k (chain_next (inf true) l t.start c h))))

  end_in : (t : Try) (j : Reach) → t.start < length l → Within (get_or l t.start none) t.y → Keeps l a Good Taken (end_turn l a t j)
  unfolding end_turn join_turn high_turn
  end_in t j h w =
      let e = t.end in
      let b = get_or l e none in
      let i = joined a.side j b in
      let K = Keeps l a Good Taken in
      both K (ltb e (length l))
      (λ r. both K (fits a i.lead i.trail)
      (λ u. both K (le a.height (taller i b (eqb e t.start)).height) (λ v o. w) (λ v. w))
      (λ u. gives_up t w.num (up_to w.at)))
      (λ r o. w)
    where
      up_to : (k t.y ≡ k (get_or l t.start none).start) ⊎ ((k (get_or l t.start none).start < k t.y) × (k t.y < k (get_or l t.start none).end)) → k t.y ≤ k (get_or l t.start none).end
      up_to (inl e) = omega (arith, (chain_at (inf true) l t.start c h).order)
      up_to (inr e) = omega (arith, e.1)

  turn_in : (st : State) → Ordered l a st → Good st → Keeps l a Good Taken (turn l a st)
  unfolding start_turn fit_turn
  turn_in (at_start t) o g =
      let b = get_or l t.start none in
      let z = larger t.y b.start in
      let K = Keeps l a Good Taken in
      both K (ltb t.start (length l))
      (λ r. let h = ltb→lt t.start (length l) r in both K (fits a (lead a.side b) (trail a.side b)) (λ u. end_in _ (opened a.side b z) h (raised h (g.1 h))) (λ u. gives_up t g.0 (up_to h (g.1 h))))
      (λ r h. absurd (not-suc-le-zero {n = 0} (omega (arith, nltb→le t.start (length l) r))))
    where
      up_to : t.start < length l → (k t.y ≤ k (get_or l t.start none).start) ⊎ (k t.y < k (get_or l t.start none).end) → k t.y ≤ k (get_or l t.start none).end
      up_to h (inl e) = omega (arith, (chain_at (inf true) l t.start c h).order)
      up_to h (inr e) = omega arith

      raised : t.start < length l → (k t.y ≤ k (get_or l t.start none).start) ⊎ (k t.y < k (get_or l t.start none).end) → Within (get_or l t.start none) (larger t.y (get_or l t.start none).start)
      raised h e =
          let v = (chain_at (inf true) l t.start c h).start.num in
          let m = larger_key g.0 v in
          record { num = larger_num g.0 v; at = go (dec_le (k t.y) (k (get_or l t.start none).start)) m e }
        where
          go : Dec (k t.y ≤ k (get_or l t.start none).start) → k (larger t.y (get_or l t.start none).start) ≡ max (k t.y) (k (get_or l t.start none).start) → (k t.y ≤ k (get_or l t.start none).start) ⊎ (k t.y < k (get_or l t.start none).end) → (k (larger t.y (get_or l t.start none).start) ≡ k (get_or l t.start none).start) ⊎ ((k (get_or l t.start none).start < k (larger t.y (get_or l t.start none).start)) × (k (larger t.y (get_or l t.start none).start) < k (get_or l t.start none).end))
          go (yes d) m e = inl (omega arith)
          go (no d) m (inl e) = absurd (d e)
          go (no d) m (inr e) = inr (omega arith, omega arith)
  turn_in (at_end t j) o g = end_in t j o.0 g

  pub start_in : (s : ℕ) (y : Float) → s ≤ length l → Num binary32 y → (s < length l → T (lt y (get_or l s none).end)) → Taken (search_from l a s y)
  start_in s y h v t = search_has l a Good Taken turn_in s y h (v, λ o. inr (lt→key v (chain_at (inf true) l s c o).end.num (t o)))

  pub start_split : (p : Spot) → Taken p → p.start < length l → StartSplit a l p
  start_split p w h = make_ways P a l p (λ o. inl refl) (λ o u. inr (strictly (w h) u, refl)) (λ o. absurd (not-suc-le-zero {n = 0} (omega arith)))
    where
      P : Made → Type 0
      P m = (m ≡ started_at a l p.start p.end p.y) ⊎ (StrictlyIn (get_or l p.start none) p.y × (m ≡ started_at a (split_at l p.start p.y) (suc p.start) (suc p.end) p.y))

      strictly : Within (get_or l p.start none) p.y → T (not (eq p.y (get_or l p.start none).start)) → StrictlyIn (get_or l p.start none) p.y
      strictly v u = go v.at
        where
          go : (k p.y ≡ k (get_or l p.start none).start) ⊎ ((k (get_or l p.start none).start < k p.y) × (k p.y < k (get_or l p.start none).end)) → StrictlyIn (get_or l p.start none) p.y
          go (inl e) = absurd (T_not (eq p.y (get_or l p.start none).start) u (key→eq v.num (chain_at (inf true) l p.start c h).start.num e))
          go (inr e) = let b = chain_at (inf true) l p.start c h in (key→lt b.start.num v.num e.0, key→lt v.num b.end.num e.1)

-- ---- the end
pub end_split : (a : Ask) (l : List Segment) (s e : ℕ) (y : Float) → e < length l → EndSplit a l s e y
end_split a l s e y h = started_ways P a l s e y (λ o u. inr (u, refl)) (λ o. inl refl) (λ o. absurd (not-suc-le-zero {n = 0} (omega arith))) (λ o. absurd (not-suc-le-zero {n = 0} (omega arith)))
  where
    i : ℕ
    i = walked l s (add binary32 y a.height) e

    P : Made → Type 0
    P m = (m.bands ≡ l) ⊎ (StrictlyIn (get_or l i none) (add binary32 y a.height) × (m.bands ≡ split_at l i (add binary32 y a.height)))
