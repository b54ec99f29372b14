-- Laws of the search for every list and every float: where its answer lies, how many steps it counts, and that its fuel is never used up.
-- A turn that gives something up raises the sum of start and end, which is at most twice the number of bands.
use Rattle.std.proofs.Common.{◌≡◌, ℕ, zero, suc, ◌+◌, ◌<◌, ◌≤◌, Bool, true, false, cond, eqb, ltb, List, length, get_or, sym, refl, ◌∙◌, subst, le_of_suc-le-suc, not-suc-le-zero, arith, ltb-true}
use lib.Ieee.{Float, le}
use Rattle.f32_laws.specs.Numbers.{larger, zero+}
use Rattle.float.specs.declared.Segment.{Segment}
use Rattle.float.specs.declared.fit.Ask.{Ask}
use Rattle.float.specs.declared.search.Reach.{Reach}
use Rattle.float.specs.declared.search.Spot.{Spot}
use Rattle.float.specs.Bands.{none, lead, trail}
use Rattle.float.specs.Fit.{fits}
use Rattle.float.specs.Search.{Try, State, at_start, at_end, Turn, stop, again, try_from, spot, joined, opened, taller, give_up, high_turn, join_turn, end_turn, fit_turn, start_turn, turn, search, search_from}
use Rattle.float.proofs.Turns.{go_again, go_stop}

-- where a state stands
abbrev try_of : State → Try
try_of (at_start t) = t
try_of (at_end t j) = t

-- a spot among n bands, reached from where the search stood: each step more has raised the sum of start and end by one at least
pub record Onward (n : ℕ) (t : Try) (p : Spot) : Type 0 where
  pub falls : t.start ≤ p.start
  pub ordered : p.start ≤ p.end
  pub among : p.end ≤ n
  pub counted : p.steps + t.start + t.end ≤ t.steps + p.start + p.end

module _ (l : List Segment) (a : Ask) where
  -- a turn from t: it stops further on, or leaves a state one step further on, whatever its inset is to be
  abbrev After : Try → Turn → Type 0
  After t (stop p) = Onward (length l) t p
  After t (again st) = Onward (length l) t (spot (try_of st) zero+) × ((try_of st).steps ≡ suc t.steps)

  branch : (P : Turn → Type 0) (b : Bool) (t u : Turn) → (b ≡ true → P t) → P u → P (cond b t u)
  branch P true t u f g = f refl
  branch P false t u f g = g

  module _ (t : Try) (so : t.start ≤ t.end) (eo : t.end ≤ length l) where
    -- the same with another y
    abbrev with_y : Float → Try
    with_y y = record { start = t.start; end = t.end; y = y; steps = t.steps }

    stay : (y i : Float) → Onward (length l) t (spot (with_y y) i)
    stay y i = record { falls = omega arith; ordered = so; among = eo; counted = omega arith }

    lower : (y : Float) → t.start < length l → After t (give_up (with_y y))
    lower y h = (record { falls = omega arith; ordered = omega arith; among = omega arith; counted = omega arith }, refl)

    after_end : (y : Float) (j : Reach) → After t (end_turn l a (with_y y) j)
    unfolding end_turn join_turn high_turn
    after_end y j =
        branch (After t) (ltb t.end (length l)) _ _
        (λ h.
        let i : t.end < length l = ltb-true _ _ h in
        let b = get_or l t.end none in
        let g = joined a.side j b in
        branch (After t) (fits a g.lead g.trail) _ _
        (λ f. branch (After t) (le a.height (taller g b (eqb t.end t.start)).height) _ _ (λ u. stay y _) (record { falls = omega arith; ordered = omega arith; among = omega arith; counted = omega arith }, refl))
        (lower y (omega arith)))
        (stay y _)

  after : (st : State) → (try_of st).start ≤ (try_of st).end → (try_of st).end ≤ length l → After (try_of st) (turn l a st)
  unfolding start_turn fit_turn
  after (at_start t) so eo =
      branch (After t) (ltb t.start (length l)) _ _
      (λ h.
      let b = get_or l t.start none in
      branch (After t) (fits a (lead a.side b) (trail a.side b)) _ _
      (λ f. after_end t so eo (larger t.y b.start) (opened a.side b (larger t.y b.start)))
      (lower t so eo t.y (ltb-true _ _ h)))
      (stay t so eo t.y _)
  after (at_end t j) so eo = after_end t so eo t.y j

  -- st is a state in order with fuel f for what is left
  record Fuelled (f : ℕ) (st : State) : Type 0 where
    ordered : (try_of st).start ≤ (try_of st).end
    among : (try_of st).end ≤ length l
    enough : length l + length l ≤ f + (try_of st).start + (try_of st).end

  -- the answer lies onward, and more fuel changes nothing
  record Ends (f : ℕ) (st : State) : Type 0 where
    onward : Onward (length l) (try_of st) (search f l a st)
    same : (g : ℕ) → f ≤ g → search g l a st ≡ search f l a st

  stopped : (f : ℕ) (st : State) (p : Spot) → turn l a st ≡ stop p → After (try_of st) (stop p) → Ends f st
  stopped f st p e o = record {
    onward = subst (Onward (length l) (try_of st)) (sym (go_stop l a f st p e)) o;
    same = λ g h. go_stop l a g st p e ∙ sym (go_stop l a f st p e);
  }

  stepped : (f : ℕ) (st x : State) → turn l a st ≡ again x → After (try_of st) (again x) → Ends f x → Ends (suc f) st
  stepped f st x e (o, c) w = record {
    onward =
        subst (Onward (length l) (try_of st)) (sym (go_again l a f st x e))
        (record { falls = omega arith; ordered = w.onward.ordered; among = w.onward.among; counted = omega arith });
    same = more;
  }
    where
      more : (g : ℕ) → suc f ≤ g → search g l a st ≡ search (suc f) l a st
      more zero h = absurd (not-suc-le-zero h)
      more (suc g) h = go_again l a g st x e ∙ w.same g (le_of_suc-le-suc h) ∙ sym (go_again l a f st x e)

  ends : (f : ℕ) (st : State) → Fuelled f st → Ends f st
  ends zero st u = go (turn l a st) refl (after st u.ordered u.among)
    where
      go : (t : Turn) → turn l a st ≡ t → After (try_of st) t → Ends zero st
      go (stop p) e o = stopped zero st p e o
      go (again x) e (o, c) = absurd (omega arith)
  ends (suc f) st u = go (turn l a st) refl (after st u.ordered u.among) (λ x v. ends f x v)
    where
      go : (t : Turn) → turn l a st ≡ t → After (try_of st) t → ((x : State) → Fuelled f x → Ends f x) → Ends (suc f) st
      go (stop p) e o rest = stopped (suc f) st p e o
      go (again x) e (o, c) rest = stepped f st x e (o, c) (rest x (record { ordered = o.ordered; among = o.among; enough = omega arith }))

  module _ (first : ℕ) (y : Float) (h : first ≤ length l) where
    from : Ends (length l + length l) (at_start (try_from first y))
    from = ends (length l + length l) (at_start (try_from first y)) (record { ordered = omega arith; among = h; enough = omega arith })

    -- the answer lies between the first band allowed and the number of bands
    pub spot_onward : Onward (length l) (try_from first y) (search_from l a first y)
    unfolding search_from
    spot_onward = from.onward

    -- with n bands the step count is at most 2n
    pub steps_most : (search_from l a first y).steps ≤ length l + length l
    steps_most = let o = spot_onward in omega arith

    -- the fuel is never used up: with more of it the search gives the same
    pub fuel_enough : (g : ℕ) → length l + length l ≤ g → search g l a (at_start (try_from first y)) ≡ search_from l a first y
    unfolding search_from
    fuel_enough = from.same
