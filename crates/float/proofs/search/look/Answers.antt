-- `float::search::look` meets its contract. Both loops' invariants say that the search comes from its first state to this one with the steps counted so far;
-- a start or an end that is given up raises the sum of the two, so there are at most two steps a band.
use Rattle.std.proofs.Common.{◌≡◌, ℕ, ◌+◌, ◌≤◌, List, length, sym, refl, ap, ◌∙◌, Float, arith}
use Rattle.float.specs.declared.Segment.{Segment}
use Rattle.float.specs.declared.fit.Ask.{Ask}
use Rattle.float.specs.declared.search.Spot.{Spot}
use Rattle.float.specs.Bands.{first_below}
use Rattle.float.specs.Search.{search_from, State, at_start, try_from, stop, turn}
use Rattle.float.proofs.Bands.{below_length}
use Rattle.float.proofs.Turns.{Comes, comes_first, comes_again, comes_same, finish, start_out, start_no, start_yes, end_out, end_no, end_yes, end_short, end_done}
use Rattle.float.proofs.search.look.Goals as goal

-- what is found from the first band that ends below y is what is found
found : (l : List Segment) (a : Ask) (f first : ℕ) (y : Float) → first ≡ first_below l f y → {st : State} (s : Spot) {k : ℕ} → Comes l a (at_start (try_from first y)) st k → k ≤ length l + length l → turn l a st ≡ stop s → s ≡ search_from l a (first_below l f y) y
found l a f first y e s c m t = finish l a first y s c m t ∙ ap (λ (k : ℕ). search_from l a k y) e

pub outer-init : goal.outer-init
outer-init c = let b = below_length c.args.min_y c.args.bands.now c.args.f in (omega arith, omega (arith, c.first_below-first.ensures), omega arith, comes_first _ _ _)

pub outer-preserved-then-not-start_fits : goal.outer-preserved-then-not-start_fits
outer-preserved-then-not-start_fits c =
    let m = c.max-end.ensures in
    (omega arith, omega arith, omega arith, comes_again _ _ c.outer.invariant.3 (start_no _ _ _ _ m c.if-start-n.false (sym c.start_fits.ensures ∙ c.if-not-start_fits.true)))

pub loop-end-init : goal.loop-end-init
loop-end-init c = (
  refl,
  omega arith,
  omega arith,
  omega arith,
  omega arith,
  comes_same _ _ _ c.outer.invariant.3 (start_yes _ _ _ _ _ c.larger-y.ensures c.opened-reach.ensures c.if-start-n.false (sym c.start_fits.ensures ∙ c.if-not-start_fits.false)),
)

pub outer-preserved : goal.outer-preserved
outer-preserved c =
    let m = c.max-end-then-not-fits.ensures in
    (omega arith, omega arith, omega arith, comes_again _ _ c.loop-end.invariant.5 (end_no _ _ _ _ _ m c.if-end-n.false _ c.joined-reach.ensures (sym c.fits.ensures ∙ c.if-not-fits.true)))

pub loop-end-preserved : goal.loop-end-preserved
loop-end-preserved c = (
  c.loop-end.invariant.0,
  omega arith,
  omega arith,
  omega arith,
  omega arith,
  comes_again _ _ c.loop-end.invariant.5
      (end_short _ _ _ _ _
      (end_yes _ _ _ _ c.if-end-n.false _ c.joined-reach.ensures (sym c.fits.ensures ∙ c.if-not-fits.false) _ c.taller-reach.ensures)
      (sym c.tall.ensures ∙ c.if-not-tall.true)),
)

pub returns-then-start-n : goal.returns-then-start-n
returns-then-start-n c = found _ _ _ _ _ c.first_below-first.ensures _ c.outer.invariant.3 (omega arith) (start_out _ _ _ c.if-start-n.true)

pub returns-then-end-n : goal.returns-then-end-n
returns-then-end-n c = found _ _ _ _ _ c.first_below-first.ensures _ c.loop-end.invariant.5 (omega arith) (end_out _ _ _ _ _ c.placed_at-inset.ensures c.if-end-n.true)

pub returns-else-not-tall : goal.returns-else-not-tall
returns-else-not-tall c =
    found _ _ _ _ _ c.first_below-first.ensures _ c.loop-end.invariant.5 (omega arith)
    (end_done _ _ _ _ _ _ c.placed_at-inset-in-loop-end.ensures
    (end_yes _ _ _ _ c.if-end-n.false _ c.joined-reach.ensures (sym c.fits.ensures ∙ c.if-not-fits.false) _ c.taller-reach.ensures)
    (sym c.tall.ensures ∙ c.if-not-tall.false))
