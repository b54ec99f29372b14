-- `words::set::set_lines` meets its contract: each turn takes words or moves the line down, as the definition's.
use Rattle.std.proofs.Common.{◌≡◌, ℕ, ◌-◌, List, Float, length, take, drop, refl, sym, ap, subst, ◌∙◌, Bool, arith, rules}
use Rattle.std.specs.Float.{binary32}
use Rattle.std.proofs.lemmas.List.{drop-map, length-map}
use Rattle.f32_laws.specs.Key.{Num}
use Rattle.f32_laws.specs.Numbers.{larger}
use Rattle.f32_laws.proofs.Keys.{num}
use Rattle.float.specs.declared.Segment.{Segment}
use Rattle.float.specs.Bands.{last_end}
use Rattle.words.specs.Lines.{span_at, next_start, moved_to, answered, handed}
use Rattle.words.specs.Laid.{band_of, bands_of, passed_by}
use Rattle.words.proofs.Judging.{part_is, part_few}
use Rattle.words.proofs.Standing.{Stands, stands_first, stands_span, stands_next, stands_rise, stands_passed, stands_bottom, stands_moved}
use Rattle.words.proofs.Going.{going_starts, going_done, going_far, going_moves, going_takes, going_rest, goes, sound}
use Rattle.words.proofs.set.set_lines.Goals as goal

-- where the line stands among the bands that are left
stood : {s : Bool} {y₀ y : Float} {bs : List Segment} (cs : List (List Float)) → Stands s y₀ y bs (bands_of cs) → (k : ℕ) → k ≡ passed_by s (bands_of cs) y → Stands s y₀ y bs (bands_of (take (length cs - k) (drop k cs)))
stood {s} {y₀} {y} {bs} cs h k e = subst (Stands s y₀ y bs) (drop-map band_of k cs ∙ sym (ap bands_of (part_is k cs))) (stands_passed h k e)

-- where it moves to
module _ (y : Float) (bs l : List Segment) {x z u : Float} (p : x ≡ next_start y z l) (q : z ≡ larger y u) (r : u ≡ last_end y bs) where
  lower : x ≡ next_start y (larger y (last_end y bs)) l
  lower = p ∙ ap (λ z. next_start y z l) (q ∙ ap (larger y) r)

  lowered : {s : Bool} {y₀ : Float} → Stands s y₀ y bs l → Num binary32 y₀ → Stands s y₀ x bs l
  lowered {s} {y₀} h n = subst (λ z. Stands s y₀ z bs l) (sym lower) (stands_moved h n)

pub loop-below-init : goal.loop-below-init
loop-below-init c =
    let b = sound _ c.requires.passed c.well_formed.1.1.1.1.1.0.1 c.well_formed.1.1.1.1.1.1.0.1 in
    (going_starts _ _ _ _ refl b.few c.requires.none (sym (length-map c.args.bands.now band_of)), stands_first _ _ _ c.rising-sorted.ensures (num b.top), omega arith)

pub returns-then-turns-in_reach : goal.returns-then-turns-in_reach
unfolding answered handed
returns-then-turns-in_reach c = ap answered (sym (going_far c.loop-below.invariant.0 (search rules) _ c.in_reach.ensures c.if-turns-in_reach.true))

pub span_of-e-requires : goal.span_of-e-requires
span_of-e-requires c = ((goes _ _ _ c.in_reach.ensures c.if-turns-in_reach.false).1, stands_rise (stood c.loop-below.below.now c.loop-below.invariant.1 c.passed-k.result c.passed-k.ensures.count))

pub loop-below-preserved-then-n-eq0 : goal.loop-below-preserved-then-n-eq0
unfolding span_at moved_to
loop-below-preserved-then-n-eq0 c =
    let b = sound _ c.requires.passed c.well_formed.1.1.1.1.1.0.1 c.well_formed.1.1.1.1.1.1.0.1 in
    let g = goes _ _ _ c.in_reach.ensures c.if-turns-in_reach.false in
    let s = stood c.loop-below.below.now c.loop-below.invariant.1 c.passed-k.result c.passed-k.ensures.count in (
      going_moves c.loop-below.invariant.0 c.span_of-e.result (c.span_of-e.ensures ∙ sym (stands_span s _ _)) g.1 c.take_words-n.result (search rules) c.take_words-n.ensures.count g.0 c.if-n-eq0.true c.next_start-y.result
          (lower _ _ _ c.next_start-y.ensures c.larger.ensures c.last_end.ensures ∙ sym (stands_next s _)),
      lowered _ _ _ c.next_start-y.ensures c.larger.ensures c.last_end.ensures s (num b.top),
      omega (arith, c.loop-below.invariant.2, part_few c.passed-k.result c.loop-below.below.now),
    )

pub loop-below-preserved : goal.loop-below-preserved
unfolding span_at
loop-below-preserved c =
    let b = sound _ c.requires.passed c.well_formed.1.1.1.1.1.0.1 c.well_formed.1.1.1.1.1.1.0.1 in
    let g = goes _ _ _ c.in_reach.ensures c.if-turns-in_reach.false in
    let s = stood c.loop-below.below.now c.loop-below.invariant.1 c.passed-k.result c.passed-k.ensures.count in (
      going_rest (going_takes c.loop-below.invariant.0 c.span_of-e.result (c.span_of-e.ensures ∙ sym (stands_span s _ _)) g.1 c.take_words-n.result (search rules) c.take_words-n.ensures.count g.0 (omega (arith, c.if-n-eq0.false)) c.take_words-n.ensures.few)
          (sym (part_is c.take_words-n.result c.loop-below.rest.now)),
      stands_bottom s c.args.height b.top b.height b.up g.1,
      omega (arith, c.loop-below.invariant.2, part_few c.passed-k.result c.loop-below.below.now),
    )

pub returns : goal.returns
unfolding handed
returns c = going_done c.loop-below.invariant.0 (search rules)
