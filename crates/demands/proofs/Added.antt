-- A placement adds at most two bands, whatever the search found: a split is one more, and so is an added band.
use Prim.Native.Nat.{ℕ, zero, suc, ◌+◌, ◌≤◌}
use native.Mathlib.Omega.{arith}
use mathlib.Core.List.{List, [], ◌∷◌, ◌++◌}
use lib.Ieee.{Float, binary32, add, lt}
use lib.ListN.{length, length-append}
use Rattle.f32_laws.specs.Numbers.{larger, zero+}
use Rattle.f32_laws.proofs.Tests.{both}
use Rattle.float.specs.declared.Segment.{Segment}
use Rattle.float.specs.declared.fit.Ask.{Ask}
use Rattle.float.specs.declared.search.Spot.{Spot}
use Rattle.float.specs.Refuse.{side_of}
use Rattle.float.specs.Bands.{bare, split_at}
use Rattle.float.specs.Page.{Page}
use Rattle.float.specs.Place.{seed, end_of, gapped, walked, started_at, make, ask_of, spot_of, Call, cleaned, place}
use Rattle.demands.proofs.Chain.{length_mark}
use Rattle.demands.proofs.Splits.{started_ways, make_ways}
use Rattle.demands.proofs.Ways.{place_ways}

-- at most n more than l
abbrev More : List Segment → ℕ → List Segment → Type 0
More l n m = length m ≤ length l + n

one_split : (l : List Segment) (i : ℕ) (y : Float) → More l 1 (split_at l i y)
unfolding split_at
one_split [] i y = omega arith
one_split (b ∷ bs) zero y = omega arith
one_split (b ∷ bs) (suc i) y = omega (arith, one_split bs i y)

one_added : (l : List Segment) (b : Segment) → More l 1 (l ++ b ∷ [])
one_added l b = omega (arith, length-append l (b ∷ []))

module _ (a : Ask) (l : List Segment) where
  -- rule 7 once the start is split: a split end, or an added band
  one_end : (s e : ℕ) (y : Float) → More l 1 (started_at a l s e y).bands
  one_end s e y = started_ways (λ m. More l 1 m.bands) a l s e y (λ o u. one_split l (walked l s b e) b) (λ o. omega arith) (λ o u. one_added l (seed a (end_of l) b)) (λ o u. omega arith)
    where
      b : Float
      b = add binary32 y a.height

  -- rule 6: a gap and the box's own
  one_gap : (z y : Float) → More l 1 (gapped l z y)
  one_gap z y = both (More l 1) (lt z y) (λ u. one_added l (bare z y zero+ zero+)) (λ u. omega arith)

two_more : (a : Ask) (l : List Segment) (p : Spot) → length (make a l p).bands ≤ length l + 2
two_more a l p =
    make_ways (λ m. More l 2 m.bands) a l p
    (λ o. omega (arith, one_end a l p.start p.end p.y))
    (λ o u. omega (arith, one_split l p.start p.y, one_end a (split_at l p.start p.y) (suc p.start) (suc p.end) p.y))
    (λ o. omega (arith, one_gap a l (end_of l) p.y, one_added (gapped l (end_of l) p.y) (seed a (larger (end_of l) p.y) (add binary32 (larger (end_of l) p.y) a.height))))

pub place_more : (p : Page) (c : Call) → length (place p c).page.bands ≤ length p.bands + 2
place_more p c =
    let d = cleaned c in
    let m = make (ask_of p d) p.bands (spot_of p d) in
    place_ways (λ r. More p.bands 2 r.page.bands) p c (λ n. omega arith) (omega arith) (omega (arith, length_mark (side_of c.side) (add binary32 (spot_of p d).inset d.width) (length p.boxes) m.bands m.start m.end, two_more (ask_of p d) p.bands (spot_of p d)))
