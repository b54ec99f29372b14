-- What the loops of a placement go by: the end walks back from where the search ended, and the new bands are written from the last on, each from an old one that still stands.
use Rattle.std.proofs.Common.{◌≡◌, ℕ, ◌-◌, ◌<◌, ◌≤◌, true, false, List, length, get_or, sym, ap, ◌∙◌, arith}
use lib.Ieee.{Float, binary32, add, le}
use Rattle.float.specs.declared.Segment.{Segment}
use Rattle.float.specs.declared.fit.Ask.{Ask}
use Rattle.float.specs.declared.plan.Plan.{Plan}
use Rattle.float.specs.declared.search.Spot.{Spot}
use Rattle.float.specs.Bands.{none, first_below}
use Rattle.float.specs.Hold.{WalkedBack}
use Rattle.float.specs.Place.{walked}
use Rattle.float.specs.Plan.{source, shaped, Tab}
use Rattle.float.specs.Search.{search_from}
use Rattle.float.proofs.Bands.{below_length}
use Rattle.float.proofs.Make.{walk_end, walk_stop, walk_next}
use Rattle.float.proofs.Spot.{spot_onward}

-- ---- what `look` answers lies between its start and the last band
pub looked_order : (l : List Segment) (a : Ask) (f : ℕ) (y : Float) (s : Spot) → s ≡ search_from l a (first_below l f y) y → (s.start ≤ s.end) × (s.end ≤ length l)
looked_order l a f y s e =
    let o = spot_onward l a (first_below l f y) y (below_length y l f) in
    (omega (arith, ap (λ (z : Spot). z.start) e, ap (λ (z : Spot). z.end) e, o.ordered), omega (arith, ap (λ (z : Spot). z.end) e, o.among))

-- ---- the walk back: the invariant, where e is the end so far
pub record Walking (l : List Segment) (a : Ask) (s : Spot) (e : ℕ) : Type 0 where
  pub high : e ≤ s.end
  pub same : walked l s.start (add binary32 s.y a.height) s.end ≡ walked l s.start (add binary32 s.y a.height) e

module _ (l : List Segment) (a : Ask) (s : Spot) (e : ℕ) (w : Walking l a s e) where
  pub walking_next : s.start < e → le (add binary32 s.y a.height) (get_or l e none).start ≡ true → Walking l a s (e - 1)
  walking_next h t = record { high = omega (arith, w.high); same = w.same ∙ walk_next _ _ _ e h t }

  -- it ends at the start, or before a band that the bottom reaches
  back_at : s.end < length l → walked l s.start (add binary32 s.y a.height) e ≡ e → WalkedBack l a s e
  back_at i f = record { inside = λ h. sym (w.same ∙ f); past = λ h. absurd (omega arith) }

  pub walking_end : s.end < length l → e ≤ s.start → WalkedBack l a s e
  walking_end i h = back_at i (walk_end _ _ _ e h)

  pub walking_stop : s.end < length l → le (add binary32 s.y a.height) (get_or l e none).start ≡ false → WalkedBack l a s e
  walking_stop i t = back_at i (walk_stop _ _ _ e t)

-- ---- the writing: the invariant, where q are the bands so far and j is the last place written
pub record Writing (a : Ask) (p : Plan) (l q : List Segment) (j : ℕ) : Type 0 where
  pub low : p.low ≤ j
  pub high : j ≤ p.high
  pub made : Tab (shaped a p) (source p) l q j p.high
