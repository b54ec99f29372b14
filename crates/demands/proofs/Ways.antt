use Rattle.std.specs.Prelude.{Result, Ok, Err, ⊤}
-- The ways of a placement, on pages: refused, flat, or high; and of setting the width.
use mathlib.Core.Bool.{◌&&◌}
use lib.Dec.{T, ltb, leb}
use lib.Ieee.{Float, eq}
use lib.ListN.{length}
use Rattle.f32_laws.specs.Numbers.{zero+}
use Rattle.f32_laws.proofs.Tests.{both}
use Rattle.float.specs.declared.Refusal.{Refusal}
use Rattle.float.specs.declared.fit.Ask.{Ask}
use Rattle.float.specs.declared.search.Spot.{Spot}
use Rattle.float.specs.Numbers.{plus_zero, all_finite, all_allowed}
use Rattle.float.specs.Page.{Page, max_bands, max_boxes}
use Rattle.float.specs.Place.{Call, cleaned, numbers, PlaceResult, Made, make, recorded, refuse, accept, near, high, flat, put, ask_of, spot_of, admitted, checked, place, width_check, with_width, if_done, set_width}
use Rattle.demands.proofs.Input.{check_both}

-- the numbers of an accepted call are allowed, and at y its box is near enough
abbrev pub Nears : Page → Call → Float → Type 0
Nears p c y = T (all_finite (numbers c)) × T (all_allowed (numbers c)) × T (near (ask_of p c) (spot_of p c).inset y)

module _ (P : PlaceResult → Type 0) (p : Page) (c : Call) where
  abbrev ask : Ask
  ask = ask_of p (cleaned c)

  abbrev found : Spot
  found = spot_of p (cleaned c)

  abbrev made : Made
  made = make ask p.bands found

  pub place_facts : ((n : Refusal) → P (refuse p n)) → (Nears p (cleaned c) found.y → P (accept p ask found found.y)) → (Nears p (cleaned c) made.y → P (accept (recorded p ask found.inset made) ask found made.y)) → P (place p c)
  unfolding place checked admitted put flat high
  place_facts r f h =
      check_both P (ltb c.side 2 && ltb c.clear 4) (numbers (cleaned c))
      (λ t u. both P (ltb (length p.boxes) max_boxes)
      (λ w. both P (eq ask.height zero+)
      (λ x. both P (near ask found.inset found.y) (λ z. f (t, u, z)) (λ z. r Refusal.TooFar))
      (λ x. both P (near ask found.inset made.y) (λ z. both P (leb (length made.bands) max_bands) (λ l. h (t, u, z)) (λ l. r Refusal.BandsFull)) (λ z. r Refusal.TooFar)))
      (λ w. r Refusal.BoxesFull))
      (λ n o. r n)

  pub place_ways : ((n : Refusal) → P (refuse p n)) → P (accept p ask found found.y) → P (accept (recorded p ask found.inset made) ask found made.y) → P (place p c)
  place_ways r f h = place_facts r (λ t. f) (λ t. h)

pub width_ways : (P : Page → Type 0) (p : Page) (w : Float) → P p → P (with_width p (plus_zero w)) → P (set_width p w)
unfolding set_width
width_ways P p w old new = go (width_check p.boxes (plus_zero w))
  where
    go : (d : Result ⊤ Refusal) → P (if_done d (with_width p (plus_zero w)) p)
    go (Ok _) = new
    go (Err n) = old
