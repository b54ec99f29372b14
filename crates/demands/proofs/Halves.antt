-- The fit test taken apart: its trail half keeps a box off the other side's floats, its lead half is what rule 7 rests on.
use lib.Dec.{T}
use lib.Ieee.{Float, binary32, add}
use lib.Ieee.Fits.{and_i, and_l, and_r}
use Rattle.float.specs.declared.fit.Ask.{Ask}
use Rattle.float.specs.Fit.{passes, placed_at, fits}

module _ (a : Ask) (lead trail : Float) where
  abbrev far : Float
  far = add binary32 (placed_at a lead) a.width

  abbrev TrailHalf : Type 0
  TrailHalf = T (passes trail far a.page trail)

  abbrev LeadHalf : Type 0
  LeadHalf = T (passes lead far a.page a.cb_trail)

  pub lead_half : T (fits a lead trail) → LeadHalf
  unfolding fits
  lead_half f = and_r (passes trail far a.page trail) (passes lead far a.page a.cb_trail) f

  pub trail_half : T (fits a lead trail) → TrailHalf
  unfolding fits
  trail_half f = and_l (passes trail far a.page trail) (passes lead far a.page a.cb_trail) f

  pub both_halves : TrailHalf → LeadHalf → T (fits a lead trail)
  unfolding fits
  both_halves p q = and_i (passes trail far a.page trail) (passes lead far a.page a.cb_trail) p q
