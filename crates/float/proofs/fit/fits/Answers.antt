-- `float::fit::fits` meets its contract: the first half decides which half of the `&&` is left.
use Rattle.std.proofs.Common.{◌≡◌, Bool, true, false, sym}
use lib.Ieee.{Float, binary32, add}
use Rattle.float.specs.declared.fit.Ask.{Ask}
use Rattle.float.specs.Fit.{passes, placed_at, fits}
use Rattle.float.proofs.fit.fits.Goals as goal

module _ (a : Ask) (lead trail x : Float) (p : Bool) (at : x ≡ placed_at a lead) (first : p ≡ passes trail (add binary32 x a.width) a.page trail) where
  both : (q : Bool) → q ≡ passes lead (add binary32 x a.width) a.page a.cb_trail → p ≡ true → q ≡ fits a lead trail
  unfolding fits
  both q second t = sym (simp (sym at, sym first, sym second, t))

  one : p ≡ false → p ≡ fits a lead trail
  unfolding fits
  one t = sym (simp (sym at, sym first, t))

pub returns-then-passes : goal.returns-then-passes
returns-then-passes c = both _ _ _ _ _ c.placed_at.ensures c.passes.ensures _ c.passes-then-passes.ensures c.if-passes.true

pub returns-else-passes : goal.returns-else-passes
returns-else-passes c = one _ _ _ _ _ c.placed_at.ensures c.passes.ensures c.if-passes.false
