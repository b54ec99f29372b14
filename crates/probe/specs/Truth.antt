-- How an export answers yes or no. Definitions only.
use Rattle.std.specs.Prelude.{ℕ, zero, suc, Bool, cond, Float}
use Rattle.float.specs.declared.FloatDirection.{FloatDirection}
use Rattle.float.specs.Fit.{fits}

-- 1 for true, 0 for false
unfoldable pub bit : Bool → ℕ
bit b = cond b 1 0

-- the fit test by the side's code: a left box leads on the left, a right box on the right
unfoldable pub fits_at : ℕ → Float → Float → Float → Float → Float → Float → ℕ
fits_at zero w p l r cl cr = bit (fits (record { width = w; height = w; page = p; cb_lead = cl; cb_trail = cr; side = FloatDirection.Left }) l r)
fits_at (suc zero) w p l r cl cr = bit (fits (record { width = w; height = w; page = p; cb_lead = cr; cb_trail = cl; side = FloatDirection.Right }) r l)
fits_at (suc (suc n)) w p l r cl cr = 2
