-- The fit test. Definitions only.
use Rattle.std.specs.Prelude.{Bool, ◌&&◌, ◌||◌, Float}
use Rattle.std.specs.Float.{binary32}
use Rattle.std.specs.Float.Ieee.{add, sub, le, eq}
use Rattle.f32_laws.specs.Numbers.{larger, zero+, tol}
use Rattle.float.specs.declared.fit.Ask.{Ask}

-- one half of the test: the inset is 0, or the far edge is at most page width - bound + 0.001
unfoldable pub passes : (inset far page bound : Float) → Bool
passes inset far page bound = eq inset zero+ || le far (add binary32 (sub binary32 page bound) tol)

-- x, where the box would stand: the larger of the lead inset and the containing lead inset
unfoldable pub placed_at : Ask → (lead : Float) → Float
placed_at a lead = larger lead a.cb_lead

-- the box fits beside the insets lead and trail: past the trail inset's float, and, where a float leads, inside its container
unfoldable pub fits : Ask → (lead trail : Float) → Bool
fits a lead trail =
    passes trail (add binary32 (placed_at a lead) a.width) a.page trail
    && passes lead (add binary32 (placed_at a lead) a.width) a.page a.cb_trail
