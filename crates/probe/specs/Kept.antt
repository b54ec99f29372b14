-- A page kept over several placements of one box, each further down. Definitions only.
use Rattle.std.specs.Prelude.{ℕ, zero, suc, Float, get_or}
use Rattle.std.specs.Float.{binary32}
use Rattle.std.specs.Float.Ieee.{add}
use Rattle.f32_laws.specs.Numbers.{zero+}
use Rattle.float.specs.declared.FloatContext.{FloatContext}
use Rattle.float.specs.declared.PlacedFloatedBox.{PlacedFloatedBox}
use Rattle.float.specs.Page.{fresh_context, no_box}
use Rattle.float.specs.Place.{place_of, width_of}

-- where the next box may stand after n of them
unfoldable pub top_after : Float → ℕ → Float
top_after step zero = zero+
top_after step (suc n) = add binary32 (top_after step n) step

-- the page after n of them
unfoldable pub page_after : Float → ℕ → Float → Float → Float → ℕ → FloatContext
page_after wide side w h step zero = (width_of fresh_context wide).page
page_after wide side w h step (suc n) = (place_of (page_after wide side w h step n) (record { side = side; clear = 0; width = w; height = h; min_y = top_after step n; left = zero+; right = zero+ })).page

-- a box of the page by its number
unfoldable pub box_at : FloatContext → ℕ → PlacedFloatedBox
box_at p n = get_or p.boxes n no_box
