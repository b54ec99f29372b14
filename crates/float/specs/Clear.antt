-- Clearing: the bottoms that a clear asks for, in placements and in both questions (2/14: and nothing else). Definitions only.
use Rattle.std.specs.Prelude.{Float, Option, Some, None}
use Rattle.f32_laws.specs.Numbers.{larger}
use Rattle.float.specs.declared.Clear.{Clear}
use Rattle.float.specs.Page.{Page}

-- the lower of two kept heights, either of which may be missing
unfoldable pub lower : Option Float → Option Float → Option Float
lower None b = b
lower (Some x) None = Some x
lower (Some x) (Some y) = Some (larger x y)

-- y raised to a kept height, if there is one
unfoldable pub raise_to : Float → Option Float → Float
raise_to y None = y
raise_to y (Some x) = larger y x

-- `cleared_threshold`: the largest bottom kept for the sides named by clear, if any
unfoldable pub cleared : Page → Clear → Option Float
cleared p Clear.None = None
cleared p Clear.Left = p.left_bottom
cleared p Clear.Right = p.right_bottom
cleared p Clear.Both = lower p.left_bottom p.right_bottom
