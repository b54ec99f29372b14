-- The page as lists, and how it lies in the struct. Definitions only.
use Rattle.std.specs.Prelude.{ℕ, List, ◌++◌, length, take, drop, replicate, Float, Option, None}
use Rattle.f32_laws.specs.Numbers.{zero+}
use Rattle.float.specs.declared.FloatContext.{FloatContext}
use Rattle.float.specs.declared.FloatDirection.{FloatDirection}
use Rattle.float.specs.declared.PlacedFloatedBox.{PlacedFloatedBox}
use Rattle.float.specs.declared.Segment.{Segment}
use Rattle.float.specs.Bands.{bare}

-- a page has at most 96 bands and 64 boxes
abbrev pub max_bands : ℕ
max_bands = 96

abbrev pub max_boxes : ℕ
max_boxes = 64

-- the page: its live bands, its boxes in the order of acceptance, and what is kept: of each side a bottom and a first band number, the ceiling, and the depth (3/14)
pub record Page : Type 0 where
  pub width : Float
  pub bands : List Segment
  pub boxes : List PlacedFloatedBox
  pub left_bottom : Option Float
  pub right_bottom : Option Float
  pub ceiling : Option Float
  pub depth : Option Float
  pub left_first : ℕ
  pub right_first : ℕ

-- what stands in a dead place of a fresh struct
abbrev pub no_box : PlacedFloatedBox
no_box = record { width = zero+; height = zero+; x_inset = zero+; y = zero+; side = FloatDirection.Left }

-- the page that a struct holds: a count past the array's length takes all of it
unfoldable pub page_of : FloatContext → Page
page_of p = record {
  width = p.width;
  bands = take p.count p.bands;
  boxes = take p.box_count p.boxes;
  left_bottom = p.left_bottom;
  right_bottom = p.right_bottom;
  ceiling = p.ceiling;
  depth = p.depth;
  left_first = p.left_first;
  right_first = p.right_first;
}

-- a list at the front of an array, whose other places stay as they were
unfoldable pub front {ℓ} : {A : Type ℓ} → List A → List A → List A
front l a = l ++ drop (length l) a

-- the struct that holds the page q, its dead places as they were in p
unfoldable pub stored : Page → FloatContext → FloatContext
stored q p = record {
  width = q.width;
  bands = front q.bands p.bands;
  count = length q.bands;
  boxes = front q.boxes p.boxes;
  box_count = length q.boxes;
  left_bottom = q.left_bottom;
  right_bottom = q.right_bottom;
  ceiling = q.ceiling;
  depth = q.depth;
  left_first = q.left_first;
  right_first = q.right_first;
}

-- a fresh page has width 0 and nothing else; every dead place is zero
unfoldable pub fresh_context : FloatContext
fresh_context = record {
  width = zero+;
  bands = replicate max_bands (bare zero+ zero+ zero+ zero+);
  count = 0;
  boxes = replicate max_boxes no_box;
  box_count = 0;
  left_bottom = None;
  right_bottom = None;
  ceiling = None;
  depth = None;
  left_first = 0;
  right_first = 0;
}

-- the page that it holds
unfoldable pub fresh : Page
fresh = page_of fresh_context
