-- A page in three parts, its head, its bands and its boxes, as a holder that keeps the arrays where they lie has it. No promise to a reader names them. Definitions only.
use Rattle.std.specs.Prelude.{List}
use Rattle.float.specs.declared.FloatContext.{FloatContext}
use Rattle.float.specs.declared.Head.{Head}
use Rattle.float.specs.declared.PlacedFloatedBox.{PlacedFloatedBox}
use Rattle.float.specs.declared.Segment.{Segment}

-- the page of three parts
abbrev pub page_with : Head → List Segment → List PlacedFloatedBox → FloatContext
page_with h bands boxes = record {
  width = h.width;
  bands = bands;
  count = h.count;
  boxes = boxes;
  box_count = h.box_count;
  left_bottom = h.left_bottom;
  right_bottom = h.right_bottom;
  ceiling = h.ceiling;
  depth = h.depth;
  left_first = h.left_first;
  right_first = h.right_first;
}

-- the head of a page
abbrev pub head_of : FloatContext → Head
head_of p = record {
  width = p.width;
  count = p.count;
  box_count = p.box_count;
  left_bottom = p.left_bottom;
  right_bottom = p.right_bottom;
  ceiling = p.ceiling;
  depth = p.depth;
  left_first = p.left_first;
  right_first = p.right_first;
}
