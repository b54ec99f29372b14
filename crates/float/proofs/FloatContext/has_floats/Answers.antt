-- `float::FloatContext::has_floats` meets its contract: a count above 0 takes at least one box of the array.
use Rattle.std.proofs.Common.{◌≡◌, ltb, length, take, arith, length-take}
use Rattle.f32_laws.proofs.Tests.{ltb_same}
use Rattle.float.specs.declared.FloatContext.{FloatContext}
use Rattle.float.specs.Page.{page_of}
use Rattle.float.specs.Slot.{has_floats}
use Rattle.float.proofs.FloatContext.has_floats.Goals as goal

some : (p : FloatContext) → length p.boxes ≡ 64 → ltb 0 p.box_count ≡ has_floats (page_of p)
unfolding page_of has_floats
some p h =
    let e = length-take p.box_count p.boxes in
    ltb_same 0 p.box_count 0 (length (take p.box_count p.boxes)) (λ a. omega arith) (λ a. omega arith)

pub returns : goal.returns
returns c = some c.args.self.now (omega arith)
