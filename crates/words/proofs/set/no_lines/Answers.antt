-- `words::set::no_lines` meets its contract: a default line is no line.
use Rattle.std.proofs.Common.{◌≡◌, replicate, refl, ap}
use Rattle.std.specs.Float.{binary32}
use lib.Ieee.{of_bits}
use Rattle.f32_laws.specs.Numbers.{zero+}
use Rattle.words.specs.declared.Line.{Line}
use Rattle.words.specs.Lines.{no_line}
use Rattle.words.proofs.set.no_lines.Goals as goal

blank : (x : Line) → (x.x ≡ of_bits binary32 0) × ((x.y ≡ of_bits binary32 0) × ((x.first ≡ 0) × (x.count ≡ 0))) → x ≡ no_line
unfolding zero+ of_bits
blank x h = rw (h.0, h.1.0, h.1.1.0, h.1.1.1) refl

pub returns : goal.returns
returns c = ap (λ x. record { lines = replicate 512 x; count = 0 }) (blank _ c.default.ensures)
