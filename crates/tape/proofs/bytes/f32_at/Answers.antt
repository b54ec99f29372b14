-- `tape::bytes::f32_at` meets its contract: the bits are the two halves, each read as a u16.
use Rattle.std.proofs.Common.{◌≡◌, ◌+◌, ◌*◌, ap, ◌∙◌, rules}
use Rattle.std.specs.Float.{binary32}
use Rattle.std.specs.Float.Ieee.{of_bits}
use Rattle.tape.specs.Bytes.{u16_at, f32_at}
use Rattle.tape.proofs.bytes.f32_at.Goals as goal

pub returns : goal.returns
unfolding f32_at
returns c =
    let a = c.args in
    let bits : c.from_le_bytes.result ≡ u16_at a.b.now a.i + 65536 * u16_at a.b.now (a.i + 2) = search rules in
    c.float_of.ensures ∙ ap (of_bits binary32) bits
