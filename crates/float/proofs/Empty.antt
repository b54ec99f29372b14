-- What stands in a dead place: the derived default of a band and of a box.
use Rattle.std.proofs.Common.{◌≡◌, false, refl, None}
use lib.Count.{count_trailing_zeros}
use lib.Ieee.{binary32, of_bits, of_fields}
use Rattle.f32_laws.specs.Numbers.{zero+}
use Rattle.float.specs.declared.FloatDirection.{FloatDirection}
use Rattle.float.specs.declared.PlacedFloatedBox.{PlacedFloatedBox}
use Rattle.float.specs.declared.Segment.{Segment}
use Rattle.float.specs.Bands.{bare}
use Rattle.float.specs.Page.{no_box}

pub zero_bits : of_bits binary32 0 ≡ zero+
unfolding zero+ of_bits of_fields count_trailing_zeros
zero_bits = refl

pub empty_box : (b : PlacedFloatedBox) → (b.width ≡ of_bits binary32 0) × ((b.height ≡ of_bits binary32 0) × ((b.x_inset ≡ of_bits binary32 0) × ((b.y ≡ of_bits binary32 0) × ((b.side ≡ FloatDirection.Left))))) → b ≡ no_box
empty_box b e =
    let r : ◌≡◌ {A = PlacedFloatedBox} (record { width = b.width; height = b.height; x_inset = b.x_inset; y = b.y; side = b.side }) no_box = cc (zero_bits, e.0, e.1.0, e.1.1.0, e.1.1.1.0, e.1.1.1.1) in r

pub empty_band : (b : Segment) → (b.start ≡ of_bits binary32 0) × ((b.end ≡ of_bits binary32 0) × ((b.left ≡ of_bits binary32 0) × ((b.right ≡ of_bits binary32 0) × ((b.left_float ≡ false) × ((b.right_float ≡ false) × ((b.left_box ≡ None) × ((b.right_box ≡ None)))))))) → b ≡ bare zero+ zero+ zero+ zero+
empty_band b e =
    let r : ◌≡◌ {A = Segment} (record { start = b.start; end = b.end; left = b.left; right = b.right; left_float = b.left_float; right_float = b.right_float; left_box = b.left_box; right_box = b.right_box }) (bare zero+ zero+ zero+ zero+) = cc (zero_bits, e.0, e.1.0, e.1.1.0, e.1.1.1.0, e.1.1.1.1.0, e.1.1.1.1.1.0, e.1.1.1.1.1.1.0, e.1.1.1.1.1.1.1) in r
