-- Rows 2 and 3 of the table of refusals, of one number as it is handed in: in a call or in a text. Definitions only.
use Rattle.std.specs.Prelude.{◌≡◌, ◌⊎◌, true, false, T}
use Rattle.std.specs.Float.{nan, inf}
use Rattle.std.specs.Float.Ieee.{lt}
use Rattle.f32_laws.specs.Numbers.{zero+}
use Rattle.float.specs.Numbers.{most, least, Given, size, offset, value}

-- NaN or an infinity
abbrev pub NotFinite : Given → Type 0
NotFinite g = (value g ≡ nan) ⊎ (value g ≡ inf true) ⊎ (value g ≡ inf false)

-- below 0 or -65,536, or above 65,536
abbrev pub Outside : Given → Type 0
Outside (size x) = T (lt x zero+) ⊎ T (lt most x)
Outside (offset x) = T (lt x least) ⊎ T (lt most x)
