-- Rounding on natural numbers: of a magnitude, and of a sum of two keys. Definitions only.
use Rattle.std.specs.Prelude.{ℕ, ◌+◌, ◌-◌, ◌^◌, false, cond, ltb}
use Rattle.std.specs.Float.{Format}
use Rattle.std.specs.Float.Ieee.{low, round}
use Rattle.f32_laws.specs.Key.{bias, key}

-- n units rounded to a magnitude of the format; `bias` stands for the infinity
unfoldable pub rnd : Format → ℕ → ℕ
rnd f n = key f (round f false n (2 ^ low f)) - bias f

-- a sum of two keys, which counts from twice `bias`, rounded to a key
unfoldable pub srnd : Format → ℕ → ℕ
srnd f z = cond (ltb z (bias f + bias f)) (bias f - rnd f (bias f + bias f - z)) (bias f + rnd f (z - (bias f + bias f)))
