-- Finite values no further than 2 ^ n from zero. Definitions only.
use Rattle.std.specs.Prelude.{ℕ, ◌^◌, Bool, true, false, pos, T, Float}
use Rattle.std.specs.Float.{fin, Format}
use Rattle.std.specs.Float.Ieee.{le}
use Rattle.f32_laws.specs.Key.{Fin}

-- 2 ^ n, negative where s is true
unfoldable pub two : Bool → ℕ → Float
two s n = fin s 1 (pos n)

-- x is finite and lies from -2 ^ n to 2 ^ n
pub record Within (f : Format) (n : ℕ) (x : Float) : Type 0 where
  pub finite : Fin f x
  pub low : T (le (two true n) x)
  pub high : T (le x (two false n))

-- 2 ^ 20 in units of binary32's smallest value; a name, because `omega` reads no number of more than 38 digits
unfoldable pub u20 : ℕ
u20 = 2 ^ 169
