-- A key: the values of a format that are no NaN as natural numbers in the same order, so that `omega` reads them. Definitions only.
-- A finite value is counted in units of the format's smallest value, from `bias`.
use Rattle.std.specs.Prelude.{◌≡◌, ℕ, suc, ◌+◌, ◌-◌, ◌*◌, ◌/◌, ◌^◌, ◌<◌, Bool, true, false, ℤ, T, Float}
use Rattle.std.specs.Float.{nan, inf, fin, Format}
use Rattle.std.specs.Float.Ieee.{emax, low, up, down, fits}

-- a value of the format that is no NaN
abbrev pub IsNum : Format → Float → Type 0
IsNum f nan = ⊥
IsNum f (inf s) = Unit {0}
IsNum f (fin s m e) = T (fits f (fin s m e))

-- a finite value of the format
abbrev pub IsFin : Format → Float → Type 0
IsFin f nan = ⊥
IsFin f (inf s) = ⊥
IsFin f (fin s m e) = T (fits f (fin s m e))

-- the same two as records, so that format and value are inferred from a hypothesis
pub record Num (f : Format) (x : Float) : Type 0 where
  pub is : IsNum f x

pub record Fin (f : Format) (x : Float) : Type 0 where
  pub is : IsFin f x

-- the sign: true where it is minus
abbrev pub sign : Float → Bool
sign nan = false
sign (inf s) = s
sign (fin s m e) = s

-- zero's key: in units of the smallest value, beyond every finite magnitude
unfoldable pub bias : Format → ℕ
bias f = 2 ^ (low f + suc (emax f))

-- the magnitude m * 2 ^ e in units of the smallest value
unfoldable pub mag : Format → ℕ → ℤ → ℕ
mag f m e = m * up e * (2 ^ low f / down e)

-- m to one side of k
abbrev pub signed : Bool → ℕ → ℕ → ℕ
signed false k m = k + m
signed true k m = k - m

-- the key: 0 for minus infinity, twice `bias` for plus infinity
abbrev pub key : Format → Float → ℕ
key f nan = 0
key f (inf true) = 0
key f (inf false) = bias f + bias f
key f (fin s m e) = signed s (bias f) (mag f m e)

-- x is finite, has the sign s, and is m units of the smallest value
pub record Units (f : Format) (x : Float) (s : Bool) (m : ℕ) : Type 0 where
  pub finite : Fin f x
  pub minus : sign x ≡ s
  pub counts : key f x ≡ signed s (bias f) m
  pub small : m < bias f
