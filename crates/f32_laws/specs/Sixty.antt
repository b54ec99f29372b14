-- Whole 64ths by their number: an integer, or for `omega` a natural number counted from `mid`. Definitions only.
use Rattle.std.specs.Prelude.{◌≡◌, ℕ, suc, ◌+◌, ◌-◌, ◌^◌, ◌≤◌, Bool, true, false, ℤ, pos, negsuc, Float}
use Rattle.std.proofs.Math.IntN.{sub_ℕ}
use Rattle.std.specs.Float.{Format, binary32}
use Rattle.std.specs.Float.Ieee.{low, round}

-- k / 64
unfoldable pub in64 : Format → ℤ → Float
in64 f (pos n) = round f false n 64
in64 f (negsuc n) = round f true (suc n) 64

-- whether an integer is negative
abbrev pub minus? : ℤ → Bool
minus? (pos n) = false
minus? (negsuc n) = true

-- 1 / 64 in units of the format's smallest value
unfoldable pub g64 : Format → ℕ
g64 f = 2 ^ (low f - 6)

-- so many 64ths are held exactly, either way of zero
unfoldable pub mid : ℕ
mid = 2 ^ 24

-- 131,072 in 64ths, the module's largest limit
unfoldable pub half : ℕ
half = 2 ^ 23

-- (n - mid) / 64
unfoldable pub at64 : ℕ → Float
at64 n = in64 binary32 (sub_ℕ n mid)

-- x is a whole number of 64ths, at most 2 ^ 24 of them
pub record Of64 (x : Float) : Type 0 where
  pub index : ℕ
  pub bound : index ≤ mid + mid
  pub is : x ≡ at64 index
