-- Bytes: numbers read from a tape, and fields and rows of a line. Definitions only.
use Rattle.std.specs.Prelude.{ℕ, zero, suc, ◌+◌, ◌*◌, ◌/◌, ◌%◌, true, false, cond, List, [], ◌∷◌, ◌++◌, ltb, Float, get_or}
use Rattle.std.specs.Float.{binary32}
use Rattle.std.specs.Float.Ieee.{of_bits, to_bits}

-- the u16 and the f32 at i, little-endian
abbrev pub u16_at : List ℕ → ℕ → ℕ
u16_at b i = get_or b i 0 + 256 * get_or b (i + 1) 0

unfoldable pub f32_at : List ℕ → ℕ → Float
f32_at b i = of_bits binary32 (u16_at b i + 65536 * u16_at b (i + 2))

-- a digit, upper case: 48 is `0`, 65 is `A`
abbrev pub digit : ℕ → ℕ
digit d = cond (ltb d 10) (48 + d) (55 + d)

-- the last k digits of n to the base b
unfoldable pub digits : ℕ → ℕ → ℕ → List ℕ
digits b zero n = []
digits b (suc k) n = digits b k (n / b) ++ digit (n % b) ∷ []

-- a float: eight hex digits of its bits
unfoldable pub float : Float → List ℕ
float x = digits 16 8 (to_bits binary32 x)

-- another number: as many decimals as it has
unfoldable pub decimals : ℕ → ℕ → ℕ
decimals zero n = 1
decimals (suc f) n = elim (ltb n 10) [ true ↦ 1 | false ↦ suc (decimals f (n / 10)) ]

unfoldable pub decimal : ℕ → List ℕ
decimal n = digits 10 (decimals n n) n

-- a line: its letter, each field after a space, a line feed
unfoldable pub fields : List (List ℕ) → List ℕ
fields [] = 10 ∷ []
fields (f ∷ fs) = 32 ∷ f ++ fields fs

abbrev pub row : ℕ → List (List ℕ) → List ℕ
row letter fs = letter ∷ fields fs
