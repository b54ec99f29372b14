-- The numbers of the module: the larger and the smaller of two, plus zero, the tolerance 0.001, whole 64ths. Definitions only.
use Rattle.std.specs.Prelude.{◌*◌, ◌/◌, ◌%◌, ◌^◌, Bool, false, not, ◌&&◌, cond, pos, negsuc, leb, eqb, Float}
use Rattle.std.specs.Float.{nan, inf, fin}
use Rattle.std.specs.Float.Ieee.{up, down, lt}

-- the larger of two values; of equal ones the first
unfoldable pub larger : Float → Float → Float
larger a b = cond (lt a b) b a

-- the smaller of two values; of equal ones the first
unfoldable pub smaller : Float → Float → Float
smaller a b = cond (lt b a) b a

-- plus zero, as which a minus zero handed in is read
unfoldable pub zero+ : Float
zero+ = fin false 0 (pos 0)

-- the fit test's 0.001: 8589935 / 2 ^ 33, the f32 nearest to it, bits 3A83126F
unfoldable pub tol : Float
tol = fin false 8589935 (negsuc 32)

-- a whole number of 64ths, at most 2 ^ 24 of them either way, and not minus zero: the CSS rules are proved on these
unfoldable pub is64 : Float → Bool
is64 nan = false
is64 (inf s) = false
is64 (fin s m e) = eqb (m * up e * 64 % down e) 0 && leb (m * up e * 64 / down e) (2 ^ 24) && not (s && eqb m 0)
