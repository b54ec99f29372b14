-- `tape::line::count_decimals` meets its contract: a number has one decimal more than the power of ten that it reaches; 0 has one.
use native.Mathlib.Omega.{arith}
use mathlib.Core.Path.{sym}
use Rattle.tape.proofs.Digits.{one_decimal, of_power}
use Rattle.tape.proofs.line.count_decimals.Goals as goal

pub returns-in-Some : goal.returns-in-Some
returns-in-Some c = let r = c.in-Some.ensures in (sym (of_power c.in-Some.k c.args.n r.power_le r.next_power_gt), omega (arith, r.bound))

pub returns-in-None : goal.returns-in-None
returns-in-None c = let e = one_decimal c.args.n (omega (arith, c.in-None.ensures.none)) in (sym e, omega arith)
