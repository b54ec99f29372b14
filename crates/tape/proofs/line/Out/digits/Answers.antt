-- `tape::line::Out::digits` meets its contract: digits that do not fit are skipped. The invariant: the digits from the i-th on stand, and those before it are the digits of m.
use Prim.Native.Nat.{ℕ, suc, ◌-◌}
use mathlib.Core.Path.{◌≡◌, refl, subst, subst⁻¹}
use native.Mathlib.Omega.{arith}
use Rattle.tape.specs.Bytes.{digits as digits_of}
use Rattle.tape.specs.Put.{Put}
use Rattle.tape.proofs.Digits.{length_digits, Filling, filling_more, filling_done}
use Rattle.tape.proofs.Putting.{skipped}
use Rattle.tape.proofs.line.Out.digits.Goals as goal

pub returns-then-self : goal.returns-then-self
returns-then-self c =
    let a = c.args in
    let e = length_digits a.base a.k a.n in
    record { same = refl; put = skipped _ _ _ _ (omega arith) (omega arith) }

pub loop-i-preserved : goal.loop-i-preserved
loop-i-preserved c =
    let l = c.loop-i in
    let a = c.args in
    let e : l.i ≡ suc (l.i - 1) = omega arith in
    (omega arith, l.invariant.1, l.invariant.2, filling_more _ _ _ _ _ _ _ _ _ (omega arith) (omega arith) c.digit.ensures (subst (λ (j : ℕ). Filling a.base a.k a.n a.self.now.at j l.m a.self.now.room.now l.self.room.now) e l.invariant.3))

pub returns : goal.returns
returns c =
    let l = c.loop-i in
    let a = c.args in
    let e : l.i ≡ 0 = omega arith in
    record { same = l.invariant.2; put = subst⁻¹ (λ (j : ℕ). Put a.self.now.room.now a.self.now.at (digits_of a.base a.k a.n) l.self.room.now j) l.invariant.1 (filling_done _ _ _ _ l.m _ _ (subst (λ (j : ℕ). Filling a.base a.k a.n a.self.now.at j l.m a.self.now.room.now l.self.room.now) e l.invariant.3)) }
