-- When a pattern is a NaN's, and when a float is one.
use Prim.Native.Nat.{ℕ, ◌/◌, ◌%◌, ◌<◌, ◌≤◌}
use mathlib.Core.Path.{◌≡◌, refl, sym, subst, ◌∙◌}
use mathlib.Core.Bool.{Bool, true, false, not, ◌&&◌}
use native.Mathlib.Omega.{arith}
use borrow.Author.Tests.{eqb-true, eq-eqb, ne_eqb}
use lib.Dec.{T, eqb}
use lib.Ieee.{Float, nan, inf, fin, binary32, of_bits, of_fields, nan_bits, is_nan, ne}
use lib.Ieee.Compare.{differs_from_itself, nan_differs}

never : false ≡ true → ⊥
never e = subst (λ (b : Bool). T (not b)) e tt

neither : (e d : Bool) → (e ≡ true → d ≡ true) → T (not (e && not d))
neither true true f = tt
neither true false f = never (f refl)
neither false d f = tt

pub no_nan : (n : ℕ) → n % 0x8000_0000 ≤ 0x7f80_0000 → T (not (nan_bits binary32 n))
unfolding nan_bits
no_nan n h =
    neither (eqb (n % 0x8000_0000 / 0x80_0000) 255) (eqb (n % 0x80_0000) 0)
    (λ t. let e = eqb-true (n % 0x8000_0000 / 0x80_0000) 255 t in eq-eqb (n % 0x80_0000) 0 (omega arith))

pub a_nan : (n : ℕ) → 0x7f80_0000 < n % 0x8000_0000 → of_bits binary32 n ≡ nan
unfolding of_bits of_fields
a_nan n h =
    let e : n % 0x8000_0000 / 0x80_0000 ≡ 255 = omega arith in
    let t : eqb (n % 0x80_0000) 0 ≡ false = ne_eqb (n % 0x80_0000) 0 (λ z. omega arith) in
    rw (e, t)

pub not_itself : (x : Float) → ne x x ≡ true → x ≡ nan
not_itself x e = differs_from_itself x (subst T (sym e) tt)

pub itself : (x : Float) → ne x x ≡ false → T (not (is_nan x))
unfolding is_nan
itself nan e = absurd (never (sym e ∙ nan_differs))
itself (inf s) e = tt
itself (fin s m x) e = tt
