-- The order of the values that are no NaN, infinities included: reflexive, transitive, total; and where it decides equality. By the keys.
use mathlib.Core.Path.{◌≡◌, sym, ap, ◌∙◌}
use mathlib.Core.Logic.{◌⊎◌, inl, inr}
use Prim.Native.Nat.{◌≤◌, ◌<◌}
use native.Mathlib.Omega.{arith}
use mathlib.Core.Bool.{Bool, true, false, not}
use lib.Dec.{T, leb, leb→le, nleb→lt}
use lib.Ieee.{Float, Format, lt, le}
use Rattle.f32_laws.specs.Key.{Num, sign, key}
use Rattle.f32_laws.proofs.Tests.{not_ltb}
use Rattle.f32_laws.proofs.Keys.{lt_is, le_is, le→key, key→le, lt→key, nlt→key, key_inj}

pub refl_le : {f : Format} {x : Float} → Num f x → T (le x x)
refl_le p = key→le p p (omega arith)

pub trans_le : {f : Format} {x y z : Float} → Num f x → Num f y → Num f z → T (le x y) → T (le y z) → T (le x z)
trans_le p q r h k = key→le p r (omega (arith, le→key p q h, le→key q r k))

module _ {f : Format} {x y : Float} (p : Num f x) (q : Num f y) where
  pub total_le : T (le x y) ⊎ T (le y x)
  total_le = go (leb (key f x) (key f y)) (leb→le (key f x) (key f y)) (nleb→lt (key f x) (key f y))
    where
      go : (b : Bool) → (T b → key f x ≤ key f y) → (T (not b) → key f y < key f x) → T (le x y) ⊎ T (le y x)
      go true h k = inl (key→le p q (h tt))
      go false h k = inr (key→le q p (omega (arith, k tt)))

  pub lt→le : T (lt x y) → T (le x y)
  lt→le h = key→le p q (omega (arith, lt→key p q h))

  pub not_lt→le : T (not (lt x y)) → T (le y x)
  not_lt→le h = key→le q p (nlt→key p q h)

  pub not_lt_is : not (lt x y) ≡ le y x
  not_lt_is = ap not (lt_is p q) ∙ not_ltb (key f x) (key f y) ∙ sym (le_is q p)

  -- only zero has two signs: elsewhere the condition on them holds by itself
  pub antisym_is : sign x ≡ sign y → T (le x y) → T (le y x) → x ≡ y
  antisym_is s h k = key_inj p q s (omega (arith, le→key p q h, le→key q p k))
