-- Values that are no minus zero: the larger of two and a sum stay so, and two of them with one key are the same value.
use mathlib.Core.Path.{◌≡◌, refl, sym, ◌∙◌, subst}
use Prim.Native.Nat.{ℕ, zero, suc, ◌+◌, ◌-◌, ◌^◌, ◌≤◌, ◌<◌}
use native.Mathlib.Omega.{arith}
use mathlib.Core.Bool.{Bool, true, false, ◌&&◌, cond, beq, true≢false}
use lib.Dec.{T, ltb, ltb→lt}
use lib.Ieee.{Float, nan, inf, fin, Format, low, fits, lt, add, sum, round}
use lib.Ieee.Fits.{add-fits}
use Rattle.f32_laws.specs.Numbers.{larger, zero+}
use Rattle.f32_laws.specs.Key.{IsNum, Num, sign, bias, mag, signed, key}
use Rattle.f32_laws.proofs.Tests.{both}
use Rattle.f32_laws.proofs.Magnitude.{bias_pos, mag_lt}
use Rattle.f32_laws.proofs.Keys.{key_inj, key_ge, zero_fin, fin_units}
use Rattle.f32_laws.proofs.Rounding.{rnd_pos, round_sign, round_key, sum_is, add_units}

-- a value of the format, and where it is zero plus zero; a NaN and the infinities are such
pub record Plain (f : Format) (x : Float) : Type 0 where
  pub fit : T (fits f x)
  pub plus : key f x ≡ bias f → sign x ≡ false

pub plain_zero : {f : Format} → Plain f zero+
unfolding zero+
plain_zero {f} = record { fit = (zero_fin f).is; plus = λ e. refl }

pub plain_larger : {f : Format} {x y : Float} → Plain f x → Plain f y → Plain f (larger x y)
unfolding larger
plain_larger {f} {x} {y} p q = both (Plain f) (lt x y) (λ t. q) (λ t. p)

-- ---- one key, one value
le_bias : (f : Format) (x : Float) → IsNum f x → sign x ≡ true → key f x ≤ bias f
le_bias f nan p h = absurd p
le_bias f (inf true) p h = omega arith
le_bias f (inf false) p h = absurd (true≢false (sym h))
le_bias f (fin true m e) p h = omega arith
le_bias f (fin false m e) p h = absurd (true≢false (sym h))

module _ {f : Format} {x y : Float} (p : Num f x) (q : Num f y) (v : Plain f x) (w : Plain f y) (h : key f x ≡ key f y) where
  pub plain_same : x ≡ y
  plain_same = key_inj p q (go (sign x) (sign y) refl refl) h
    where
      go : (s t : Bool) → sign x ≡ s → sign y ≡ t → sign x ≡ sign y
      go true true a b = a ∙ sym b
      go false false a b = a ∙ sym b
      go true false a b = absurd (true≢false (sym a ∙ v.plus (omega (arith, le_bias f x p.is a, key_ge q b))))
      go false true a b = absurd (true≢false (sym b ∙ w.plus (omega (arith, le_bias f y q.is b, key_ge p a))))

-- ---- sums
-- a magnitude that is not 0 does not round to it
round_plain : (f : Format) (s : Bool) (n : ℕ) → (s ≡ true → 0 < n) → key f (round f s n (2 ^ low f)) ≡ bias f → sign (round f s n (2 ^ low f)) ≡ false
round_plain f false n h e = round_sign f false n (2 ^ low f)
round_plain f true n h e = absurd (not_lt (omega (arith, round_key f true n, rnd_pos f n (h refl), bias_pos f)))
  where
    not_lt : 0 < 0 → ⊥
    not_lt h = omega arith

sum_plain : (f : Format) (s t : Bool) (m n : ℕ) → (s ≡ true → 0 < m) → key f (sum f s m t n (2 ^ low f)) ≡ bias f → sign (sum f s m t n (2 ^ low f)) ≡ false
sum_plain f s t m n h = subst (λ (z : Float). key f z ≡ bias f → sign z ≡ false) (sym (sum_is f s m t n (2 ^ low f))) (go s t h (ltb m n) (ltb n m) (ltb→lt m n) (ltb→lt n m))
  where
    go : (s t : Bool) → (s ≡ true → 0 < m) → (a b : Bool) → (T a → m < n) → (T b → n < m)
        → key f (cond (beq s t) (round f s (m + n) (2 ^ low f)) (cond a (round f t (n - m) (2 ^ low f)) (round f (s && b) (m - n) (2 ^ low f)))) ≡ bias f
        → sign (cond (beq s t) (round f s (m + n) (2 ^ low f)) (cond a (round f t (n - m) (2 ^ low f)) (round f (s && b) (m - n) (2 ^ low f)))) ≡ false
    go true true h a b u v = round_plain f true (m + n) (λ e. omega (arith, h e))
    go false false h a b u v = round_plain f false (m + n) (λ e. absurd (true≢false (sym e)))
    go true false h true b u v = round_plain f false (n - m) (λ e. absurd (true≢false (sym e)))
    go true false h false true u v = round_plain f true (m - n) (λ e. omega (arith, v tt))
    go true false h false false u v = round_plain f false (m - n) (λ e. absurd (true≢false (sym e)))
    go false true h true b u v = round_plain f true (n - m) (λ e. omega (arith, u tt))
    go false true h false b u v = round_plain f false (m - n) (λ e. absurd (true≢false (sym e)))

-- the magnitude of what is below zero is not 0
above : (f : Format) (s : Bool) (n : ℕ) → n < bias f → (signed s (bias f) n ≡ bias f → s ≡ false) → s ≡ true → 0 < n
above f false n l h e = absurd (true≢false (sym e))
above f true zero l h e = absurd (true≢false (h (omega arith)))
above f true (suc n) l h e = omega arith

add_plain : (f : Format) (x y : Float) → T (fits f x) → (key f x ≡ bias f → sign x ≡ false) → T (fits f y) → key f (add f x y) ≡ bias f → sign (add f x y) ≡ false
add_plain f nan y p h q = unfold add in λ e. refl
add_plain f (inf s) nan p h q = unfold add in λ e. refl
add_plain f (inf s) (inf t) p h q = unfold add in go s t
  where
    go : (s t : Bool) → key f (cond (beq s t) (inf s) nan) ≡ bias f → sign (cond (beq s t) (inf s) nan) ≡ false
    go true true e = absurd (omega (arith, bias_pos f))
    go false false e = refl
    go true false e = refl
    go false true e = refl
add_plain f (inf true) (fin t n d) p h q = unfold add in λ e. absurd (omega (arith, bias_pos f))
add_plain f (inf false) (fin t n d) p h q = unfold add in λ e. refl
add_plain f (fin s m i) nan p h q = unfold add in λ e. refl
add_plain f (fin s m i) (inf true) p h q = unfold add in λ e. absurd (omega (arith, bias_pos f))
add_plain f (fin s m i) (inf false) p h q = unfold add in λ e. refl
add_plain f (fin s m i) (fin t n d) p h q =
    subst (λ (z : Float). key f z ≡ bias f → sign z ≡ false) (sym (add_units (fin_units f s m i p) (fin_units f t n d q)))
    (sum_plain f s t (mag f m i) (mag f n d) (above f s (mag f m i) (mag_lt f s m i p) h))

pub plain_add : {f : Format} {x : Float} (y : Float) → Plain f x → T (fits f y) → Plain f (add f x y)
plain_add {f} {x} y p q = record { fit = add-fits f x y; plus = add_plain f x y p.fit p.plus q }
