-- Two fractions over one denominator, written over another: tests, sums and differences of the numerators are the same.
use mathlib.Core.Path.{◌≡◌, refl, sym, ap, ap₂, ◌∙◌}
use Prim.Native.Nat.{ℕ, ◌+◌, ◌-◌, ◌*◌, ◌<◌}
use native.Mathlib.Nat.{mul_comm, mul-sub, add-mul, zero-mul, mul-lt-mul_of_pos_right, lt_of_mul-lt-mul_right, eq_of_mul-eq-mul_right}
use native.Mathlib.Omega.{arith}
use mathlib.Core.Bool.{Bool, true, false, ◌&&◌, ◌||◌, beq}
use lib.Dec.{ltb, eqb}
use lib.Ieee.{Format, sum, below, level}
use lib.Ieee.Scale.{round_same}
use Rattle.f32_laws.proofs.Tests.{ltb_same, eqb_same}

-- A / C is M / U, and B / C is N / U
pub record Ratio (A B C M N U : ℕ) : Type 0 where
  pub old_pos : 0 < C
  pub new_pos : 0 < U
  pub first : A * U ≡ M * C
  pub second : B * U ≡ N * C

module _ {A B C M N U : ℕ} (r : Ratio A B C M N U) where
  back : Ratio M N U A B C
  back = record { old_pos = r.new_pos; new_pos = r.old_pos; first = sym r.first; second = sym r.second }

  swap : Ratio B A C N M U
  swap = record { old_pos = r.old_pos; new_pos = r.new_pos; first = r.second; second = r.first }

  nil : Ratio A 0 C M 0 U
  nil = record { old_pos = r.old_pos; new_pos = r.new_pos; first = r.first; second = zero-mul U ∙ sym (zero-mul C) }

  plus : Ratio 0 (A + B) C 0 (M + N) U
  plus = record {
    old_pos = r.old_pos;
    new_pos = r.new_pos;
    first = zero-mul U ∙ sym (zero-mul C);
    second = add-mul A B U ∙ ap₂ (λ (x y : ℕ). x + y) r.first r.second ∙ sym (add-mul M N C);
  }

  less : (A - B) * U ≡ (M - N) * C
  less =
      mul_comm (A - B) U ∙ mul-sub U A B
      ∙ ap₂ (λ (x y : ℕ). x - y) (mul_comm U A ∙ r.first ∙ mul_comm M C) (mul_comm U B ∙ r.second ∙ mul_comm N C)
      ∙ sym (mul-sub C M N) ∙ mul_comm C (M - N)

  lt_new : A < B → M < N
  lt_new h = lt_of_mul-lt-mul_right C (omega (arith, r.first, r.second, mul-lt-mul_of_pos_right h r.new_pos))

  eq_new : A ≡ B → M ≡ N
  eq_new h = eq_of_mul-eq-mul_right C r.old_pos M N (sym r.first ∙ ap (λ (z : ℕ). z * U) h ∙ r.second)

module _ {A B C M N U : ℕ} (r : Ratio A B C M N U) where
  same_lt : ltb A B ≡ ltb M N
  same_lt = ltb_same A B M N (lt_new r) (lt_new (back r))

  same_eq : eqb A B ≡ eqb M N
  same_eq = eqb_same A B M N (eq_new r) (eq_new (back r))

module _ {A B C M N U : ℕ} (r : Ratio A B C M N U) where
  pub below_same : (s t : Bool) → below s A t B ≡ below s M t N
  below_same false false = same_lt r
  below_same false true = refl
  below_same true false = same_lt (plus r)
  below_same true true = same_lt (swap r)

  pub level_same : (s t : Bool) → level s A t B ≡ level s M t N
  level_same s t = ap₂ (λ (x y : Bool). x && (beq s t || y)) (same_eq r) (same_eq (nil r))

  pub sum_same : (f : Format) (s t : Bool) → sum f s A t B C ≡ sum f s M t N U
  unfolding sum
  sum_same f s t =
      let P = r.old_pos in
      let W = r.new_pos in
      cc (round_same f s (A + B) C (M + N) U P W (plus r).second, round_same f t (B - A) C (N - M) U P W (less (swap r)), round_same f (s && ltb B A) (A - B) C (M - N) U P W (less r), same_lt r, same_lt (swap r))
