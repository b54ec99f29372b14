-- A band that ends below a raised height ends below the height: the order is transitive on all values, NaN included, by writing the three over one denominator.
use Rattle.std.proofs.Common.{◌≡◌, ℕ, ◌+◌, ◌*◌, ◌<◌, Bool, true, false, cond, sym, refl, ◌∙◌, true≢false, mul-one, mul_right_comm, arith, ltb-true, lt-ltb, Option, Some, None}
use lib.Ieee.{Float, nan, inf, fin, up, down, lt, below}
use lib.Ieee.Fits.{down_pos}
use Rattle.f32_laws.proofs.Fractions.{below_same}
use Rattle.f32_laws.specs.Numbers.{larger}
use Rattle.float.specs.Clear.{raise_to}

below_trans : (s t u : Bool) (x y z : ℕ) → below s x t y ≡ true → below t y u z ≡ true → below s x u z ≡ true
below_trans false false false x y z h k = lt-ltb x z (omega (arith, ltb-true x y h, ltb-true y z k))
below_trans false false true x y z h k = k
below_trans false true false x y z h k = absurd (true≢false (sym h))
below_trans false true true x y z h k = h
below_trans true false false x y z h k = lt-ltb 0 (x + z) (omega (arith, ltb-true y z k))
below_trans true false true x y z h k = absurd (true≢false (sym k))
below_trans true true false x y z h k = lt-ltb 0 (x + z) (omega (arith, ltb-true y x h))
below_trans true true true x y z h k = lt-ltb z x (omega (arith, ltb-true y x h, ltb-true z y k))

-- two numerators multiplied by the same positive number
times : (s t : Bool) (a b c : ℕ) {m n : ℕ} → 0 < c → a * c ≡ m → b * c ≡ n → below s a t b ≡ below s m t n
times s t a b c {m} {n} p e f = below_same (record { old_pos = omega arith; new_pos = p; first = e ∙ sym (mul-one m); second = f ∙ sym (mul-one n) }) s t

fin_trans : (s t u : Bool) (a b c x y z : ℕ) → 0 < x → 0 < y → 0 < z → below s (a * y) t (b * x) ≡ true → below t (b * z) u (c * y) ≡ true → below s (a * z) u (c * x) ≡ true
fin_trans s t u a b c x y z p q r h k =
    times s u (a * z) (c * x) y q (mul_right_comm a z y) refl
    ∙ below_trans s t u (a * y * z) (b * x * z) (c * x * y)
    (sym (times s t (a * y) (b * x) z r refl refl) ∙ h)
    (sym (times t u (b * z) (c * y) x p (mul_right_comm b z x) (mul_right_comm c y x)) ∙ k)

pub lt_trans : (x y z : Float) → lt x y ≡ true → lt y z ≡ true → lt x z ≡ true
unfolding lt
lt_trans nan y z h k = h
lt_trans (inf s) nan z h k = absurd (true≢false (sym h))
lt_trans (fin s m e) nan z h k = absurd (true≢false (sym h))
lt_trans (inf s) (inf t) nan h k = k
lt_trans (inf true) (inf true) (inf u) h k = absurd (true≢false (sym h))
lt_trans (inf true) (inf false) (inf u) h k = absurd (true≢false (sym k))
lt_trans (inf false) (inf t) (inf u) h k = h
lt_trans (inf true) (inf t) (fin u n d) h k = refl
lt_trans (inf false) (inf t) (fin u n d) h k = h
lt_trans (inf s) (fin t n d) nan h k = k
lt_trans (inf true) (fin t n d) (inf u) h k = k
lt_trans (inf false) (fin t n d) (inf u) h k = h
lt_trans (inf s) (fin t n d) (fin u l g) h k = h
lt_trans (fin s m e) (inf t) nan h k = k
lt_trans (fin s m e) (inf true) (inf u) h k = absurd (true≢false (sym h))
lt_trans (fin s m e) (inf false) (inf u) h k = absurd (true≢false (sym k))
lt_trans (fin s m e) (inf true) (fin u l g) h k = absurd (true≢false (sym h))
lt_trans (fin s m e) (inf false) (fin u l g) h k = absurd (true≢false (sym k))
lt_trans (fin s m e) (fin t n d) nan h k = k
lt_trans (fin s m e) (fin t n d) (inf u) h k = k
lt_trans (fin s m e) (fin t n d) (fin u l g) h k = fin_trans s t u (m * up e) (n * up d) (l * up g) (down e) (down d) (down g) (down_pos e) (down_pos d) (down_pos g) h k

larger_below : (y x e : Float) → lt (larger y x) e ≡ true → lt y e ≡ true
unfolding larger
larger_below y x e h = go (lt y x) refl h
  where
    go : (t : Bool) → lt y x ≡ t → lt (cond t x y) e ≡ true → lt y e ≡ true
    go true q h = lt_trans y x e q h
    go false q h = h

pub raised_below : (y : Float) (b : Option Float) (e : Float) → lt (raise_to y b) e ≡ true → lt y e ≡ true
unfolding raise_to
raised_below y None e h = h
raised_below y (Some x) e h = larger_below y x e h
