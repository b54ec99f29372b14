-- A value that is no NaN by its key: the tests compare keys, the minus sign mirrors them, and key and sign give the value back.
use mathlib.Core.Path.{◌≡◌, refl, sym, ap, ap₂, ◌∙◌, subst}
use Prim.Native.Nat.{ℕ, ◌+◌, ◌-◌, ◌*◌, ◌/◌, ◌^◌, ◌≤◌, ◌<◌}
use native.Mathlib.Nat.{le_of_lt, le_antisymm, not-le_of_lt, mul-div_cancel, eq_of_mul-eq-mul_right}
use native.Mathlib.Omega.{arith}
use mathlib.Core.Bool.{Bool, true, false, not, ◌&&◌, ◌||◌, cond, true≢false}
use lib.IntN.{ℤ, pos}
use lib.Dec.{T, leb, ltb, eqb, leb→le, le→leb, ltb→lt, lt→ltb, nltb→le, nleb→lt, eqb→eq}
use lib.Ieee.{Float, nan, inf, fin, Format, prec, low, down, lt, eq, le, below, level, fits, is_nan, neg, size, to_bits, of_bits, top, hid}
use lib.Ieee.Bits.{of_bits-to_bits}
use lib.Ieee.Exact.{HasValue}
use lib.Ieee.Fits.{down_pos, and_l, and_r, and_i, eq→eqb, neg-fits}
use Rattle.f32_laws.specs.Numbers.{zero+}
use Rattle.f32_laws.specs.Key.{IsNum, IsFin, Num, Fin, sign, bias, mag, signed, key, Units}
use Rattle.f32_laws.proofs.Tests.{both, bool_same, ltb_same}
use Rattle.f32_laws.proofs.Fractions.{below_same, level_same}
use Rattle.f32_laws.proofs.Magnitude.{bias_pos, mag_zero, mag_val, mag_lt, in_units}

-- ---- which values: no NaN, finite, zero
fin_num : (f : Format) (x : Float) → IsFin f x → IsNum f x
fin_num f nan p = p
fin_num f (inf s) p = tt
fin_num f (fin s m e) p = p

pub num : {f : Format} {x : Float} → Fin f x → Num f x
num {f} {x} p = record { is = fin_num f x p.is }

num_of : (f : Format) (x : Float) → T (fits f x) → T (not (is_nan x)) → IsNum f x
unfolding is_nan
num_of f nan p q = q
num_of f (inf s) p q = tt
num_of f (fin s m e) p q = p

-- from what a function knows of a parameter
pub num_fits : {f : Format} {x : Float} → T (fits f x) → T (not (is_nan x)) → Num f x
num_fits {f} {x} p q = record { is = num_of f x p q }

-- the keys of the finite values lie strictly between those of the infinities
pub key_in : (f : Format) (x : Float) → IsFin f x → (0 < key f x) × (key f x < bias f + bias f)
key_in f nan p = absurd p
key_in f (inf s) p = absurd p
key_in f (fin true m e) p = (omega (arith, mag_lt f true m e p), omega (arith, mag_lt f true m e p))
key_in f (fin false m e) p = (omega (arith, mag_lt f false m e p), omega (arith, mag_lt f false m e p))

key_most : (f : Format) (x : Float) → IsNum f x → key f x ≤ bias f + bias f
key_most f nan p = absurd p
key_most f (inf true) p = omega arith
key_most f (inf false) p = omega arith
key_most f (fin s m e) p = omega (arith, key_in f (fin s m e) p)

pub key_top : {f : Format} {x : Float} → Num f x → key f x ≤ bias f + bias f
key_top {f} {x} p = key_most f x p.is

fin_of : (f : Format) (x : Float) → IsNum f x → 0 < key f x → key f x < bias f + bias f → IsFin f x
fin_of f nan p h k = p
fin_of f (inf true) p h k = omega arith
fin_of f (inf false) p h k = omega arith
fin_of f (fin s m e) p h k = p

pub fin_of_key : {f : Format} {x : Float} → Num f x → 0 < key f x → key f x < bias f + bias f → Fin f x
fin_of_key {f} {x} p h k = record { is = fin_of f x p.is h k }

pub zero_fin : (f : Format) → Fin f zero+
unfolding zero+ fits
zero_fin f = record { is = tt }

pub zero_key : (f : Format) → key f zero+ ≡ bias f
unfolding zero+
zero_key f = omega (arith, mag_zero f (pos 0))

-- a value known as a fraction of units
pub value_key : (f : Format) (x : Float) (s : Bool) (n : ℕ) → T (fits f x) → HasValue x s n (2 ^ low f) → key f x ≡ signed s (bias f) n
value_key f nan s n p h = absurd h
value_key f (inf t) s n p h = absurd h
value_key f (fin t m e) s n p h =
    ap₂ (λ (b : Bool) (z : ℕ). signed b (bias f) z) h.0 (eq_of_mul-eq-mul_right (down e) (down_pos e) (mag f m e) n (mag_val f t m e p ∙ h.1))

-- ---- the tests compare keys
below_key : (s t : Bool) (K M N : ℕ) → M < K → N < K → below s M t N ≡ ltb (signed s K M) (signed t K N)
below_key false false K M N h k = ltb_same M N (K + M) (K + N) (omega arith) (omega arith)
below_key false true K M N h k = bool_same false (ltb (K + M) (K - N)) (λ t. absurd t) (λ t. omega (arith, ltb→lt (K + M) (K - N) t))
below_key true false K M N h k = ltb_same 0 (M + N) (K - M) (K + N) (omega arith) (omega arith)
below_key true true K M N h k = ltb_same N M (K - M) (K - N) (omega arith) (omega arith)

level_key : (s t : Bool) (K M N : ℕ) → M < K → N < K → level s M t N ≡ eqb (signed s K M) (signed t K N)
level_key s t K M N h k = go s t
  where
    both : (c : Bool) (a b : ℕ) → (M ≡ N → T c → a ≡ b) → (a ≡ b → M ≡ N) → (a ≡ b → T c) → eqb M N && c ≡ eqb a b
    both c a b u v w = bool_same (eqb M N && c) (eqb a b)
        (λ t. eq→eqb (u (eqb→eq M N (and_l (eqb M N) c t)) (and_r (eqb M N) c t)))
        (λ t. and_i (eqb M N) c (eq→eqb (v (eqb→eq a b t))) (w (eqb→eq a b t)))

    go : (s t : Bool) → level s M t N ≡ eqb (signed s K M) (signed t K N)
    go false false = both true (K + M) (K + N) (λ e c. omega arith) (omega arith) (λ e. tt)
    go true true = both true (K - M) (K - N) (λ e c. omega arith) (omega arith) (λ e. tt)
    go false true = both (eqb M 0) (K + M) (K - N) (λ e c. omega (arith, eqb→eq M 0 c)) (omega arith) (λ e. eq→eqb {a = M} {b = 0} (omega arith))
    go true false = both (eqb M 0) (K - M) (K + N) (λ e c. omega (arith, eqb→eq M 0 c)) (omega arith) (λ e. eq→eqb {a = M} {b = 0} (omega arith))

yes_lt : (a b : ℕ) → a < b → true ≡ ltb a b
yes_lt a b h = bool_same true (ltb a b) (λ t. lt→ltb a b h) (λ t. tt)

no_lt : (a b : ℕ) → b ≤ a → false ≡ ltb a b
no_lt a b h = bool_same false (ltb a b) (λ t. absurd t) (λ t. not-le_of_lt (ltb→lt a b t) h)

yes_eq : (a b : ℕ) → a ≡ b → true ≡ eqb a b
yes_eq a b h = bool_same true (eqb a b) (λ t. eq→eqb h) (λ t. tt)

no_eq : (a b : ℕ) → (a ≡ b → ⊥) → false ≡ eqb a b
no_eq a b h = bool_same false (eqb a b) (λ t. absurd t) (λ t. h (eqb→eq a b t))

lt_key : (f : Format) (x y : Float) → IsNum f x → IsNum f y → lt x y ≡ ltb (key f x) (key f y)
unfolding lt
lt_key f nan y p q = absurd p
lt_key f (inf s) nan p q = absurd q
lt_key f (inf true) (inf true) p q = no_lt 0 0 (omega arith)
lt_key f (inf true) (inf false) p q = yes_lt 0 (bias f + bias f) (omega (arith, bias_pos f))
lt_key f (inf false) (inf true) p q = no_lt (bias f + bias f) 0 (omega arith)
lt_key f (inf false) (inf false) p q = no_lt (bias f + bias f) (bias f + bias f) (omega arith)
lt_key f (inf true) (fin t n d) p q = yes_lt 0 (key f (fin t n d)) (key_in f (fin t n d) q).0
lt_key f (inf false) (fin t n d) p q = no_lt (bias f + bias f) (key f (fin t n d)) (le_of_lt (key_in f (fin t n d) q).1)
lt_key f (fin s m e) nan p q = absurd q
lt_key f (fin s m e) (inf true) p q = no_lt (key f (fin s m e)) 0 (omega arith)
lt_key f (fin s m e) (inf false) p q = yes_lt (key f (fin s m e)) (bias f + bias f) (key_in f (fin s m e) p).1
lt_key f (fin s m e) (fin t n d) p q = below_same (in_units f s t m n e d p q) s t ∙ below_key s t (bias f) (mag f m e) (mag f n d) (mag_lt f s m e p) (mag_lt f t n d q)

eq_key : (f : Format) (x y : Float) → IsNum f x → IsNum f y → eq x y ≡ eqb (key f x) (key f y)
unfolding eq
eq_key f nan y p q = absurd p
eq_key f (inf s) nan p q = absurd q
eq_key f (inf true) (inf true) p q = yes_eq 0 0 refl
eq_key f (inf true) (inf false) p q = no_eq 0 (bias f + bias f) (omega (arith, bias_pos f))
eq_key f (inf false) (inf true) p q = no_eq (bias f + bias f) 0 (omega (arith, bias_pos f))
eq_key f (inf false) (inf false) p q = yes_eq (bias f + bias f) (bias f + bias f) refl
eq_key f (inf true) (fin t n d) p q = no_eq 0 (key f (fin t n d)) (omega (arith, key_in f (fin t n d) q))
eq_key f (inf false) (fin t n d) p q = no_eq (bias f + bias f) (key f (fin t n d)) (omega (arith, key_in f (fin t n d) q))
eq_key f (fin s m e) nan p q = absurd q
eq_key f (fin s m e) (inf true) p q = no_eq (key f (fin s m e)) 0 (omega (arith, key_in f (fin s m e) p))
eq_key f (fin s m e) (inf false) p q = no_eq (key f (fin s m e)) (bias f + bias f) (omega (arith, key_in f (fin s m e) p))
eq_key f (fin s m e) (fin t n d) p q = level_same (in_units f s t m n e d p q) s t ∙ level_key s t (bias f) (mag f m e) (mag f n d) (mag_lt f s m e p) (mag_lt f t n d q)

or_leb : (a b : ℕ) → ltb a b || eqb a b ≡ leb a b
or_leb a b = bool_same (ltb a b || eqb a b) (leb a b) (λ t. le→leb a b (fwd (ltb a b) (eqb a b) (ltb→lt a b) (eqb→eq a b) t)) (λ t. bwd (ltb a b) (nltb→le a b) (leb→le a b t))
  where
    fwd : (x y : Bool) → (T x → a < b) → (T y → a ≡ b) → T (x || y) → a ≤ b
    fwd true y h k t = omega (arith, h tt)
    fwd false y h k t = omega (arith, k t)

    bwd : (x : Bool) → (T (not x) → b ≤ a) → a ≤ b → T (x || eqb a b)
    bwd true h k = tt
    bwd false h k = eq→eqb (le_antisymm k (h tt))

le_key : (f : Format) (x y : Float) → IsNum f x → IsNum f y → le x y ≡ leb (key f x) (key f y)
unfolding le
le_key f x y p q = ap₂ (λ (a b : Bool). a || b) (lt_key f x y p q) (eq_key f x y p q) ∙ or_leb (key f x) (key f y)

-- a test in hand as a fact of the keys, for `omega`, and back
module _ {f : Format} {x y : Float} (p : Num f x) (q : Num f y) where
  pub lt_is : lt x y ≡ ltb (key f x) (key f y)
  lt_is = lt_key f x y p.is q.is

  pub eq_is : eq x y ≡ eqb (key f x) (key f y)
  eq_is = eq_key f x y p.is q.is

  pub le_is : le x y ≡ leb (key f x) (key f y)
  le_is = le_key f x y p.is q.is

  pub le→key : T (le x y) → key f x ≤ key f y
  le→key h = leb→le (key f x) (key f y) (subst T le_is h)

  pub key→le : key f x ≤ key f y → T (le x y)
  key→le h = subst T (sym le_is) (le→leb (key f x) (key f y) h)

  pub lt→key : T (lt x y) → key f x < key f y
  lt→key h = ltb→lt (key f x) (key f y) (subst T lt_is h)

  pub key→lt : key f x < key f y → T (lt x y)
  key→lt h = subst T (sym lt_is) (lt→ltb (key f x) (key f y) h)

  pub nlt→key : T (not (lt x y)) → key f y ≤ key f x
  nlt→key h = nltb→le (key f x) (key f y) (subst (λ (b : Bool). T (not b)) lt_is h)

  pub nle→key : T (not (le x y)) → key f y < key f x
  nle→key h = nleb→lt (key f x) (key f y) (subst (λ (b : Bool). T (not b)) le_is h)

  pub eq→key : T (eq x y) → key f x ≡ key f y
  eq→key h = eqb→eq (key f x) (key f y) (subst T eq_is h)

  pub key→eq : key f x ≡ key f y → T (eq x y)
  key→eq h = subst T (sym eq_is) (eq→eqb h)

-- ---- key and sign give the value back: a finite value's bits depend on its magnitude and its sign alone
abbrev pattern : Format → Bool → ℕ → ℕ
pattern f s n = cond s (top f) 0 + (size n - prec f) * hid f + n / 2 ^ (size n - prec f)

bits_is : (f : Format) (s : Bool) (m : ℕ) (e : ℤ) → T (fits f (fin s m e)) → to_bits f (fin s m e) ≡ pattern f s (mag f m e)
unfolding to_bits
bits_is f s m e h = ap (λ (n : ℕ). pattern f s n) (ap (λ (z : ℕ). z / down e) (sym (mag_val f s m e h)) ∙ mul-div_cancel (mag f m e) (down_pos e))

mag_inj : (f : Format) (s : Bool) (m n : ℕ) (e d : ℤ) → T (fits f (fin s m e)) → T (fits f (fin s n d)) → mag f m e ≡ mag f n d → fin s m e ≡ fin s n d
mag_inj f s m n e d p q h =
    sym (of_bits-to_bits f (fin s m e) p) ∙ ap (of_bits f) (bits_is f s m e p ∙ ap (λ (n : ℕ). pattern f s n) h ∙ sym (bits_is f s n d q)) ∙ of_bits-to_bits f (fin s n d) q

inj : (f : Format) (x y : Float) → IsNum f x → IsNum f y → sign x ≡ sign y → key f x ≡ key f y → x ≡ y
inj f nan y p q r h = absurd p
inj f (inf s) nan p q r h = absurd q
inj f (inf s) (inf t) p q r h = ap inf r
inj f (inf true) (fin t n d) p q r h = absurd (omega (arith, key_in f (fin t n d) q))
inj f (inf false) (fin t n d) p q r h = absurd (omega (arith, key_in f (fin t n d) q))
inj f (fin s m e) nan p q r h = absurd q
inj f (fin s m e) (inf true) p q r h = absurd (omega (arith, key_in f (fin s m e) p))
inj f (fin s m e) (inf false) p q r h = absurd (omega (arith, key_in f (fin s m e) p))
inj f (fin true m e) (fin true n d) p q r h = mag_inj f true m n e d p q (omega (arith, mag_lt f true m e p, mag_lt f true n d q))
inj f (fin false m e) (fin false n d) p q r h = mag_inj f false m n e d p q (omega arith)
inj f (fin true m e) (fin false n d) p q r h = absurd (true≢false r)
inj f (fin false m e) (fin true n d) p q r h = absurd (true≢false (sym r))

pub key_inj : {f : Format} {x y : Float} → Num f x → Num f y → sign x ≡ sign y → key f x ≡ key f y → x ≡ y
key_inj {f} {x} {y} p q = inj f x y p.is q.is

ge_bias : (f : Format) (x : Float) → IsNum f x → sign x ≡ false → bias f ≤ key f x
ge_bias f nan p h = absurd p
ge_bias f (inf true) p h = absurd (true≢false h)
ge_bias f (inf false) p h = omega arith
ge_bias f (fin true m e) p h = absurd (true≢false h)
ge_bias f (fin false m e) p h = omega arith

pub key_ge : {f : Format} {x : Float} → Num f x → sign x ≡ false → bias f ≤ key f x
key_ge {f} {x} p = ge_bias f x p.is

-- ---- the minus sign mirrors the key at `bias`
fin_neg : (f : Format) (x : Float) → IsFin f x → IsFin f (neg x)
unfolding neg
fin_neg f nan p = p
fin_neg f (inf s) p = p
fin_neg f (fin s m e) p = neg-fits f (fin s m e) p

pub neg_fin : {f : Format} {x : Float} → Fin f x → Fin f (neg x)
neg_fin {f} {x} p = record { is = fin_neg f x p.is }

mirror : (f : Format) (x : Float) → IsNum f x → key f (neg x) + key f x ≡ bias f + bias f
unfolding neg
mirror f nan p = absurd p
mirror f (inf true) p = omega arith
mirror f (inf false) p = omega arith
mirror f (fin true m e) p = omega (arith, mag_lt f true m e p)
mirror f (fin false m e) p = omega (arith, mag_lt f false m e p)

pub neg_key : {f : Format} {x : Float} → Num f x → key f (neg x) + key f x ≡ bias f + bias f
neg_key {f} {x} p = mirror f x p.is

-- ---- a finite value as a sign and a number of units
pub fin_units : (f : Format) (s : Bool) (m : ℕ) (e : ℤ) → T (fits f (fin s m e)) → Units f (fin s m e) s (mag f m e)
fin_units f s m e p = record { finite = record { is = p }; minus = refl; counts = refl; small = mag_lt f s m e p }

pub units_mag : (f : Format) (s t : Bool) (m n : ℕ) (e : ℤ) → Units f (fin s m e) t n → mag f m e ≡ n
units_mag f s t m n e u = go s t u.minus u.counts
  where
    go : (s t : Bool) → s ≡ t → signed s (bias f) (mag f m e) ≡ signed t (bias f) n → mag f m e ≡ n
    go true true r h = omega (arith, mag_lt f s m e u.finite.is, u.small)
    go false false r h = omega arith
    go true false r h = absurd (true≢false r)
    go false true r h = absurd (true≢false (sym r))

turned : (f : Format) (x : Float) → IsFin f x → sign (neg x) ≡ not (sign x)
unfolding neg
turned f nan p = absurd p
turned f (inf s) p = refl
turned f (fin s m e) p = refl

pub neg_units : {f : Format} {x : Float} {s : Bool} {n : ℕ} → Units f x s n → Units f (neg x) (not s) n
neg_units {f} {x} {s} {n} u = record { finite = neg_fin u.finite; minus = turned f x u.finite.is ∙ ap not u.minus; counts = go s u.counts; small = u.small }
  where
    go : (s : Bool) → key f x ≡ signed s (bias f) n → key f (neg x) ≡ signed (not s) (bias f) n
    go true h = omega (arith, neg_key (num u.finite), u.small)
    go false h = omega (arith, neg_key (num u.finite), u.small)

pub same_units : {f : Format} {x y : Float} {s : Bool} {n : ℕ} → Units f x s n → Units f y s n → x ≡ y
same_units u v = key_inj (num u.finite) (num v.finite) (u.minus ∙ sym v.minus) (u.counts ∙ sym v.counts)
