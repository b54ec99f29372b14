-- Refusals 1 to 3: what each code means or that it is unknown, and joined tests, built up a number at a time, along the list of the numbers.
use Rattle.std.proofs.Common.{◌≡◌, Bool, true, false, cond, ◌&&◌, List, [], ◌∷◌, refl, arith, ◌∙◌, sym, ap, Result, Ok, Err}
use Rattle.std.proofs.lemmas.Result.{err_from_is_err_and}
use Rattle.std.specs.Prelude.{⊤}
use Rattle.std.specs.Result.{IsErrAnd}
use Rattle.float.specs.declared.Refusal.{Refusal}
use Rattle.float.specs.Numbers.{Given, value, finite, allowed, all_finite, all_allowed}
use Rattle.float.specs.Refuse.{check_of}

-- f tells whether all of the numbers are finite, a whether all are inside their limits
pub record Judged (gs : List Given) (f a : Bool) : Type 0 where
  pub is_finite : f ≡ all_finite gs
  pub is_allowed : a ≡ all_allowed gs

and_true : (a : Bool) → (a && true) ≡ a
and_true true = refl
and_true false = refl

pub one : {g : Given} {f a : Bool} → f ≡ finite (value g) → a ≡ allowed g → Judged (g ∷ []) f a
unfolding all_finite all_allowed
one p q = record { is_finite = rw and_true p; is_allowed = rw and_true q }

pub more : {g : Given} {gs : List Given} {f a f' a' : Bool} → f ≡ finite (value g) → a ≡ allowed g → Judged gs f' a' → Judged (g ∷ gs) (f && f') (a && a')
unfolding all_finite all_allowed
more p q r = record { is_finite = cc; is_allowed = cc }

-- the verdict over the numbers
abbrev pub Verdict : Bool → Bool → Result ⊤ Refusal
Verdict f a = cond f (cond a (Ok tt) (Err Refusal.OutOfLimits)) (Err Refusal.NotFinite)

-- a check of numbers alone
pub told : (gs : List Given) {f a : Bool} {r : Result ⊤ Refusal} → r ≡ Verdict f a → Judged gs f a → r ≡ check_of true gs
unfolding check_of
told gs e j = cc

-- a code, if it is known, and what it means
abbrev pub Code : {A : Type 0} → Bool → A → Result A Refusal
Code known s = cond known (Ok s) (Err Refusal.UnknownCode)

-- what a check answers: what the codes mean, or its refusal
abbrev pub Told : {A : Type 0} → Bool → List Given → A → Result A Refusal
Told known gs v = elim (check_of known gs) [ Ok _ ↦ Ok v | Err n ↦ Err n ]

-- `?` hands on the refusal itself
pub handed : {A : Type 0} (r : Result A Refusal) {n : Refusal} → IsErrAnd r (λ m. m ≡ n) → r ≡ Err n
handed r {n} h = let p = err_from_is_err_and r h in rw (p.1, p.2) (refl)

-- a code that was read: it is known, and t is what it means
pub record Read {A : Type 0} (k : Bool) (s t : A) : Type 0 where
  pub is_known : k ≡ true
  pub means : t ≡ s

pub read : {A : Type 0} (k : Bool) {s t : A} {q : Result A Refusal} → q ≡ Code k s → q ≡ Ok t → Read k s t
read true e f = record { is_known = refl; means = grind arith }
read false e f = absurd (grind arith)

pub both : {A B : Type 0} {k l : Bool} {s t : A} {s' t' : B} → Read k s t → Read l s' t' → Read {A = A × B} (k && l) (s, s') (t, t')
both p q = record { is_known = cc (p.is_known, q.is_known); means = cc (p.means, q.means) }

-- a code that is not known
lost : {A B : Type 0} (gs : List Given) (v : A) (k : Bool) (s : B) {q : Result B Refusal} {n : Refusal} → q ≡ Code k s → q ≡ Err n → Err n ≡ Told k gs v
unfolding check_of
lost gs v true s e f = absurd (grind arith)
lost gs v false s e f = grind arith

module _ {A B : Type 0} (gs : List Given) (v : A) (k : Bool) (s : B) {q : Result B Refusal} {n : Refusal} (e : q ≡ Code k s) (f : q ≡ Err n) (r : Result A Refusal) (h : IsErrAnd r (λ m. m ≡ n)) where
  pub no_code : r ≡ Told k gs v
  no_code = handed r h ∙ lost gs v k s e f

  pub no_first : (l : Bool) → r ≡ Told (k && l) gs v
  unfolding check_of
  no_first l = go k e
    where
      go : (b : Bool) → q ≡ Code b s → r ≡ Told (b && l) gs v
      go true g = absurd (grind arith)
      go false g = handed r h ∙ lost gs v false s g f

  pub no_second : (l : Bool) → r ≡ Told (l && k) gs v
  unfolding check_of
  no_second true = no_code
  no_second false = go k e
    where
      go : (b : Bool) → q ≡ Code b s → r ≡ Told false gs v
      go true g = absurd (grind arith)
      go false g = handed r h ∙ lost gs v false s g f

-- the codes are known, and f and a tell of the numbers: w is the verdict
module _ {A : Type 0} (gs : List Given) {k f a : Bool} {v t : A} {w : Result ⊤ Refusal} (c : Read k v t) (j : Judged gs f a) (e : w ≡ Verdict f a) where
  judged : w ≡ check_of k gs
  judged = told gs e j ∙ ap (λ (b : Bool). check_of b gs) (sym c.is_known)

  pub passed : {u : ⊤} → w ≡ Ok u → Ok t ≡ Told k gs v
  passed {u} g = let p : check_of k gs ≡ Ok u = sym judged ∙ g in rw (c.means, p, Told) (refl)

  pub refused : {n : Refusal} → w ≡ Err n → (r : Result A Refusal) → IsErrAnd r (λ m. m ≡ n) → r ≡ Told k gs v
  refused {n} g r h = let p : check_of k gs ≡ Err n = sym judged ∙ g in handed r h ∙ rw (p, Told) (refl)

-- a check of one code alone: b is what f makes of what it means
pub coded : {A B : Type 0} {k : Bool} {s t : B} → Read k s t → (f : B → A) → {b : A} → b ≡ f t → Ok b ≡ Told k [] (f s)
unfolding check_of all_finite all_allowed
coded c f e = rw (c.is_known, Told, ← c.means, e) (refl)

-- what such an answer tells of the check
module _ {A : Type 0} (k : Bool) (gs : List Given) (v : A) {r : Result A Refusal} (e : r ≡ Told k gs v) where
  pub told_ok : {t : A} → r ≡ Ok t → (check_of k gs ≡ Ok tt) × (t ≡ v)
  told_ok {t} f = go (check_of k gs) refl (sym f ∙ e)
    where
      go : (d : Result ⊤ Refusal) → check_of k gs ≡ d → ◌≡◌ {A = Result A Refusal} (Ok t) (elim d [ Ok _ ↦ Ok v | Err n ↦ Err n ]) → (check_of k gs ≡ Ok tt) × (t ≡ v)
      go (Ok _) p q = (p, grind arith)
      go (Err n) p q = absurd (grind arith)

  pub told_err : {n : Refusal} → r ≡ Err n → check_of k gs ≡ Err n
  told_err {n} f = go (check_of k gs) refl (sym f ∙ e)
    where
      go : (d : Result ⊤ Refusal) → check_of k gs ≡ d → ◌≡◌ {A = Result A Refusal} (Err n) (elim d [ Ok _ ↦ Ok v | Err m ↦ Err m ]) → check_of k gs ≡ Err n
      go (Ok _) p q = absurd (grind arith)
      go (Err m) p q = p ∙ grind arith
