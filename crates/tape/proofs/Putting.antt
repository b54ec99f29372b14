-- Bytes put one after another: a byte, one text after another, and the whole of a line; what does not fit is skipped.
use Prim.Native.Nat.{ℕ, ◌+◌, ◌≤◌, ◌<◌}
use mathlib.Core.Path.{◌≡◌, refl, sym, ap, ◌∙◌, subst, subst⁻¹}
use mathlib.Core.List.{List, [], ◌∷◌, ◌++◌, append-nil, append_assoc}
use native.Mathlib.Nat.{add-zero}
use native.Mathlib.Omega.{arith}
use lib.Ieee.{Float, binary32, to_bits}
use lib.ListN.{length, take, drop, length-append}
use lib.Seq.{drop-drop}
use Rattle.tape.specs.declared.line.Out.{Out}
use Rattle.tape.specs.Bytes.{digits, float, decimals, decimal}
use Rattle.tape.specs.Put.{Put, Puts, Line}
use Rattle.tape.proofs.Digits.{length_digits}

-- nothing is put where it would not fit, or where there is nothing to put
pub skipped : (l : List ℕ) (i : ℕ) (t : List ℕ) (r : ℕ) → r ≡ i + length t → length l < r → Put l i t l r
skipped l i t r e h = record { next = e; long = refl; text = λ k. absurd (omega arith); rest = refl }

then : {l m n s t : List ℕ} {i j k : ℕ} → Put l i s m j → Put m j t n k → Put l i (s ++ t) n k
then {l} {m} {n} {s} {t} {i} {j} {k} p q =
    let e = length-append s t in
    let a = p.next in
    let b = q.next in
    let c = p.long in
    record {
      next = omega arith;
      long = q.long ∙ p.long;
      text = λ h. q.text (omega arith) ∙ ap (λ (x : List ℕ). x ++ t) (p.text (omega arith)) ∙ append_assoc (take i l) s t;
      rest = q.rest ∙ further m ∙ ap (drop (length t)) p.rest ∙ sym (further l);
    }
  where
    further : (x : List ℕ) → drop k x ≡ drop (length t) (drop j x)
    further x = ap (λ (y : ℕ). drop y x) q.next ∙ sym (drop-drop (length t) j x)

-- of a room that is lent
pub nothing : (o : Out) → Puts o [] o
nothing o = record { same = refl; put = record { next = sym (add-zero o.at); long = refl; text = λ _. sym (append-nil (take o.at o.room.now)); rest = refl } }

pub and_then : {o p q : Out} {s t : List ℕ} → Puts o s p → Puts p t q → Puts o (s ++ t) q
and_then a b = record { same = b.same ∙ a.same; put = then a.put b.put }

-- what was put into a room from its front on, which is then b
pub from_front : {o p : Out} {a b t : List ℕ} → (o.room.now ≡ a) × (o.at ≡ 0) → b ≡ p.room.now → Puts o t p → Put a 0 t b p.at
from_front {o} {p} {a} {b} {t} e f q =
    subst⁻¹ (λ (x : List ℕ). Put a 0 t x p.at) f (subst (λ (x : ℕ). Put a x t p.room.now p.at) e.1 (subst (λ (x : List ℕ). Put x o.at t p.room.now p.at) e.0 q.put))

-- a float after a space
pub put_hex : {o p q : Out} {n : ℕ} (x : Float) → Puts o (32 ∷ []) p → n ≡ to_bits binary32 x → Puts p (digits 16 8 n) q → (q.at ≡ o.at + 9) × Puts o (32 ∷ float x) q
unfolding float
put_hex {o} {p} {q} {n} x a e b =
    let f = a.put.next in
    let g = b.put.next in
    let h = length_digits 16 8 n in
    (omega arith, and_then a (subst (λ (k : ℕ). Puts p (digits 16 8 k) q) e b))

-- another number after a space
pub put_decimal : {o p q : Out} {k : ℕ} (n : ℕ) → Puts o (32 ∷ []) p → (k ≡ decimals n n) × (k ≤ 20) → Puts p (digits 10 k n) q → (q.at ≤ o.at + 21) × Puts o (32 ∷ decimal n) q
unfolding decimal
put_decimal {o} {p} {q} {k} n a e b =
    let f = a.put.next in
    let g = b.put.next in
    let h = length_digits 10 k n in
    (omega arith, and_then a (subst (λ (d : ℕ). Puts p (digits 10 d n) q) e.0 b))

-- the text of an answer, where it is known which answer it is
pub of_answer : {A : Type 0} (text : A → List ℕ) {a b : A} {o p : Out} → a ≡ b → Line o (text b) p → Line o (text a) p
of_answer {A} text {a} {b} {o} {p} e l = subst⁻¹ (λ (x : A). Line o (text x) p) e l

-- and of a field
pub of_field : {A : Type 0} (text : A → List ℕ) {a b : A} {o p : Out} → a ≡ b → Puts o (text b) p → Puts o (text a) p
of_field {A} text {a} {b} {o} {p} e l = subst⁻¹ (λ (x : A). Puts o (text x) p) e l
