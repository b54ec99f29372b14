-- The room for the lines: a tape that is too long, lines that fit, and lines that do not.
use Prim.Native.Nat.{ℕ, ◌≤◌, ◌<◌}
use mathlib.Core.Logic.{⊎_elim}
use mathlib.Core.Path.{◌≡◌, refl, sym, ap, ◌∙◌, subst, subst⁻¹}
use mathlib.Core.List.{List, [], ◌∷◌, ◌++◌}
use native.Mathlib.Omega.{arith}
use borrow.Author.Tests.{le-leb, lt-leb}
use mir.Syntax.{w64}
use mir.Val.{SFits, to_z, of_z}
use mir.ValLaws.{to_z_pos, to_z-of_z}
use lib.IntN.{ℤ, pos, negsuc}
use lib.ListN.{length, drop, take-append-drop}
use Rattle.float.specs.Page.{front}
use Rattle.tape.specs.declared.line.Out.{Out}
use Rattle.tape.specs.Bytes.{fields, row}
use Rattle.tape.specs.Put.{Put, Puts, Line, Answered, Roomy, reach}
use Rattle.tape.specs.Tape.{lines_of, returned, filled}
use Rattle.tape.proofs.Putting.{from_front}

over : (t : List ℕ) → 65536 < length t → lines_of t ≡ row 76 []
unfolding lines_of
over t h = rw (lt-leb (length t) 65536 h, lines_of)

pub over_answered : (t : List ℕ) {a b : List ℕ} {o p : Out} → 65536 < length t → (o.room.now ≡ a) × (o.at ≡ 0) → b ≡ p.room.now → Line o (row 76 []) p → Answered t a b p.at
unfolding fields
over_answered t {a} {b} {o} {p} h e f l =
    let q = from_front e f l.puts in record {
      few = let x = q.next in omega arith;
      put = subst⁻¹ (λ (x : List ℕ). Put a 0 x b p.at) (over t h) q;
    }

-- what is to be shown of the lines ls and the room a: the number q is returned, and the room is then d
abbrev pub Right : List ℕ → List ℕ → List ℕ → ℤ → Type 0
Right ls a d q = (q ≡ returned ls a) × (d ≡ filled ls a)

module _ (ls a : List ℕ) where
  -- they fit, and were put
  pub right_put : {d : List ℕ} {q : ℕ} → q ≤ reach → q ≤ length a → Put a 0 ls d q → Right ls a d (to_z w64 q)
  unfolding returned filled front
  right_put {d} {q} m h p =
      let g : q ≡ length ls = let x = p.next in omega arith in
      let e = le-leb (length ls) (length a) (omega arith) in
      let x : d ≡ ls ++ drop (length ls) a = sym (take-append-drop q d) ∙ ap (λ (y : List ℕ). y ++ drop q d) (p.text h) ∙ ap (λ (y : List ℕ). ls ++ y) (p.rest ∙ ap (λ (y : ℕ). drop y a) g) in
      (simp e (to_z_pos w64 q (omega arith) ∙ ap pos g), simp e x)

  -- they do not
  pub right_short : length a < length ls → Right ls a a (negsuc 12)
  unfolding returned filled
  right_short h = let e = lt-leb (length ls) (length a) h in (simp e, simp e)

pub right_puts : (ls : List ℕ) {a b : List ℕ} {o p : Out} → (o.room.now ≡ a) × (o.at ≡ 0) → b ≡ p.room.now → p.at ≤ reach → p.at ≤ length a → Puts o ls p → Right ls a b (to_z w64 p.at)
right_puts ls {a} e f m h q = right_put ls a m h (from_front e f q)

-- a call answers what another one does
pub passed_on : (a : List ℕ) {x y d : List ℕ} {q : ℤ} → SFits w64 q → x ≡ y → Right x a d q → Right y a d (to_z w64 (of_z w64 q))
passed_on a {x} {y} {d} {q} f e r = subst (λ (z : List ℕ). Right z a d (to_z w64 (of_z w64 q))) e (to_z-of_z w64 q f ∙ r.0, r.1)

module _ (t a : List ℕ) where
  -- written into a room that takes the lines
  module _ {d : List ℕ} {q : ℕ} (h : Roomy t a) (k : Answered t a d q) where
    pub fit : q ≤ length a
    fit = let y = k.put.next in let z = k.few in ⊎_elim (λ x. omega arith) (λ x. omega arith) h

    pub told : Right (lines_of t) a d (to_z w64 q)
    told = right_put (lines_of t) a (let z = k.few in omega arith) fit k.put

  -- counted first, in no room: what is put back before a has no byte
  module _ {b : List ℕ} {r : ℕ} (c : Answered t [] b r) where
    same : b ++ a ≡ a
    same = ap (λ (x : List ℕ). x ++ a) (none b c.put.long)
      where
        none : (x : List ℕ) → length x ≡ 0 → x ≡ []
        none [] e = refl
        none (y ∷ x) e = absurd (omega arith)

    pub short : length (b ++ a) < r → Right (lines_of t) a (b ++ a) (negsuc 12)
    short h =
        let f = right_short (lines_of t) a (let x = c.put.next in let y = ap length same in omega arith) in
        (f.0, same ∙ f.1)
