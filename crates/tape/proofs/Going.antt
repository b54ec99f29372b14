-- The loop over a tape: the lines so far, and what is left of it.
use Prim.Native.Nat.{ℕ, suc, ◌+◌, ◌-◌, ◌*◌, ◌≤◌, ◌<◌}
use mathlib.Core.Path.{◌≡◌, refl, sym, ap, ◌∙◌, subst⁻¹}
use mathlib.Core.List.{List, [], ◌∷◌, ◌++◌, append-nil, append_assoc}
use native.Mathlib.Numerals.{add-one}
use native.Mathlib.Omega.{arith}
use borrow.Author.Tests.{le-leb, lt-leb}
use lib.ListN.{length, take, drop, get_or, length-drop, drop_of_length-le}
use Rattle.std.specs.Prelude.{None}
use Rattle.std.proofs.Common.{length-take-le}
use lib.Seq.{drop-cons, drop-drop, take_all}
use Rattle.tape.specs.declared.line.Out.{Out}
use Rattle.tape.specs.declared.step.State.{State}
use Rattle.tape.specs.Bytes.{decimal, row}
use Rattle.tape.specs.Put.{Put, Puts, Line, Runs, Answered}
use Rattle.tape.specs.Record.{read_of}
use Rattle.tape.specs.Tape.{fresh_state, run, lines_of, runs, page_after}
use Rattle.tape.proofs.Putting.{and_then, from_front, nothing}
use Rattle.tape.proofs.Running.{Turned, turned_broken, run_none, runs_none}

-- at the offset i of the tape t, run from the state s₀, in the state s: the lines so far were put into the room of o₀, which is then o; the rest of the tape leaves the state that the whole leaves
pub record Going (t : List ℕ) (s₀ : State) (o₀ o : Out) (s : State) (i : ℕ) : Type 0 where
  pub done : List ℕ
  pub fuel : ℕ
  pub enough : length t ≤ i + fuel
  pub inside : i ≤ length t
  pub whole : run (length t) 0 t s₀ ≡ done ++ run fuel i (drop i t) s
  pub ends : runs fuel (drop i t) s ≡ runs (length t) t s₀
  pub few : o.at ≤ o₀.at + 11 * i
  pub puts : Puts o₀ done o

pub going_first : (t : List ℕ) (s : State) (o : Out) → Going t s o o s 0
going_first t s o = record { done = []; fuel = length t; enough = omega arith; inside = omega arith; whole = refl; ends = refl; few = omega arith; puts = nothing o }

module _ (t : List ℕ) (s₀ : State) (o₀ : Out) {o p : Out} {s s' : State} {i m : ℕ} (g : Going t s₀ o₀ o s i) (h : i < length t)
    (q : Turned s (get_or t i 0) (take (length t - (i + 1)) (drop (i + 1) t)) i s' m o p) where
  abbrev left : ℕ
  left = g.fuel - 1

  body : take (length t - (i + 1)) (drop (i + 1) t) ≡ drop (suc i) t
  body = take_all (length t - (i + 1)) (drop (i + 1) t) (let e = length-drop (i + 1) t in omega arith) ∙ ap (λ (x : ℕ). drop x t) (add-one i)

  on_to : m ≤ length t
  on_to = let e = ap length body in let f = length-drop (suc i) t in let w = q.within in omega arith

  rest : drop (m - suc i) (take (length t - (i + 1)) (drop (i + 1) t)) ≡ drop m t
  rest = ap (drop (m - suc i)) body ∙ drop-drop (m - suc i) (suc i) t ∙ ap (λ (x : ℕ). drop x t) (let w = q.on in let e : suc i + (m - suc i) ≡ m = omega arith in e)

  more : g.fuel ≡ suc left
  more = let e = g.enough in omega arith

  here : drop i t ≡ get_or t i 0 ∷ take (length t - (i + 1)) (drop (i + 1) t)
  here = drop-cons t i 0 h ∙ ap (λ (x : List ℕ). get_or t i 0 ∷ x) (sym body)

  next : run (length t) 0 t s₀ ≡ (g.done ++ q.line) ++ run left m (drop m t) s'
  next =
      g.whole
      ∙ ap (λ (x : ℕ). g.done ++ run x i (drop i t) s) more
      ∙ ap (λ (x : List ℕ). g.done ++ run (suc left) i x s) here
      ∙ ap (λ (x : List ℕ). g.done ++ x) (q.goes left ∙ ap (λ (x : List ℕ). q.line ++ run left m x s') rest)
      ∙ sym (append_assoc g.done q.line (run left m (drop m t) s'))

  state_next : runs left (drop m t) s' ≡ runs (length t) t s₀
  state_next =
      ap (λ (x : List ℕ). runs left x s') (sym rest)
      ∙ sym (q.leaves left)
      ∙ ap (λ (x : List ℕ). runs (suc left) x s) (sym here)
      ∙ ap (λ (x : ℕ). runs x (drop i t) s) (sym more)
      ∙ g.ends

  pub going_more : Going t s₀ o₀ p s' m
  going_more = record {
    done = g.done ++ q.line;
    fuel = left;
    enough = let x = g.enough in let y = q.on in omega arith;
    inside = on_to;
    whole = next;
    ends = state_next;
    few = let x = g.few in let y = q.few in let z = q.on in let e = q.puts.put.next in omega arith;
    puts = and_then g.puts q.puts;
  }

pub going_done : (t : List ℕ) (s₀ : State) {o₀ o : Out} {a b : List ℕ} {s : State} {i : ℕ} → (o₀.room.now ≡ a) × (o₀.at ≡ 0) → b ≡ o.room.now → Going t s₀ o₀ o s i → length t ≤ i → Runs t s₀ a b s o.at
going_done t s₀ {o₀} {o} {a} {b} {s} {i} e f g z =
    let none : drop i t ≡ [] = drop_of_length-le t z in record {
      few = let x = g.few in let y = g.inside in let w = e.1 in omega arith;
      put = subst⁻¹ (λ (x : List ℕ). Put a 0 x b o.at) (g.whole ∙ ap (λ (x : List ℕ). g.done ++ run g.fuel i x s) none ∙ ap (λ (x : List ℕ). g.done ++ x) (run_none g.fuel i s) ∙ append-nil g.done) (from_front e f g.puts);
      after = sym (runs_none g.fuel s) ∙ ap (λ (x : List ℕ). runs g.fuel x s) (sym none) ∙ g.ends;
    }

-- a broken record ends the tape
pub going_broken : (t : List ℕ) (s₀ : State) {o₀ o p : Out} {a b : List ℕ} {s : State} {i : ℕ} → (o₀.room.now ≡ a) × (o₀.at ≡ 0) → b ≡ p.room.now → Going t s₀ o₀ o s i → i < length t → length t ≤ 65536
    → read_of (get_or t i 0) (take (length t - (i + 1)) (drop (i + 1) t)) ≡ None → Line o (row 84 (decimal i ∷ [])) p → Runs t s₀ a b s p.at
going_broken t s₀ {o₀} {i = i} f j g h w e l =
    let whole : i + 1 + length (take (length t - (i + 1)) (drop (i + 1) t)) ≡ length t = omega (arith, length-drop (i + 1) t, length-take-le (length t - (i + 1)) (drop (i + 1) t) (omega (arith, length-drop (i + 1) t))) in
    going_done t s₀ f j (going_more t s₀ o₀ g h (turned_broken _ _ _ i (omega arith) whole e l)) (omega arith)

-- ---- a run from a fresh state

-- the lines of a tape that is not too long
pub run_answered : (t a : List ℕ) {b : List ℕ} {s₀ s : State} {r : ℕ} → s₀ ≡ fresh_state → length t ≤ 65536 → Runs t s₀ a b s r → Answered t a b r
unfolding lines_of
run_answered t a {b} {s₀} {s} {r} e h g = record {
  few = let x = g.few in omega arith;
  put = subst⁻¹ (λ (x : List ℕ). Put a 0 x b r) (rw (le-leb (length t) 65536 h, lines_of) (ap (λ (x : State). run (length t) 0 t x) (sym e))) g.put;
}

-- the page after it
pub page_followed : (t : List ℕ) {a b : List ℕ} {s₀ s : State} {r : ℕ} → length t ≤ 65536 → Runs t s₀ a b s r → s₀ ≡ fresh_state → s.page ≡ page_after t
unfolding page_after
page_followed t {s₀ = s₀} h g e = ap (λ (x : State). x.page) (g.after ∙ ap (λ (x : State). runs (length t) t x) e) ∙ sym (rw (le-leb (length t) 65536 h, page_after))

-- of a tape that is too long, a fresh page
pub page_left : (t : List ℕ) {s : State} → 65536 < length t → s ≡ fresh_state → s.page ≡ page_after t
unfolding page_after fresh_state
page_left t h e = ap (λ (x : State). x.page) e ∙ sym (rw (lt-leb (length t) 65536 h, page_after))
