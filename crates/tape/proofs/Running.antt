-- A run, record by record: what one turn does to the lines that are left, and to the state at the end.
use Rattle.std.specs.Prelude.{Some, None}
use Prim.Native.Nat.{ℕ, zero, suc, ◌+◌, ◌-◌, ◌*◌, ◌≤◌, ◌<◌}
use mathlib.Core.Bool.{Bool, true, false, ◌&&◌, cond}
use mathlib.Core.Logic.{⊎_elim}
use mathlib.Core.Path.{◌≡◌, refl, sym, ap, ◌∙◌}
use mathlib.Core.List.{List, [], ◌∷◌, ◌++◌, append-nil}
use native.Mathlib.Omega.{arith}
use borrow.Author.Tests.{leb-true}
use lib.Dec.{ltb, leb}
use lib.ListN.{length, drop, drop_of_length-le}
use Rattle.tape.specs.declared.line.Out.{Out}
use Rattle.tape.specs.declared.record.Record.{Record}
use Rattle.tape.specs.declared.step.State.{State}
use Rattle.tape.specs.Bytes.{decimal, row}
use Rattle.tape.specs.Put.{Puts, Line, Tells}
use Rattle.tape.specs.Record.{body_len, record_of, read_of}
use Rattle.tape.specs.Tape.{step_of, run, runs}
use Rattle.tape.proofs.Lengths.{by_kind, length_offset}

-- a body that was read is whole
passed : (t : Bool) (x : Record) {r : Record} → cond t (Some x) None ≡ Some r → t ≡ true
passed true x e = refl
passed false x e = let z : ◌≡◌ {A = ℕ} 0 1 = cc in absurd (omega arith)

second : (a b : Bool) → a && b ≡ true → b ≡ true
second true b e = e
second false b e = let z : ◌≡◌ {A = ℕ} 0 1 = cc in absurd (omega arith)

pub body_fits : (k : ℕ) (b : List ℕ) {r : Record} → read_of k b ≡ Some r → body_len k ≤ length b
unfolding read_of
body_fits k b e = leb-true (body_len k) (length b) (second (ltb k 8) (leb (body_len k) (length b)) (passed (ltb k 8 && leb (body_len k) (length b)) (record_of k b) e))

same_record : (t : Bool) (x : Record) {r : Record} → cond t (Some x) None ≡ Some r → r ≡ x
same_record true x e = cc
same_record false x e = let z : ◌≡◌ {A = ℕ} 0 1 = cc in absurd (omega arith)

is_record : (k : ℕ) (b : List ℕ) {r : Record} → read_of k b ≡ Some r → r ≡ record_of k b
unfolding read_of
is_record k b e = same_record (ltb k 8 && leb (body_len k) (length b)) (record_of k b) e

pub run_none : (f i : ℕ) (s : State) → run f i [] s ≡ []
unfolding run
run_none zero i s = refl
run_none (suc f) i s = refl

pub runs_none : (f : ℕ) (s : State) → runs f [] s ≡ s
unfolding runs
runs_none zero s = refl
runs_none (suc f) s = refl

-- the record of the kind k and the body b at the offset i was run: s is the state after it, n the next offset, and its line was put into the room of o, which is then p
pub record Turned (s₀ : State) (k : ℕ) (b : List ℕ) (i : ℕ) (s : State) (n : ℕ) (o p : Out) : Type 0 where
  pub line : List ℕ
  pub goes : (f : ℕ) → run (suc f) i (k ∷ b) s₀ ≡ line ++ run f n (drop (n - suc i) b) s
  pub leaves : (f : ℕ) → runs (suc f) (k ∷ b) s₀ ≡ runs f (drop (n - suc i) b) s
  pub on : i < n
  pub within : n ≤ suc i + length b
  pub few : length line ≤ 11 * (n - i)
  pub puts : Puts o line p

module _ (s₀ : State) (k : ℕ) (b : List ℕ) (i : ℕ) where
  goes_whole : (f : ℕ) {r : Record} → read_of k b ≡ Some r → run (suc f) i (k ∷ b) s₀ ≡ (step_of s₀ r).line ++ run f (suc (i + body_len k)) (drop (body_len k) b) (step_of s₀ r).after
  unfolding run
  goes_whole f e = rw (e, run)

  goes_broken : (f : ℕ) → read_of k b ≡ None → run (suc f) i (k ∷ b) s₀ ≡ row 84 (decimal i ∷ [])
  unfolding run
  goes_broken f e = rw (e, run)

  leaves_whole : (f : ℕ) {r : Record} → read_of k b ≡ Some r → runs (suc f) (k ∷ b) s₀ ≡ runs f (drop (body_len k) b) (step_of s₀ r).after
  unfolding runs
  leaves_whole f e = rw (e, runs)

  leaves_broken : (f : ℕ) → read_of k b ≡ None → runs (suc f) (k ∷ b) s₀ ≡ s₀
  unfolding runs
  leaves_broken f e = rw (e, runs)

  pub turned_whole : {r : Record} {s : State} {o p : Out} {m : ℕ} → read_of k b ≡ Some r → Tells (step_of s₀ r) s o p → m ≡ body_len k → Turned s₀ k b i s (i + (1 + m)) o p
  turned_whole {r} {s} {o} {p} {m} e t h = record {
    line = (step_of s₀ r).line;
    goes = λ f.
        let a : suc (i + body_len k) ≡ i + (1 + m) = omega arith in
        let d : body_len k ≡ i + (1 + m) - suc i = omega arith in
        let g = goes_whole f e in
        let w = t.after in
        cc;
    leaves = λ f.
        let d : body_len k ≡ i + (1 + m) - suc i = omega arith in
        let g = leaves_whole f e in
        let w = t.after in
        cc;
    on = omega arith;
    within = let g = body_fits k b e in omega arith;
    few =
        let a = t.line.short in
        let d = t.line.puts.put.next in
        let w = is_record k b e in
        ⊎_elim (λ x. omega arith) (λ x. let y = ap (λ (z : Record). length (step_of s₀ z).line) w in omega arith) (by_kind s₀ k b);
    puts = t.line.puts;
  }

  pub turned_broken : {o p : Out} {n : ℕ} → i < 65536 → i + 1 + length b ≡ n → read_of k b ≡ None → Line o (row 84 (decimal i ∷ [])) p → Turned s₀ k b i s₀ n o p
  turned_broken {o} {p} {n} u h e t = record {
    line = row 84 (decimal i ∷ []);
    goes = λ f.
        goes_broken f e
        ∙ sym (append-nil (row 84 (decimal i ∷ [])))
        ∙ ap (λ (x : List ℕ). row 84 (decimal i ∷ []) ++ x) (sym (ap (λ (x : List ℕ). run f n x s₀) (drop_of_length-le b {i = n - suc i} (omega arith)) ∙ run_none f n s₀));
    leaves = λ f. leaves_broken f e ∙ sym (ap (λ (x : List ℕ). runs f x s₀) (drop_of_length-le b {i = n - suc i} (omega arith)) ∙ runs_none f s₀);
    on = omega arith;
    within = omega arith;
    few = let d = length_offset i u in omega arith;
    puts = t.puts;
  }
