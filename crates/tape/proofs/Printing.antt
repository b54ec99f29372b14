-- The lines of a text, counted and put one after the other.
use Prim.Native.Nat.{ℕ, ◌+◌, ◌*◌, ◌≤◌, ◌<◌}
use mathlib.Core.Path.{◌≡◌, refl, sym, ap, ◌∙◌, subst, subst⁻¹}
use mathlib.Core.List.{List, [], ◌∷◌, ◌++◌, flat_map, append-nil, append_assoc}
use native.Mathlib.Numerals.{add-one}
use native.Mathlib.Omega.{arith}
use mir.Syntax.{w64}
use mir.Val.{to_z}
use lib.IntN.{negsuc}
use lib.ListN.{length, take, get_or, length-append}
use lib.Seq.{take-suc, take_all}
use Rattle.words.specs.declared.Line.{Line as LineOf}
use Rattle.tape.specs.declared.line.Out.{Out}
use Rattle.tape.specs.Put.{Puts, Line}
use Rattle.tape.specs.Text.{set_line}
use Rattle.tape.proofs.Putting.{and_then, nothing}
use Rattle.tape.proofs.Room.{Right, right_puts, right_short}

flat_last : (l : List LineOf) (x : LineOf) → flat_map set_line (l ++ x ∷ []) ≡ flat_map set_line l ++ set_line x
unfolding flat_map
flat_last [] x = append-nil (set_line x)
flat_last (y ∷ l) x = ap (λ (z : List ℕ). set_line y ++ z) (flat_last l x) ∙ sym (append_assoc (set_line y) (flat_map set_line l) (set_line x))

flat_more : (l : List LineOf) (k : ℕ) (d : LineOf) → k < length l → flat_map set_line (take (k + 1) l) ≡ flat_map set_line (take k l) ++ set_line (get_or l k d)
flat_more l k d h = ap (λ (j : ℕ). flat_map set_line (take j l)) (add-one k) ∙ ap (flat_map set_line) (take-suc l k d h) ∙ flat_last (take k l) (get_or l k d)

-- the first i of the lines l have n bytes
pub record Counted (l : List LineOf) (n i : ℕ) : Type 0 where
  pub long : n ≡ length (flat_map set_line (take i l))
  pub few : n ≤ 64 * i

pub counted_none : (l : List LineOf) → Counted l 0 0
unfolding flat_map
counted_none l = record { long = refl; few = omega arith }

pub counted_more : (l : List LineOf) (d : LineOf) {n i m : ℕ} → i < length l → Counted l n i → (m ≡ length (set_line (get_or l i d))) × (m ≤ 64) → Counted l (n + m) (i + 1)
counted_more l d {n} {i} {m} h g e = record {
  long = let x = g.long in let y = ap length (flat_more l i d h) in let z = length-append (flat_map set_line (take i l)) (set_line (get_or l i d)) in let w = e.0 in omega arith;
  few = let x = g.few in let y = e.1 in omega arith;
}

-- the first k of them were put into the room of o₀, which is then o
pub record Printed (o₀ o : Out) (l : List LineOf) (k : ℕ) : Type 0 where
  pub few : o.at ≤ o₀.at + 64 * k
  pub puts : Puts o₀ (flat_map set_line (take k l)) o

pub printed_none : (o : Out) (l : List LineOf) → Printed o o l 0
unfolding flat_map
printed_none o l = record { few = omega arith; puts = nothing o }

pub printed_more : (l : List LineOf) (d : LineOf) {o₀ o p : Out} {k : ℕ} → k < length l → Printed o₀ o l k → Line o (set_line (get_or l k d)) p → Printed o₀ p l (k + 1)
printed_more l d {o₀} {o} {p} {k} h g n = record {
  few = let x = g.few in let y = n.short in omega arith;
  puts = subst⁻¹ (λ (x : List ℕ). Puts o₀ x p) (flat_more l k d h) (and_then g.puts n.puts);
}

-- all of them
module _ (l : List LineOf) {n i : ℕ} (c : Counted l n i) (e : length l ≤ i) where
  all : flat_map set_line (take i l) ≡ flat_map set_line l
  all = ap (flat_map set_line) (take_all i l e)

  pub lines_short : (a : List ℕ) → length a < n → Right (flat_map set_line l) a a (negsuc 12)
  lines_short a h = right_short (flat_map set_line l) a (let x = c.long in let y = ap length all in omega arith)

  pub lines_put : {a b : List ℕ} {o₀ o : Out} {k : ℕ} → (o₀.room.now ≡ a) × (o₀.at ≡ 0) → b ≡ o.room.now → n ≤ length a → Printed o₀ o l k → length l ≤ k → k ≤ 512 → Right (flat_map set_line l) a b (to_z w64 o.at)
  lines_put {o₀ = o₀} {o} {k} f e h p g few =
      let q : Puts o₀ (flat_map set_line l) o = subst (λ (x : List ℕ). Puts o₀ x o) (ap (flat_map set_line) (take_all k l g)) p.puts in
      right_puts (flat_map set_line l) f e (let x = p.few in let y = f.1 in omega arith) (let x = q.put.next in let y = f.1 in let z = c.long in let w = ap length all in omega arith) q
