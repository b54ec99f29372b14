-- Where a tape stops: it is looked through record by record, by kinds and lengths alone.
use Rattle.std.specs.Prelude.{Some, None}
use Prim.Native.Nat.{ℕ, zero, suc, ◌+◌, ◌-◌, ◌≤◌, ◌<◌}
use mathlib.Core.Path.{◌≡◌, refl, sym, ap, ◌∙◌}
use mathlib.Core.List.{List, [], ◌∷◌}
use native.Mathlib.Omega.{arith}
use lib.ListN.{length, drop, get_or, length-drop, drop_of_length-le}
use lib.Seq.{drop-cons, drop-drop}
use Rattle.tape.specs.declared.record.Record.{Record}
use Rattle.tape.specs.Bytes.{decimal, row}
use Rattle.tape.specs.Put.{Stops}
use Rattle.tape.specs.Record.{body_len, read_of}
use Rattle.tape.specs.Tape.{broken, broken_line}
use Rattle.tape.proofs.Reading.{whole, cut, unknown}

-- no record before the offset i of the tape t is broken
pub record Stopping (t : List ℕ) (i : ℕ) : Type 0 where
  pub fuel : ℕ
  pub enough : length t ≤ i + fuel
  pub inside : i ≤ length t
  pub rest : broken_line t ≡ broken fuel i (drop i t)

pub stopping_none : (t : List ℕ) → Stopping t 0
stopping_none t = record { fuel = length t; enough = omega arith; inside = omega arith; rest = refl }

broken_whole : (f i k : ℕ) (b : List ℕ) {r : Record} → Some r ≡ read_of k b → broken (suc f) i (k ∷ b) ≡ broken f (suc (i + body_len k)) (drop (body_len k) b)
unfolding broken
broken_whole f i k b e = rw (sym e, broken)

broken_here : (f i k : ℕ) (b : List ℕ) → None ≡ read_of k b → broken (suc f) i (k ∷ b) ≡ row 84 (decimal i ∷ [])
unfolding broken
broken_here f i k b e = rw (sym e, broken)

broken_none : (f i : ℕ) → broken f i [] ≡ []
unfolding broken
broken_none zero i = refl
broken_none (suc f) i = refl

module _ (t : List ℕ) {i : ℕ} (g : Stopping t i) where
  pub stop_end : length t ≤ i → Stops t i
  stop_end h = record { inside = g.inside; whole = λ _. g.rest ∙ ap (broken g.fuel i) (drop_of_length-le t h) ∙ broken_none g.fuel i; stopped = λ l. absurd (omega arith) }

  module _ (h : i < length t) where
    here : broken_line t ≡ broken (suc (g.fuel - 1)) i (get_or t i 0 ∷ drop (suc i) t)
    here = g.rest ∙ ap (λ (f : ℕ). broken f i (drop i t)) (let x = g.enough in omega arith) ∙ ap (broken (suc (g.fuel - 1)) i) (drop-cons t i 0 h)

    stop_at : None ≡ read_of (get_or t i 0) (drop (suc i) t) → Stops t i
    stop_at e = record { inside = g.inside; whole = λ l. absurd (omega arith); stopped = λ _. here ∙ broken_here (g.fuel - 1) i (get_or t i 0) (drop (suc i) t) e }

    pub stop_unknown : 8 ≤ get_or t i 0 → Stops t i
    stop_unknown k = stop_at (unknown (get_or t i 0) (drop (suc i) t) k)

    module _ {n : ℕ} (k : get_or t i 0 < 8) (e : n ≡ body_len (get_or t i 0)) where
      pub stop_cut : length t - i ≤ n → Stops t i
      stop_cut l = stop_at (cut (get_or t i 0) (drop (suc i) t) k (let x = length-drop (suc i) t in omega arith))

      pub stopping_more : n < length t - i → Stopping t (i + 1 + n)
      stopping_more l = record {
        fuel = g.fuel - 1;
        enough = let x = g.enough in omega arith;
        inside = omega arith;
        rest =
            here
            ∙ broken_whole (g.fuel - 1) i (get_or t i 0) (drop (suc i) t) (whole (get_or t i 0) (drop (suc i) t) k (let x = length-drop (suc i) t in omega arith) refl)
            ∙ ap (λ (m : ℕ). broken (g.fuel - 1) (suc (i + m)) (drop m (drop (suc i) t))) (sym e)
            ∙ ap (broken (g.fuel - 1) (suc (i + n))) (drop-drop n (suc i) t)
            ∙ ap (λ (m : ℕ). broken (g.fuel - 1) m (drop (suc i + n) t)) {x = suc (i + n)} {y = i + 1 + n} (omega arith)
            ∙ ap (λ (m : ℕ). broken (g.fuel - 1) (i + 1 + n) (drop m t)) {x = suc i + n} {y = i + 1 + n} (omega arith);
      }
