-- What a tape hands in is f32, whatever its bytes: any four of them are one.
use Rattle.std.specs.Prelude.{Some, None}
use Prim.Native.Nat.{ℕ, zero, suc}
use mathlib.Core.Bool.{Bool, true, false, ◌&&◌, cond}
use mathlib.Core.List.{List, [], ◌∷◌, ◌++◌, flat_map}
use lib.Dec.{ltb, leb}
use lib.Ieee.{binary32}
use lib.Ieee.Bits.{of_bits-fits}
use lib.ListN.{length, take, drop}
use Rattle.demands.specs.Runs.{Each, handed, Handed, F32}
use Rattle.tape.specs.declared.record.Record.{Record}
use Rattle.tape.specs.Bytes.{f32_at}
use Rattle.tape.specs.Record.{body_lens, body_len, record_of, read_of}
use Rattle.tied.specs.Acts.{calls_in, records, records_of, calls_at, calls_next}

-- ---- what holds of each of a list
module _ {A : Type 0} (P : A → Type 0) where
  pub each_append : (l m : List A) → Each P l → Each P m → Each P (l ++ m)
  each_append [] m h g = g
  each_append (x ∷ l) m h g = (h.0, each_append l m h.1 g)

  each_take : (n : ℕ) (l : List A) → Each P l → Each P (take n l)
  each_take zero l h = tt
  each_take (suc n) [] h = tt
  each_take (suc n) (x ∷ l) h = (h.0, each_take n l h.1)

  each_drop : (n : ℕ) (l : List A) → Each P l → Each P (drop n l)
  each_drop zero l h = h
  each_drop (suc n) [] h = tt
  each_drop (suc n) (x ∷ l) h = each_drop n l h.1

  -- of what each of another list makes
  pub each_made : {B : Type 0} (f : B → List A) (l : List B) → Each (λ x. Each P (f x)) l → Each P (flat_map f l)
  unfolding flat_map
  each_made f [] h = tt
  each_made f (x ∷ l) h = each_append (f x) (flat_map f l) h.0 (each_made f l h.1)

-- ---- f32
pub number_f32 : (b : List ℕ) (i : ℕ) → F32 (f32_at b i)
unfolding f32_at
number_f32 b i = of_bits-fits binary32 _

-- what a record hands in
abbrev pub Hands : Record → Type 0
Hands q = Handed F32 (calls_in q)

pub record_f32 : (k : ℕ) (b : List ℕ) → Hands (record_of k b)
record_f32 zero b = (tt, tt)
record_f32 (suc zero) b = ((number_f32 b 0, tt), tt)
record_f32 (suc (suc zero)) b = ((number_f32 b 2, (number_f32 b 6, (number_f32 b 10, (number_f32 b 14, (number_f32 b 18, tt))))), tt)
record_f32 (suc (suc (suc zero))) b = tt
record_f32 (suc (suc (suc (suc zero)))) b = tt
record_f32 (suc (suc (suc (suc (suc zero))))) b = tt
record_f32 (suc (suc (suc (suc (suc (suc zero)))))) b = tt
record_f32 (suc (suc (suc (suc (suc (suc (suc zero))))))) b = tt
record_f32 (suc (suc (suc (suc (suc (suc (suc (suc k)))))))) b = (tt, tt)

records_f32 : (f : ℕ) (t : List ℕ) → Each Hands (records f t)
unfolding records read_of
records_f32 zero t = tt
records_f32 (suc f) [] = tt
records_f32 (suc f) (k ∷ b) = go (records_f32 f (drop (body_len k) b)) (ltb k (length body_lens) && leb (body_len k) (length b))
  where
    go : Each Hands (records f (drop (body_len k) b)) → (x : Bool) → Each Hands (elim (cond x (Some (record_of k b)) None) [ Some q ↦ q ∷ records f (drop (body_len k) b) | None ↦ [] ])
    go h true = (record_f32 k b, h)
    go h false = tt

-- whatever a tape's bytes are, the numbers of its calls are f32
pub tape_f32 : (t : List ℕ) (n : ℕ) → Handed F32 (calls_at t n)
tape_f32 t n = each_made (λ o. Each F32 (handed o)) calls_in (take n (records_of t)) (each_take Hands n (records_of t) (records_f32 (length t) t))

pub next_f32 : (t : List ℕ) (n k : ℕ) → Handed F32 (calls_next t n k)
next_f32 t n k = each_made (λ o. Each F32 (handed o)) calls_in (take k (drop n (records_of t))) (each_take Hands k (drop n (records_of t)) (each_drop Hands n (records_of t) (records_f32 (length t) t)))
