-- The records of a tape, by induction over the fuel: more fuel reads no more of them, and more bytes leave the first of them as they are.
use Rattle.std.specs.Prelude.{Some, None}
use Prim.Native.Nat.{ℕ, zero, suc, ◌+◌, ◌≤◌, ◌<◌}
use native.Mathlib.Omega.{arith}
use borrow.Author.Tests.{leb-true, leb-false}
use mathlib.Core.Path.{◌≡◌, refl, ap, ◌∙◌}
use mathlib.Core.Bool.{Bool, true, false, ◌&&◌, cond}
use mathlib.Core.List.{List, [], ◌∷◌, ◌++◌, flat_map}
use lib.Dec.{ltb, leb}
use lib.ListN.{length, take, drop, get_or, length-drop, length-append, get_or-append}
use lib.Seq.{take-append-le, drop-append-le}
use Rattle.demands.specs.Runs.{after}
use Rattle.tape.specs.declared.record.Record.{Record}
use Rattle.tape.specs.Bytes.{f32_at}
use Rattle.tape.specs.Record.{body_lens, body_len, after_at, mode_of, record_of, read_of}
use Rattle.tied.specs.Acts.{calls_in, records, records_of, run_at}

-- ---- the fuel lasts
same_records : (f g : ℕ) (t : List ℕ) → length t ≤ f → length t ≤ g → records f t ≡ records g t
unfolding records
same_records zero zero t h e = refl
same_records zero (suc g) [] h e = refl
same_records zero (suc g) (k ∷ b) h e = absurd (omega arith)
same_records (suc f) zero [] h e = refl
same_records (suc f) zero (k ∷ b) h e = absurd (omega arith)
same_records (suc f) (suc g) [] h e = refl
same_records (suc f) (suc g) (k ∷ b) h e =
    let n = length-drop (body_len k) b in
    ap (λ (l : List Record). elim (read_of k b) [ Some q ↦ q ∷ l | None ↦ [] ]) (same_records f g (drop (body_len k) b) (omega arith) (omega arith))

-- each record takes a byte at least: whatever more fuel there is, the records are the same
pub fuel_lasts : (f : ℕ) (t : List ℕ) → length t ≤ f → records f t ≡ records_of t
fuel_lasts f t h = same_records f (length t) t h (omega arith)

-- ---- a tape that goes on begins with the same records
module _ (b u : List ℕ) where
  byte_more : (i : ℕ) → i < length b → get_or (b ++ u) i 0 ≡ get_or b i 0
  byte_more i h = get_or-append b u 0 i h

  f32_more : (i : ℕ) → i + 4 ≤ length b → f32_at (b ++ u) i ≡ f32_at b i
  unfolding f32_at
  f32_more i h = cc (byte_more i (omega arith), byte_more (i + 1) (omega arith), byte_more (i + 2) (omega arith), byte_more (i + 2 + 1) (omega arith))

  after_more : (i : ℕ) → i + 2 ≤ length b → after_at (b ++ u) i ≡ after_at b i
  unfolding after_at
  after_more i h = cc (byte_more i (omega arith), byte_more (i + 1) (omega arith))

  mode_more : (m : ℕ) → 5 ≤ length b → mode_of m (b ++ u) ≡ mode_of m b
  unfolding mode_of
  mode_more zero h = cc (f32_more 1 h)
  mode_more (suc zero) h = refl
  mode_more (suc (suc zero)) h = refl
  mode_more (suc (suc (suc m))) h = refl

  record_more : (k : ℕ) → body_len k ≤ length b → record_of k (b ++ u) ≡ record_of k b
  record_more zero h = refl
  record_more (suc zero) h = cc (f32_more 0 h)
  record_more (suc (suc zero)) h = cc (byte_more 0 (omega arith), byte_more 1 (omega arith), f32_more 2 (omega arith), f32_more 6 (omega arith), f32_more 10 (omega arith), f32_more 14 (omega arith), f32_more 18 h)
  record_more (suc (suc (suc zero))) h = cc (f32_more 0 (omega arith), f32_more 4 (omega arith), f32_more 8 (omega arith), byte_more 12 (omega arith), after_more 13 h)
  record_more (suc (suc (suc (suc zero)))) h =
      cc (f32_more 0 (omega arith), f32_more 4 (omega arith), f32_more 8 (omega arith), f32_more 12 (omega arith), f32_more 16 (omega arith), byte_more 20 (omega arith), byte_more 21 (omega arith), after_more 22 h)
  record_more (suc (suc (suc (suc (suc zero))))) h = cc (byte_more 0 (omega arith), mode_more (get_or b 0 0) h)
  record_more (suc (suc (suc (suc (suc (suc zero)))))) h = cc (f32_more 0 (omega arith), byte_more 4 (omega arith), byte_more 5 h)
  record_more (suc (suc (suc (suc (suc (suc (suc zero))))))) h = refl
  record_more (suc (suc (suc (suc (suc (suc (suc (suc k)))))))) h = refl

more_records : (f : ℕ) (t u : List ℕ) → length (t ++ u) ≤ f → (qs : List Record) × (records f (t ++ u) ≡ records f t ++ qs)
unfolding records read_of
more_records zero t u h = ([], refl)
more_records (suc f) [] u h = (records (suc f) u, refl)
more_records (suc f) (k ∷ b) u h =
    let m = length-append b u in
    let n = length-drop (body_len k) b in
    let o = length-append (drop (body_len k) b) u in
    go (ltb k (length body_lens)) (leb (body_len k) (length b)) (leb (body_len k) (length (b ++ u))) refl refl (more_records f (drop (body_len k) b) u (omega arith))
  where
    go : (x y z : Bool) → leb (body_len k) (length b) ≡ y → leb (body_len k) (length (b ++ u)) ≡ z
        → (qs : List Record) × (records f (drop (body_len k) b ++ u) ≡ records f (drop (body_len k) b) ++ qs)
        → (qs : List Record)
        × ((elim (cond (x && z) (Some (record_of k (b ++ u))) None) [ Some q ↦ q ∷ records f (drop (body_len k) (b ++ u)) | None ↦ [] ])
        ≡ (elim (cond (x && y) (Some (record_of k b)) None) [ Some q ↦ q ∷ records f (drop (body_len k) b) | None ↦ [] ]) ++ qs)
    go true true true ey ez r =
        let l = leb-true (body_len k) (length b) ey in
        let a = record_more b u k l in
        let d = drop-append-le (body_len k) b u l in
        let i = r.1 in
        (r.0, (cc))
    go true true false ey ez r =
        let l = leb-true (body_len k) (length b) ey in
        let m = leb-false (body_len k) (length (b ++ u)) ez in
        let n = length-append b u in
        absurd (omega arith)
    go true false z ey ez r = (_, refl)
    go false y z ey ez r = ([], refl)

-- whatever bytes follow
pub tape_more : (t u : List ℕ) → (qs : List Record) × (records_of (t ++ u) ≡ records_of t ++ qs)
tape_more t u =
    let m = more_records (length (t ++ u)) t u (omega arith) in
    (m.0, m.1 ∙ ap (λ (l : List Record). l ++ m.0) (fuel_lasts (length (t ++ u)) t (let l = length-append t u in omega arith)))

-- so the page after them is the same
pub run_more : (t u : List ℕ) (n : ℕ) → n ≤ length (records_of t) → run_at (t ++ u) n ≡ run_at t n
run_more t u n h =
    let m = tape_more t u in
    ap (λ (qs : List Record). after (flat_map calls_in (take n qs))) m.1 ∙ ap (λ (qs : List Record). after (flat_map calls_in qs)) (take-append-le n (records_of t) m.0 h)
