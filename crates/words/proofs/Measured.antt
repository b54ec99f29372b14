-- What the words of a line measure, in whole 64ths: every sum that is taken is at most the room, so it is held exactly.
use mathlib.Core.Path.{◌≡◌, refl, sym, subst}
use Prim.Native.Nat.{ℕ, zero, suc, ◌+◌, ◌≤◌}
use native.Mathlib.Omega.{arith}
use mathlib.Core.Bool.{Bool, true, false}
use mathlib.Core.List.{List, [], ◌∷◌}
use lib.Dec.{T}
use lib.Ieee.{Float, inf, binary32, add, le}
use lib.ListN.{take, drop}
use Rattle.f32_laws.specs.Key.{Num, Fin}
use Rattle.f32_laws.proofs.Keys.{num, le→key, key→le}
use Rattle.f32_laws.proofs.Sums.{add_num, add_grows, sub_num}
use Rattle.f32_laws.proofs.Index64.{at64_fin}
use Rattle.float.specs.declared.FloatDirection.{FloatDirection}
use Rattle.float.specs.declared.Segment.{Segment}
use Rattle.float.specs.Numbers.{in_reach}
use Rattle.demands.specs.Runs.{Each}
use Rattle.demands.proofs.Laws.{k, B, far, Ins, ins_val, ins_fin, ins_zero, zero_k, farthest_num, sum_num, sum_ins}
use Rattle.demands.proofs.Chain.{Chain}
use Rattle.demands.proofs.Lists.{each_map, each_both}
use Rattle.demands.proofs.Exact.{two, Q, q_sum, q_diff, q_fin, sum_at, diff_exact}
use Rattle.demands.proofs.Bands64.{Band64}
use Rattle.demands.proofs.Edges.{exact_sum}
use Rattle.words.specs.declared.Line.{Line}
use Rattle.words.specs.Text.{Text}
use Rattle.words.specs.Lines.{span_at, room_of, more}
use Rattle.words.specs.Layout.{words_in, summed, measured, line_width, SumsExact, WordsExact, Fits}
use Rattle.words.proofs.Turned.{Takes}
use Rattle.words.proofs.Setting.{line_at, Sets}
use Rattle.words.proofs.Filled.{each_line, at_edge, fits}
use Rattle.words.proofs.Sixty.{High, Inset, Text64, tops}
use Rattle.words.proofs.Edges.{span_edges}

-- ---- a sum that is at most a room of 131,072
module _ (room : Float) (n : Num binary32 room) (h : k room ≤ B + far) where
  sum_inset : {x y : Float} → Inset x → Inset y → k (add binary32 x y) ≤ k room → Inset (add binary32 x y)
  unfolding in_reach
  sum_inset p q o =
      let r = key→le (sum_num (ins_val p.ins) q.ins) farthest_num (omega arith) in
      record { ins = sum_ins p.ins q.ins r; whole = q_sum p.whole q.whole (ins_val p.ins) q.ins r }

  -- the words that are taken after the sum x
  abbrev Taken : (gap sum : Float) → List Float → Type 0
  Taken gap sum vs = SumsExact gap sum vs × Inset (summed gap sum vs)

  taken : (gap : Float) → Inset gap → (x : Float) (vs : List Float) → Inset x → Each Inset vs → Taken gap x (take (more room gap x vs) vs)
  unfolding more summed
  taken gap g x [] p e = (tt, p)
  taken gap g x (v ∷ vs) p e = go (le wider room) fitting (λ q. taken gap g wider vs q e.1)
    where
      wide : Float
      wide = add binary32 x gap

      wider : Float
      wider = add binary32 wide v

      -- the gap fits where the word after it does
      fitting : T (le wider room) → Inset wide × Inset wider
      fitting t =
          let v' = e.0.ins in
          let f : Fin binary32 wide = subst (Fin binary32) (sym (sum_at p.whole g.whole)) (at64_fin _ (omega (arith, p.whole.high, g.whole.high, two))) in
          let s = add_num f (ins_fin v') in
          let o = le→key s n t in
          let w = sum_inset p g (omega (arith, o, le→key (num f) s (add_grows f (ins_fin v') (key→le ins_zero.num v'.num (omega (arith, zero_k, v'.low)))))) in
          (w, sum_inset w e.0 o)

      go : (b : Bool) → (T b → Inset wide × Inset wider) → (Inset wider → Taken gap wider (take (more room gap wider vs) vs)) → Taken gap x (take (elim b [ true ↦ suc (more room gap wider vs) | false ↦ 0 ]) (v ∷ vs))
      go true f r =
          let w = f tt in
          let s = r w.1 in
          ((exact_sum p.whole g.whole, exact_sum w.0.whole e.0.whole, s.0), s.1)
      go false f r = (tt, p)

each_drop : {A : Type 0} (P : A → Type 0) (n : ℕ) (l : List A) → Each P l → Each P (drop n l)
each_drop P zero l h = h
each_drop P (suc n) [] h = tt
each_drop P (suc n) (x ∷ l) h = each_drop P n l h.1

-- ---- a line that was set
pub record Line64 (w : Float) (l : List Segment) (t : Text) (x : Line) : Type 0 where
  pub top : High x.y
  pub begins : x.x ≡ (span_at l t x.y).left
  pub words : WordsExact t.gap (words_in t x)
  pub width : Inset (line_width t x)
  pub fit : Fits w l t x

module _ (w : Float) (wq : Q w) (wi : Ins w) (l : List Segment) (c : Chain (inf true) l) (e : Each Band64 l) (t : Text) (d : Text64 t) where
  -- its room: page width - left - right, exactly
  pub record Room (y : Float) : Type 0 where
    pub num : Num binary32 (room_of w (span_at l t y))
    pub exact : k (room_of w (span_at l t y)) + k (span_at l t y).right + k (span_at l t y).left ≡ k w + (B + B)

  pub room : (y : Float) → Room y
  room y =
      let left = span_edges l c e t d y FloatDirection.Left in
      let right = span_edges l c e t d y FloatDirection.Right in
      let m = q_diff wq left.whole wi left.ins in
      record { num = sub_num (q_fin m) (ins_fin right.ins); exact = omega (arith, diff_exact wq left.whole, diff_exact m right.whole) }

  -- its words
  abbrev Words : Line → Type 0
  Words x = WordsExact t.gap (words_in t x) × Inset (line_width t x)

  words : (k n : ℕ) (y v x : Float) (vs : List Float) → drop k t.widths ≡ v ∷ vs → Takes w l t y v vs x n → Words (line_at x y k (suc n))
  words k n y v x vs p h =
      let left = span_edges l c e t d y FloatDirection.Left in
      let right = span_edges l c e t d y FloatDirection.Right in
      let ws = subst (Each Inset) p (each_drop Inset k t.widths d.widths) in
      let r = room y in
      subst (λ (ws : List Float). WordsExact t.gap (take (suc n) ws) × Inset (measured t.gap (take (suc n) ws))) (sym p)
      (subst (λ (m : ℕ). SumsExact t.gap v (take m vs) × Inset (summed t.gap v (take m vs))) (sym h.count) (taken (room_of w (span_at l t y)) r.num (omega (arith, r.exact, wi.high, left.ins.low, right.ins.low)) t.gap d.gap v vs ws.0 ws.1))

  pub lines64 : {xs : List Line} → Sets w l t 0 t.min_y t.widths xs → Each (Line64 w l t) xs
  lines64 {xs} s =
      each_map (λ x. High x.y × ((x.x ≡ (span_at l t x.y).left) × Words x × Fits w l t x)) (Line64 w l t) xs (λ x h. record { top = h.0; begins = h.1.0; words = h.1.1.0; width = h.1.1.1; fit = h.1.2 })
      (each_both (λ x. High x.y) _ xs (tops w l t d c e s d.min_y)
      (each_line w l t (λ x. (x.x ≡ (span_at l t x.y).left) × Words x × Fits w l t x) (λ k n y v x vs p h. (at_edge w l t k n y v x vs p h, words k n y v x vs p h, fits w l t k n y v x vs p h)) refl s))
