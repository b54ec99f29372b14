-- A text in whole 64ths: its numbers, and the tops of its lines.
use mathlib.Core.Path.{sym, ap, subst}
use Prim.Native.Nat.{ℕ, ◌≤◌, ◌<◌}
use native.Mathlib.Nat.{not-suc-le-zero}
use native.Mathlib.Decide.{dec_le}
use native.Mathlib.Omega.{arith}
use mathlib.Core.Bool.{Bool, true, false, not}
use mathlib.Core.List.{List, [], ◌∷◌, ◌++◌, map}
use lib.Dec.{T, T_not}
use lib.Ieee.{Float, inf, binary32, add, lt, eq}
use Rattle.f32_laws.specs.Numbers.{larger, zero+, is64}
use Rattle.f32_laws.specs.Key.{Num}
use Rattle.f32_laws.proofs.Keys.{lt→key, key→eq}
use Rattle.float.specs.declared.Segment.{Segment}
use Rattle.float.specs.Numbers.{Given, size, offset, value, most, least, within, in_reach}
use Rattle.float.specs.Bands.{last_end}
use Rattle.demands.specs.Runs.{Each, F32, Whole64}
use Rattle.demands.proofs.Laws.{k, B, Val, Ins, ins_zero, zero_k, larger_ins, sum_val}
use Rattle.demands.proofs.Chain.{Chain}
use Rattle.demands.proofs.Input.{Known, known, larger_val}
use Rattle.demands.proofs.Lists.{each_map, each_both}
use Rattle.demands.proofs.Exact.{Q, q_larger, q_sum}
use Rattle.demands.proofs.Bands64.{Band64}
use Rattle.demands.proofs.Whole64.{known64}
use Rattle.demands.proofs.Tested.{plus}
use Rattle.words.specs.declared.Line.{Line}
use Rattle.words.specs.Text.{Text, cleaned, numbers}
use Rattle.words.specs.Lines.{next_start, moved_to}
use Rattle.words.specs.Refused.{Figures}
use Rattle.words.proofs.Turned.{takes_is, moves_is}
use Rattle.words.proofs.Setting.{Sets, ended, moved, lined}
use Rattle.words.proofs.Checked.{Passed}
use Rattle.words.proofs.Ready.{plus_numbers, cleaned_fit}

-- ---- numbers in whole 64ths

-- a height, and an inset
pub record High (y : Float) : Type 0 where
  pub val : Val y
  pub whole : Q y

pub record Inset (x : Float) : Type 0 where
  pub ins : Ins x
  pub whole : Q x

larger_high : {x y : Float} → High x → High y → High (larger x y)
larger_high {x} {y} p q = record { val = larger_val x y p.val q.val; whole = q_larger p.whole q.whole }

pub larger_inset : {x y : Float} → Inset x → Inset y → Inset (larger x y)
larger_inset p q = record { ins = larger_ins p.ins q.ins; whole = q_larger p.whole q.whole }

below : {y z : Float} → High y → Inset z → T (in_reach (add binary32 y z)) → High (add binary32 y z)
below p q h = record { val = sum_val p.val q.ins h; whole = q_sum p.whole q.whole p.val q.ins h }

-- ---- a text that the check let pass
whole_plus : (gs : List Given) → Each (λ d. Whole64 (value d)) gs → Each (λ d. T (within least most (value d)) → T (is64 (value d))) (map plus gs)
whole_plus [] h = tt
whole_plus (size x ∷ gs) h = (h.0, whole_plus gs h.1)
whole_plus (offset x ∷ gs) h = (h.0, whole_plus gs h.1)

-- of the widths, and of the other numbers
parts : (R : Given → Type 0) (ws : List Float) (m : List Given) → Each R (map size ws ++ m) → Each (λ x. R (size x)) ws × Each R m
parts R [] m e = (tt, e)
parts R (x ∷ ws) m e = let p = parts R ws m e.1 in ((e.0, p.0), p.1)

pub record Text64 (t : Text) : Type 0 where
  pub widths : Each Inset t.widths
  pub gap : Inset t.gap
  pub height : Inset t.height
  pub positive : B < k t.height
  pub min_y : High t.min_y
  pub left : Inset t.left
  pub right : Inset t.right

above_zero : {x : Float} → Ins x → T (not (eq x zero+)) → B < k x
above_zero {x} i e = go (dec_le (k x) B)
  where
    go : Dec (k x ≤ B) → B < k x
    go (yes o) = absurd (T_not (eq x zero+) e (key→eq i.num ins_zero.num (omega (arith, zero_k, i.low))))
    go (no o) = omega arith

pub text64 : (t : Text) → Figures F32 t → Figures Whole64 t → Passed (cleaned t) → Text64 (cleaned t)
text64 t f s p =
    let u = cleaned t in
    let fs = cleaned_fit t f in
    let ks = known (numbers u) fs p.finite p.allowed in
    let n = parts Known u.widths _ ks in
    let m = n.1 in
    let w = parts (λ d. Q (value d)) u.widths _ (known64 (numbers u) fs (subst (Each (λ d. T (within least most (value d)) → T (is64 (value d)))) (plus_numbers t) (whole_plus (numbers t) s)) p.allowed ks) in
    let q = w.1 in
    record {
      widths = each_map (λ x. Ins x × Q x) Inset u.widths (λ x h. record { ins = h.0; whole = h.1 }) (each_both Ins Q u.widths n.0 w.0);
      gap = record { ins = m.0; whole = q.0 };
      height = record { ins = m.1.0; whole = q.1.0 };
      positive = above_zero m.1.0 p.high;
      min_y = record { val = m.1.1.0; whole = q.1.1.0 };
      left = record { ins = m.1.1.1.0; whole = q.1.1.1.0 };
      right = record { ins = m.1.1.1.1.0; whole = q.1.1.1.1.0 };
    }

-- ---- where a line moves to

-- the next start that is greater than y is an end of the band above it
next_high : (y z : Float) → Num binary32 y → High z → (x : Float) (l : List Segment) → Chain x l → Each Band64 l → (k y < k x → High x) → High (next_start y z l)
unfolding next_start
next_high y z n h x [] c d f = h
next_high y z n h x (s ∷ l) c d f = go (lt y s.start) (lt→key n c.1.start.num) (next_high y z n h s.end l c.2 d.1 (λ o. record { val = c.1.end; whole = d.0.end }))
  where
    go : (b : Bool) → (T b → k y < k s.start) → High (next_start y z l) → High (elim b [ true ↦ s.start | false ↦ next_start y z l ])
    go true o r = subst High (sym c.0) (f (omega (arith, o tt, ap k c.0)))
    go false o r = r

last_high : (x z : Float) (l : List Segment) → High x → Chain z l → Each Band64 l → High (last_end x l)
unfolding last_end
last_high x z [] h c d = h
last_high x z (s ∷ l) h c d = last_high s.end s.end l (record { val = c.1.end; whole = d.0.end }) c.2 d.1

moved_high : (l : List Segment) (y : Float) → Chain (inf true) l → Each Band64 l → High y → High (moved_to l y)
unfolding moved_to
moved_high l y c d h = next_high y _ h.val.num (larger_high h (last_high y (inf true) l h c d)) (inf true) l c d (λ o. absurd (not-suc-le-zero o))

-- ---- the tops of the lines
module _ (w : Float) (l : List Segment) (t : Text) (d : Text64 t) (c : Chain (inf true) l) (e : Each Band64 l) where
  pub tops : {n : ℕ} {y : Float} {ws : List Float} {xs : List Line} → Sets w l t n y ws xs → High y → Each (λ x. High x.y) xs
  tops ended h = tt
  tops (moved {y = y} {v = v} {z = z} {vs = vs} u s) h = tops s (subst High (sym (moves_is w l t y v vs z u).to) (moved_high l y c e h))
  tops (lined {n = n} {y = y} {v = v} {x = x} {vs = vs} u s) h = (h, tops s (below h d.height (takes_is w l t y v vs x n u).reach))
