-- No word lies on a box: a line that shares a height with a box touches the band there, whose inset the box does not pass, and its words fit between the insets.
use mathlib.Core.Path.{◌≡◌, sym, ap₂, subst}
use Prim.Native.Nat.{◌≤◌}
use native.Mathlib.Omega.{arith}
use mathlib.Core.Bool.{true, not, ◌&&◌}
use mathlib.Core.List.{List}
use lib.Dec.{T, not_T}
use lib.Ieee.{Float, inf, binary32, add, sub, lt}
use lib.Ieee.Fits.{and_l, and_r}
use Rattle.f32_laws.specs.Numbers.{larger, zero+}
use Rattle.f32_laws.proofs.Keys.{le→key, lt→key}
use Rattle.f32_laws.proofs.Larger.{larger_num, larger_key}
use Rattle.f32_laws.proofs.Sums.{sub_num}
use Rattle.float.specs.declared.FloatDirection.{FloatDirection}
use Rattle.float.specs.declared.Segment.{Segment}
use Rattle.float.specs.Bands.{on_side}
use Rattle.demands.specs.Runs.{Each, Act, after, page_in, Handed, F32, Whole64, Accepted, side_in, x_from, bottom, right_edge, far_inset, ExactSum, sized}
use Rattle.demands.proofs.Laws.{k, Ins, ins_val, ins_fin, ins_zero, zero_k, sum_num}
use Rattle.demands.proofs.Chain.{Chain}
use Rattle.demands.proofs.Lists.{each_map, each_both}
use Rattle.demands.proofs.Exact.{Q, q_diff, q_fin, sum_exact, diff_exact}
use Rattle.demands.proofs.Bands64.{Band64}
use Rattle.demands.proofs.Apart.{Box64, Stands}
use Rattle.demands.proofs.Edges.{exact_sum}
use Rattle.demands.proofs.Reached.{reached64}
use Rattle.words.specs.declared.Line.{Line}
use Rattle.words.specs.declared.beside.Span.{Span}
use Rattle.words.specs.Text.{Text, cleaned}
use Rattle.words.specs.Lines.{span_at, lines, set_words}
use Rattle.words.specs.Layout.{words_in, line_width, line_right, line_bottom, WordsExact, lies_on}
use Rattle.words.specs.Refused.{Figures}
use Rattle.words.proofs.Checked.{text_passed, lines_set}
use Rattle.words.proofs.Sixty.{Text64, text64}
use Rattle.words.proofs.Measured.{Line64, room, lines64}
use Rattle.words.proofs.Edges.{edge, span_edges, span_meets}

-- ---- a box on a page of the width w, and a line
module _ (w : Float) (wq : Q w) (wi : Ins w) (l : List Segment) (c : Chain (inf true) l) (e : Each Band64 l) (t : Text) (d : Text64 t) (a : Accepted) (b : Box64 a) (s : Stands l a) (z : T (sized a)) (x : Line) (h : Line64 w l t x) where
  abbrev span : Span
  span = span_at l t x.y

  -- if they share a height, then the larger of the two tops: there the line reaches in as far as the box, and touches a band
  shared : T (lt x.y (bottom a)) → T (lt a.y (line_bottom t x)) → (k (far_inset a) ≤ k (edge (side_in a) span)) × T span.beside
  shared o v =
      let n = h.top.val.num in
      let n' = b.y'.num in
      let u = larger x.y a.y in
      let m = larger_key n n' in
      let tall = lt→key ins_zero.num b.height'.num (and_r (lt zero+ a.call.width) (lt zero+ a.call.height) z) in
      let above = lt→key n (sum_num b.y' b.height') o in
      let below = lt→key n' (sum_num h.top.val d.height.ins) v in
      let line = span_meets l c e t d x.y u h.top (larger_num n n') (omega arith) (omega (arith, sum_exact h.top.whole d.height.whole, d.positive)) in
      let box = s u (larger_num n n') (omega arith, omega (arith, sum_exact b.y b.height, zero_k)) in
      (omega (arith, box.0, line.inset (side_in a)), line.touched (side_in a) box.1)

  -- a left box ends where the line begins or before it; a right one begins where the words end or after them
  aside : (r : FloatDirection) → a.x ≡ on_side r a.inset (sub binary32 (sub binary32 w a.inset) a.call.width) → k (far_inset a) ≤ k (edge r span) → T span.beside → T (lt x.x (right_edge a)) → T (lt a.x (line_right t x)) → ⊥
  aside FloatDirection.Left i o v p q =
      omega (arith, lt→key (span_edges l c e t d x.y FloatDirection.Left).ins.num (sum_num (ins_val b.inset') b.width') (subst T (ap₂ (λ (y u : Float). lt y (add binary32 u a.call.width)) h.begins i) p))
  aside FloatDirection.Right i o v p q =
      let left = span_edges l c e t d x.y FloatDirection.Left in
      let m = q_diff wq b.inset wi b.inset' in
      let r = room w wq wi l c e t d x.y in
      let fit = le→key h.width.ins.num r.num (h.fit v) in
      let over = lt→key (sub_num (q_fin m) (ins_fin b.width')) (sum_num (ins_val left.ins) h.width.ins) (subst T (ap₂ (λ (y u : Float). lt y (add binary32 u (line_width t x))) i h.begins) q) in
      omega (arith, r.exact, sum_exact left.whole h.width.whole, diff_exact wq b.inset, diff_exact m b.width, sum_exact b.inset b.width)

  off : a.x ≡ x_from w a → T (not (lies_on t x a))
  off i = not_T (lies_on t x a) (λ o.
      let above = lt x.y (bottom a) in
      let below = lt a.y (line_bottom t x) in
      let before = lt x.x (right_edge a) in
      let after = lt a.x (line_right t x) in
      let p = and_l (above && below && before) after o in
      let q = and_l (above && below) before p in
      let m = shared (and_l above below q) (and_r above below q) in
      aside (side_in a) i m.0 m.1 (and_r (above && below) before p) (and_r (above && below && before) after o))

-- ---- the promise: no line lies on a box of positive size, if all numbers handed in are whole 64ths
pub off_boxes : (os : List Act) (t : Text) → Handed F32 os → Handed Whole64 os → Figures F32 t → Figures Whole64 t → (xs : List Line) → set_words (page_in (after os)) t ≡ lines xs
    → Each (λ a. T (sized a) → Each (λ x. T (not (lies_on (cleaned t) x a))) xs) (after os).accepted
off_boxes os t f s f' s' xs e =
    let p = page_in (after os) in
    let l = p.bands in
    let g = (after os).accepted in
    let v = reached64 os f s in
    let c = v.inv.chain in
    let d = text64 t f' s' (text_passed p t xs e) in
    let ls = lines64 p.width v.width v.inv.width l c v.bands (cleaned t) d (lines_set p t xs e) in
    each_map (λ a. (Box64 a × Stands l a) × (a.x ≡ x_from p.width a)) _ g
    (λ a b z. each_map (Line64 p.width l (cleaned t)) _ xs (λ x h. off p.width v.width v.inv.width l c v.bands (cleaned t) d a b.0.0 b.0.1 z x h b.1) ls)
    (each_both (λ a. Box64 a × Stands l a) _ g (each_both Box64 (Stands l) g v.boxes v.stands) v.inv.answers)

-- and no sum of a line is rounded: its words and the gaps between them, its right edge and its bottom
pub exact_lines : (os : List Act) (t : Text) → Handed F32 os → Handed Whole64 os → Figures F32 t → Figures Whole64 t → (xs : List Line) → set_words (page_in (after os)) t ≡ lines xs
    → Each (λ x. WordsExact (cleaned t).gap (words_in (cleaned t) x) × ExactSum x.x (line_width (cleaned t) x) (line_right (cleaned t) x) × ExactSum x.y (cleaned t).height (line_bottom (cleaned t) x)) xs
exact_lines os t f s f' s' xs e =
    let p = page_in (after os) in
    let v = reached64 os f s in
    let d = text64 t f' s' (text_passed p t xs e) in
    each_map (Line64 p.width p.bands (cleaned t)) _ xs
    (λ x h. (h.words, exact_sum (subst Q (sym h.begins) (span_edges p.bands v.inv.chain v.bands (cleaned t) d x.y FloatDirection.Left).whole) h.width.whole, exact_sum h.top.whole d.height.whole))
    (lines64 p.width v.width v.inv.width p.bands v.inv.chain v.bands (cleaned t) d (lines_set p t xs e))
