-- The edges of a line: each is at least the inset of the band at any height of the line.
use mathlib.Core.Path.{◌≡◌, refl, sym, ap, subst}
use Prim.Native.Nat.{◌≤◌, ◌<◌}
use native.Mathlib.Omega.{arith}
use mathlib.Core.Bool.{Bool, true, false, not, cond}
use mathlib.Core.List.{List, [], ◌∷◌}
use lib.Dec.{T}
use lib.Ieee.{Float, inf, binary32, lt}
use lib.Ieee.Fits.{and_i}
use Rattle.f32_laws.specs.Numbers.{larger}
use Rattle.f32_laws.specs.Key.{Num}
use Rattle.f32_laws.proofs.Keys.{lt→key, nlt→key, key→lt}
use Rattle.f32_laws.proofs.Larger.{larger_key}
use Rattle.float.specs.declared.FloatDirection.{FloatDirection}
use Rattle.float.specs.declared.Segment.{Segment}
use Rattle.float.specs.Bands.{on_side, lead, has_float}
use Rattle.demands.specs.Runs.{Each}
use Rattle.demands.proofs.Laws.{k, zero_k, on_either, sum_num}
use Rattle.demands.proofs.Chain.{Sound, Chain}
use Rattle.demands.proofs.Heights.{nothing_lead, band_at}
use Rattle.demands.proofs.Bands64.{Band64}
use Rattle.words.specs.declared.beside.Span.{Span}
use Rattle.words.specs.Text.{Text}
use Rattle.words.specs.Lines.{bottom_at, touches, joined, span_over, span_at}
use Rattle.words.proofs.Sixty.{High, Inset, larger_inset, Text64}

-- the edge of a side, as an inset
abbrev pub edge : FloatDirection → Span → Float
edge r e = on_side r e.left e.right

abbrev pub Edges : Span → Type 0
Edges e = (r : FloatDirection) → Inset (edge r e)

-- ---- a band that is joined
joined_edge : (e : Span) (s : Segment) (r : FloatDirection) → edge r (joined e s) ≡ larger (edge r e) (lead r s)
joined_edge e s FloatDirection.Left = refl
joined_edge e s FloatDirection.Right = refl

joined_edges : (e : Span) (s : Segment) → Edges e → Sound s → Band64 s → Edges (joined e s)
joined_edges e s h c d r = subst Inset (sym (joined_edge e s r)) (larger_inset (h r) (record { ins = c.inset r; whole = d.inset r }))

-- the span e reaches in as far as f on both sides, and touches a band if f does
record Within (f e : Span) : Type 0 where
  pub inset : (r : FloatDirection) → k (edge r f) ≤ k (edge r e)
  pub stays : T f.beside → T e.beside

-- as far as the band s, and touches a band if s has a float
pub record Meets (s : Segment) (e : Span) : Type 0 where
  pub inset : (r : FloatDirection) → k (lead r s) ≤ k (edge r e)
  pub touched : (r : FloatDirection) → T (has_float r s) → T e.beside

-- ---- from y to b
module _ (y b : Float) where
  one_over : (s : Segment) (e : Span) → Sound s → Band64 s → Edges e → Edges (cond (touches y b s) (joined e s) e) × Within e (cond (touches y b s) (joined e s) e)
  one_over s e c d h = go (touches y b s)
    where
      go : (q : Bool) → Edges (cond q (joined e s) e) × Within e (cond q (joined e s) e)
      go true = (joined_edges e s h c d, record { inset = λ r. omega (arith, ap k (joined_edge e s r), larger_key (h r).ins.num (c.inset r).num); stays = λ t. tt })
      go false = (h, record { inset = λ r. omega arith; stays = λ t. t })

  all_over : (x : Float) (l : List Segment) (e : Span) → Chain x l → Each Band64 l → Edges e → Edges (span_over y b e l) × Within e (span_over y b e l)
  unfolding span_over
  all_over x [] e c d h = (h, record { inset = λ r. omega arith; stays = λ t. t })
  all_over x (s ∷ l) e c d h =
      let p = one_over s e c.1 d.0 h in
      let q = all_over s.end l _ c.2 d.1 p.0 in
      (q.0, record { inset = λ r. omega (arith, p.1.inset r, q.1.inset r); stays = λ t. q.1.stays (p.1.stays t) })

  -- the band at a height u from y to b is touched: it ends below u, and starts at u or above, where the band before it ends
  meets_over : (u : Float) → Num binary32 y → Num binary32 b → Num binary32 u → k y ≤ k u → k u < k b → (x : Float) (l : List Segment) (e : Span) → Chain x l → Each Band64 l → Edges e → k x ≤ k u → Meets (band_at u l) (span_over y b e l)
  unfolding span_over band_at
  meets_over u ny nb nu o v x [] e c d h a = record { inset = λ r. omega (arith, ap k (nothing_lead r), zero_k, (h r).ins.low); touched = λ r. on_either (λ (z : Bool). T z → T e.beside) r (λ t. absurd t) (λ t. absurd t) }
  meets_over u ny nb nu o v x (s ∷ l) e c d h a = go (lt u s.end) (lt→key nu c.1.end.num) (λ j. meets_over u ny nb nu o v s.end l _ c.2 d.1 (one_over s e c.1 d.0 h).0 (nlt→key nu c.1.end.num j))
    where
      here : (q : Bool) → T q → Meets s (span_over y b (cond q (joined e s) e) l)
      here true t =
          let w = (all_over s.end l (joined e s) c.2 d.1 (joined_edges e s h c.1 d.0)).1 in
          record { inset = λ r. omega (arith, w.inset r, ap k (joined_edge e s r), larger_key (h r).ins.num (c.1.inset r).num); touched = λ r f. w.stays tt }
      here false t = absurd t

      go : (q : Bool) → (T q → k u < k s.end) → (T (not q) → Meets (band_at u l) (span_over y b (cond (touches y b s) (joined e s) e) l)) → Meets (elim q [ true ↦ s | false ↦ band_at u l ]) (span_over y b (cond (touches y b s) (joined e s) e) l)
      go true i j = here (touches y b s) (and_i (lt y s.end) (lt s.start b) (key→lt ny c.1.end.num (omega (arith, i tt))) (key→lt c.1.start.num nb (omega (arith, ap k c.0))))
      go false i j = j tt

-- ---- a line of a text, at the top y
module _ (l : List Segment) (c : Chain (inf true) l) (e : Each Band64 l) (t : Text) (d : Text64 t) where
  containing : (r : FloatDirection) → Inset (on_side r t.left t.right)
  containing r = on_either Inset r d.left d.right

  pub span_edges : (y : Float) → Edges (span_at l t y)
  unfolding span_at
  span_edges y = (all_over y (bottom_at t y) (inf true) l _ c e containing).0

  pub span_meets : (y u : Float) → High y → Num binary32 u → k y ≤ k u → k u < k (bottom_at t y) → Meets (band_at u l) (span_at l t y)
  unfolding span_at
  span_meets y u h n o v = meets_over y (bottom_at t y) u h.val.num (sum_num h.val d.height.ins) n o v (inf true) l _ c e containing (omega arith)
