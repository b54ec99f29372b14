-- The band at a height, and its inset: splitting, appending and marking with no smaller inset let no inset fall and no mark go.
use mathlib.Core.Path.{◌≡◌, refl, sym, ap, ◌∙◌, subst}
use Prim.Native.Nat.{ℕ, zero, suc, ◌≤◌, ◌<◌}
use native.Mathlib.Nat.{le_of_suc-le-suc, not-suc-le-zero}
use native.Mathlib.Omega.{arith}
use mathlib.Core.Bool.{Bool, true, false, not}
use mathlib.Core.List.{List, [], ◌∷◌, ◌++◌}
use lib.Dec.{T}
use lib.Ieee.{Float, binary32, lt}
use lib.ListN.{length, get_or}
use Rattle.f32_laws.specs.Numbers.{zero+}
use Rattle.f32_laws.specs.Key.{Num}
use Rattle.f32_laws.proofs.Keys.{lt→key, nlt→key, key→lt}
use Rattle.float.specs.declared.FloatDirection.{FloatDirection}
use Rattle.float.specs.declared.Segment.{Segment}
use Rattle.float.specs.Bands.{lead, has_float, none, bare, spanning, marked, split_at, mark_all, last_end}
use Rattle.demands.specs.Runs.{inset_at}
use Rattle.demands.proofs.Laws.{k, Val, Ins, on_either, zero_k, ins_zero}
use Rattle.demands.proofs.Chain.{Sound, Chain, marked_end}

-- ---- the band at a height; where none lies one with no inset and no float
abbrev pub nothing : Segment
nothing = bare zero+ zero+ zero+ zero+

pub nothing_lead : (r : FloatDirection) → lead r nothing ≡ zero+
nothing_lead r = on_either (λ (z : Float). z ≡ zero+) r refl refl

unfoldable pub band_at : Float → List Segment → Segment
band_at h [] = nothing
band_at h (b ∷ bs) = elim (lt h b.end) [ true ↦ b | false ↦ band_at h bs ]

-- the insets there are its own
pub at_lead : (r : FloatDirection) (h : Float) (l : List Segment) → inset_at r h l ≡ lead r (band_at h l)
unfolding inset_at band_at
at_lead r h [] = sym (nothing_lead r)
at_lead r h (b ∷ bs) = go (lt h b.end) (at_lead r h bs)
  where
    go : (q : Bool) → inset_at r h bs ≡ lead r (band_at h bs) → (elim q [ true ↦ lead r b | false ↦ inset_at r h bs ]) ≡ lead r (elim q [ true ↦ b | false ↦ band_at h bs ])
    go true e = refl
    go false e = e

-- a test's two ways, as inset_at has it
at_either : (P : Float → Type 0) (b : Bool) (x y : Float) → (T b → P x) → (T (not b) → P y) → P (elim b [ true ↦ x | false ↦ y ])
at_either P true x y f g = f tt
at_either P false x y f g = g tt

pub at_ins : (x : Float) (l : List Segment) (r : FloatDirection) (h : Float) → Chain x l → Ins (inset_at r h l)
unfolding inset_at
at_ins x [] r h c = ins_zero
at_ins x (b ∷ bs) r h c = at_either Ins (lt h b.end) (lead r b) (inset_at r h bs) (λ t. c.1.inset r) (λ t. at_ins b.end bs r h c.2)

-- ---- at no height an inset gets smaller or a mark is lost
pub record Over (b d : Segment) : Type 0 where
  pub inset : (r : FloatDirection) → k (lead r b) ≤ k (lead r d)
  pub mark : (r : FloatDirection) → T (has_float r b) → T (has_float r d)

abbrev pub Grows : List Segment → List Segment → Type 0
Grows l m = (h : Float) → Num binary32 h → Over (band_at h l) (band_at h m)

-- the same insets and marks
over_part : (b : Segment) (s e : Float) → Over b (spanning b s e)
over_part b s e = record { inset = λ r. omega arith; mark = λ r t. t }

over_same : (b : Segment) → Over b b
over_same b = record { inset = λ r. omega arith; mark = λ r t. t }

pub grows_refl : (l : List Segment) → Grows l l
grows_refl l h n = over_same (band_at h l)

pub grows_trans : (l m n : List Segment) → Grows l m → Grows m n → Grows l n
grows_trans l m n f g h p = record { inset = λ r. omega (arith, (f h p).inset r, (g h p).inset r); mark = λ r t. (g h p).mark r ((f h p).mark r t) }

at_both : (q : Bool) {b d b' d' : Segment} → Over b b' → Over d d' → Over (elim q [ true ↦ b | false ↦ d ]) (elim q [ true ↦ b' | false ↦ d' ])
at_both true f g = f
at_both false f g = g

pub grows_append : (x : Float) (l : List Segment) (b : Segment) → Chain x l → Sound b → Grows l (l ++ b ∷ [])
unfolding band_at
grows_append x [] b c s h n = go (lt h b.end)
  where
    go : (q : Bool) → Over nothing (elim q [ true ↦ b | false ↦ nothing ])
    go true = record {
      inset = λ r. omega (arith, ap k (nothing_lead r), zero_k, (s.inset r).low);
      mark = λ r. on_either (λ (z : Bool). T z → T (has_float r b)) r (λ t. absurd t) (λ t. absurd t);
    }
    go false = over_same nothing
grows_append x (d ∷ l) b c s h n = at_both (lt h d.end) (over_same d) (grows_append d.end l b c.2 s h n)

at_twice : (p q : Bool) (b z : Segment) (s y e : Float) → (T p → T q) → Over (elim q [ true ↦ b | false ↦ z ]) (elim p [ true ↦ spanning b s y | false ↦ elim q [ true ↦ spanning b y e | false ↦ z ] ])
at_twice true true b z s y e f = over_part b s y
at_twice true false b z s y e f = absurd (f tt)
at_twice false true b z s y e f = over_part b y e
at_twice false false b z s y e f = over_same z

-- the same end: what follows may grow
pub grows_split : (x : Float) (l : List Segment) (i : ℕ) (y : Float) → Chain x l → Val y → k y ≤ k (get_or l i none).end → Grows l (split_at l i y)
unfolding band_at split_at
grows_split x [] i y c v g h n = over_same nothing
grows_split x (b ∷ bs) zero y c v g h n = at_twice (lt h y) (lt h b.end) b (band_at h bs) b.start y b.end (λ t. key→lt n c.1.end.num (omega (arith, lt→key n v.num t)))
grows_split x (b ∷ bs) (suc i) y c v g h n = at_both (lt h b.end) (over_same b) (grows_split b.end bs i y c.2 v g h n)

module _ (r : FloatDirection) (v : Float) (num : ℕ) where
  over_marked : (b : Segment) → k (lead r b) ≤ k v → Over b (marked r v num b)
  over_marked b h = go r h
    where
      go : (r : FloatDirection) → k (lead r b) ≤ k v → Over b (marked r v num b)
      go FloatDirection.Left h = record {
        inset = λ q. elim q as (λ r. k (lead r b) ≤ k (lead r (marked FloatDirection.Left v num b))) [ FloatDirection.Left ↦ h | FloatDirection.Right ↦ omega arith ];
        mark = λ q. elim q as (λ r. T (has_float r b) → T (has_float r (marked FloatDirection.Left v num b))) [ FloatDirection.Left ↦ λ t. tt | FloatDirection.Right ↦ λ t. t ];
      }
      go FloatDirection.Right h = record {
        inset = λ q. elim q as (λ r. k (lead r b) ≤ k (lead r (marked FloatDirection.Right v num b))) [ FloatDirection.Left ↦ omega arith | FloatDirection.Right ↦ h ];
        mark = λ q. elim q as (λ r. T (has_float r b) → T (has_float r (marked FloatDirection.Right v num b))) [ FloatDirection.Left ↦ λ t. t | FloatDirection.Right ↦ λ t. tt ];
      }

  mark_step : (b : Segment) (bs bs' : List Segment) (h : Float) → k (lead r b) ≤ k v → Over (band_at h bs) (band_at h bs') → Over (band_at h (b ∷ bs)) (band_at h (marked r v num b ∷ bs'))
  unfolding band_at
  mark_step b bs bs' h u w =
      subst (λ (z : Float). Over (elim (lt h b.end) [ true ↦ b | false ↦ band_at h bs ]) (elim (lt h z) [ true ↦ marked r v num b | false ↦ band_at h bs' ])) (sym (marked_end r v num b))
      (at_both (lt h b.end) (over_marked b u) w)

  pub grows_mark : (l : List Segment) (s e : ℕ) → ((i : ℕ) → s ≤ i → i ≤ e → i < length l → k (lead r (get_or l i none)) ≤ k v) → Grows l (mark_all r v num l s e)
  unfolding mark_all band_at
  grows_mark [] s e f h n = over_same nothing
  grows_mark (b ∷ bs) zero zero f h n = mark_step b bs bs h (f 0 (omega arith) (omega arith) (omega arith)) (over_same (band_at h bs))
  grows_mark (b ∷ bs) zero (suc e) f h n = mark_step b bs (mark_all r v num bs zero e) h (f 0 (omega arith) (omega arith) (omega arith)) (grows_mark bs zero e (λ i a c d. f (suc i) (omega arith) (omega arith) (omega arith)) h n)
  grows_mark (b ∷ bs) (suc s) zero f h n = over_same (band_at h (b ∷ bs))
  grows_mark (b ∷ bs) (suc s) (suc e) f h n = at_both (lt h b.end) (over_same b) (grows_mark bs s e (λ i a c d. f (suc i) (omega arith) (omega arith) (omega arith)) h n)

-- ---- which band it is
-- the first band's start is above no later one's
chain_from : (x : Float) (l : List Segment) (i : ℕ) → Chain x l → i < length l → k x ≤ k (get_or l i none).start
chain_from x [] i c h = absurd (not-suc-le-zero h)
chain_from x (b ∷ bs) zero c h = omega (arith, ap k c.0)
chain_from x (b ∷ bs) (suc i) c h = omega (arith, ap k c.0, c.1.order, chain_from b.end bs i c.2 (le_of_suc-le-suc h))

abbrev pub At : List Segment → Float → ℕ → ℕ → Type 0
At l t s e = (j : ℕ) × (s ≤ j) × (j ≤ e) × (band_at t l ≡ get_or l j none)

-- a height between the start of band s and the end of band e is in one of the bands from s to e
pub at_band : (x : Float) (l : List Segment) (t : Float) (s e : ℕ) → Chain x l → Num binary32 t → k (get_or l s none).start ≤ k t → k t < k (get_or l e none).end → s ≤ e → e < length l → At l t s e
unfolding band_at
at_band x [] t s e c n a z o h = absurd (not-suc-le-zero h)
at_band x (b ∷ bs) t zero zero c n a z o h = (0, omega arith, omega arith, go (lt t b.end) (nlt→key n c.1.end.num))
  where
    go : (q : Bool) → (T (not q) → k b.end ≤ k t) → (elim q [ true ↦ b | false ↦ band_at t bs ]) ≡ b
    go true f = refl
    go false f = absurd (not-suc-le-zero {n = 0} (omega (arith, f tt)))
at_band x (b ∷ bs) t zero (suc e) c n a z o h = go (lt t b.end) (nlt→key n c.1.end.num) (λ (f : k (get_or bs 0 none).start ≤ k t). at_band b.end bs t zero e c.2 n f z (omega arith) (le_of_suc-le-suc h)) (first bs c.2 (omega arith))
  where
    first : (bs : List Segment) → Chain b.end bs → 0 < length bs → k (get_or bs 0 none).start ≡ k b.end
    first [] c h = absurd (not-suc-le-zero h)
    first (d ∷ ds) c h = ap k c.0

    go : (q : Bool) → (T (not q) → k b.end ≤ k t) → (k (get_or bs 0 none).start ≤ k t → (j : ℕ) × (0 ≤ j) × (j ≤ e) × (band_at t bs ≡ get_or bs j none)) → k (get_or bs 0 none).start ≡ k b.end
        → (j : ℕ) × (0 ≤ j) × (j ≤ suc e) × ((elim q [ true ↦ b | false ↦ band_at t bs ]) ≡ get_or (b ∷ bs) j none)
    go true f g m = (0, omega arith, omega arith, refl)
    go false f g m = let w = g (omega (arith, f tt)) in (suc w.0, omega arith, omega (arith, w.2), w.3)
at_band x (b ∷ bs) t (suc s) zero c n a z o h = absurd (not-suc-le-zero o)
at_band x (b ∷ bs) t (suc s) (suc e) c n a z o h = go (lt t b.end) (lt→key n c.1.end.num) (at_band b.end bs t s e c.2 n a z (le_of_suc-le-suc o) (le_of_suc-le-suc h)) (chain_from b.end bs s c.2 (omega arith))
  where
    go : (q : Bool) → (T q → k t < k b.end) → ((j : ℕ) × (s ≤ j) × (j ≤ e) × (band_at t bs ≡ get_or bs j none)) → k b.end ≤ k (get_or bs s none).start
        → (j : ℕ) × (suc s ≤ j) × (j ≤ suc e) × ((elim q [ true ↦ b | false ↦ band_at t bs ]) ≡ get_or (b ∷ bs) j none)
    go true f w m = absurd (not-suc-le-zero {n = 0} (omega (arith, f tt)))
    go false f w m = (suc w.0, omega (arith, w.1), omega (arith, w.2), w.3)

-- below the last end there is none
pub at_below : (x : Float) (l : List Segment) (t : Float) → Chain x l → Num binary32 t → (0 < length l → k (last_end x l) ≤ k t) → band_at t l ≡ nothing
unfolding band_at last_end
at_below x [] t c n h = refl
at_below x (b ∷ bs) t c n h = go (lt t b.end) (lt→key n c.1.end.num) (at_below b.end bs t c.2 n (λ o. h (omega arith))) (last_ge b.end bs c.2) (h (omega arith))
  where
    last_ge : (x : Float) (l : List Segment) → Chain x l → k x ≤ k (last_end x l)
    last_ge x [] c = omega arith
    last_ge x (b ∷ bs) c = omega (arith, ap k c.0, c.1.order, last_ge b.end bs c.2)

    go : (q : Bool) → (T q → k t < k b.end) → band_at t bs ≡ nothing → k b.end ≤ k (last_end b.end bs) → k (last_end b.end bs) ≤ k t → (elim q [ true ↦ b | false ↦ band_at t bs ]) ≡ nothing
    go true f e m o = absurd (not-suc-le-zero {n = 0} (omega (arith, f tt)))
    go false f e m o = e

-- it is the band that holds the height
pub band_is : (x : Float) (l : List Segment) (t : Float) (i : ℕ) → Chain x l → Num binary32 t → i < length l → k (get_or l i none).start ≤ k t → k t < k (get_or l i none).end → band_at t l ≡ get_or l i none
band_is x l t i c n h a z =
    let w = at_band x l t i i c n a z (omega arith) h in
    let e : w.0 ≡ i = omega (arith, w.1, w.2) in
    w.3 ∙ ap (λ (j : ℕ). get_or l j none) e

pub at_is : (x : Float) (l : List Segment) (t : Float) (i : ℕ) (r : FloatDirection) → Chain x l → Num binary32 t → i < length l → k (get_or l i none).start ≤ k t → k t < k (get_or l i none).end → inset_at r t l ≡ lead r (get_or l i none)
at_is x l t i r c n h a z = at_lead r t l ∙ ap (lead r) (band_is x l t i c n h a z)
