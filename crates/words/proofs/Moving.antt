-- On bands that lie edge to edge a line that moves goes down, and each move leaves fewer heights to move to: the band starts below it, and the last end.
use mathlib.Core.Path.{◌≡◌, refl, sym, ap, subst}
use mathlib.Core.Logic.{◌⊎◌, inl, inr}
use Prim.Native.Nat.{ℕ, ◌+◌, ◌≤◌, ◌<◌}
use native.Mathlib.Decide.{dec_le}
use native.Mathlib.Omega.{arith}
use mathlib.Core.Bool.{Bool, true, false, not, ◌||◌, cond}
use mathlib.Core.List.{List, [], ◌∷◌}
use lib.Dec.{T}
use lib.Ieee.{Float, nan, inf, fin, binary32, lt, le}
use lib.Ieee.Fits.{and_l}
use lib.ListN.{length}
use Rattle.f32_laws.specs.Numbers.{larger}
use Rattle.f32_laws.specs.Key.{Num}
use Rattle.f32_laws.proofs.Keys.{lt→key, key→le, nlt→key}
use Rattle.f32_laws.proofs.Larger.{larger_key, larger_num}
use Rattle.float.specs.declared.Segment.{Segment}
use Rattle.float.specs.Bands.{last_end}
use Rattle.demands.specs.Runs.{F32}
use Rattle.demands.proofs.Laws.{k, Top, val_top, top_low}
use Rattle.demands.proofs.Chain.{Chain, chain_last}
use Rattle.words.specs.declared.beside.Span.{Span}
use Rattle.words.specs.Text.{Text}
use Rattle.words.specs.Lines.{bottom_at, touches, joined, span_over, span_at, room_of, next_start, moved_to}
use Rattle.words.specs.Laid.{Rising}
use Rattle.words.proofs.Turned.{Moves}

-- ---- bands edge to edge
pub rising : (z x : Float) (l : List Segment) → Num binary32 z → Num binary32 x → k z ≤ k x → Chain x l → Rising z l
rising z x [] n m h c = tt
rising z x (s ∷ l) n m h c =
    let b = c.1 in (
      record { start = b.start.num; end = b.end.num; up = key→le b.start.num b.end.num b.order },
      key→le n b.start.num (omega (arith, ap k c.0)),
      rising s.start s.end l b.start.num b.end.num b.order c.2,
    )

last_under : (x : Float) (l : List Segment) → Chain x l → k x ≤ k (last_end x l)
unfolding last_end
last_under x [] c = omega arith
last_under x (s ∷ l) c = omega (arith, ap k c.0, c.1.order, last_under s.end l c.2)

-- ---- the heights that are left to move to: the starts below y, and the last end if it lies below
tick : Bool → ℕ
tick true = 1
tick false = 0

starts : Float → List Segment → ℕ
starts y [] = 0
starts y (s ∷ l) = tick (lt y s.start) + starts y l

pub ahead : Float → List Segment → ℕ
ahead y l = starts y l + tick (lt y (last_end (inf true) l))

module _ {y e : Float} (n : Num binary32 y) (m : Num binary32 e) where
  ticked : k y < k e → tick (lt y e) ≡ 1
  unfolding tick
  ticked h = go (lt y e) (λ t. nlt→key n m t)
    where
      go : (b : Bool) → (T (not b) → k e ≤ k y) → tick b ≡ 1
      go true f = refl
      go false f = absurd (omega (arith, f tt))

  unticked : k e ≤ k y → tick (lt y e) ≡ 0
  unfolding tick
  unticked h = go (lt y e) (λ t. lt→key n m t)
    where
      go : (b : Bool) → (T b → k y < k e) → tick b ≡ 0
      go true f = absurd (omega (arith, f tt))
      go false f = refl

tick_one : (b : Bool) → tick b ≤ 1
unfolding tick
tick_one true = omega arith
tick_one false = omega arith

-- further down there are no more of them
tick_falls : {y z e : Float} → Num binary32 y → Num binary32 z → Num binary32 e → k y ≤ k z → tick (lt z e) ≤ tick (lt y e)
tick_falls {y} {z} {e} n o m h = go (dec_le (k e) (k y))
  where
    go : Dec (k e ≤ k y) → tick (lt z e) ≤ tick (lt y e)
    go (yes d) = omega (arith, unticked o m (omega arith))
    go (no d) = omega (arith, ticked n m (omega arith), tick_one (lt z e))

module _ {y z : Float} (n : Num binary32 y) (o : Num binary32 z) (h : k y ≤ k z) where
  starts_fall : (x : Float) (l : List Segment) → Chain x l → starts z l ≤ starts y l
  unfolding starts
  starts_fall x [] c = omega arith
  starts_fall x (s ∷ l) c = omega (arith, tick_falls n o c.1.start.num h, starts_fall s.end l c.2)

  pub ahead_falls : (l : List Segment) → Chain (inf true) l → ahead z l ≤ ahead y l
  unfolding ahead
  ahead_falls l c = omega (arith, starts_fall (inf true) l c, tick_falls n o (chain_last (inf true) l top_low c).num h)

-- they are no more than the bands: the first start is minus infinity
starts_few : (y : Float) (l : List Segment) → starts y l ≤ length l
unfolding starts
starts_few y [] = omega arith
starts_few y (s ∷ l) = omega (arith, tick_one (lt y s.start), starts_few y l)

pub ahead_few : {y : Float} → Num binary32 y → (l : List Segment) → Chain (inf true) l → ahead y l ≤ length l
unfolding ahead starts last_end
ahead_few {y} n [] c = omega (arith, unticked n top_low.num (omega arith))
ahead_few {y} n (s ∷ l) c = omega (arith, unticked n c.1.start.num (omega (arith, ap k c.0)), starts_few y l, tick_one (lt y (last_end s.end l)))

-- ---- the next start
-- z is d where no start lies below y; or it is one of these starts
data Next (y d : Float) (l : List Segment) (z : Float) : Type 0 where
  none : z ≡ d → starts y l ≡ 0 → Next y d l z
  start : Top z → k y < k z → starts z l < starts y l → Next y d l z

module _ {y : Float} (n : Num binary32 y) (d : Float) where
  next_start_lem : (x : Float) (l : List Segment) → Chain x l → Next y d l (next_start y d l)
  unfolding next_start starts
  next_start_lem x [] c = none refl refl
  next_start_lem x (s ∷ l) c = go (lt y s.start) refl (next_start_lem s.end l c.2)
    where
      m : Num binary32 s.start
      m = c.1.start.num

      later : k s.start ≤ k y → {z : Float} → Next y d l z → Next y d (s ∷ l) z
      later g (none e u) = none e (omega (arith, unticked n m g))
      later g (start v u w) = start v u (omega (arith, unticked n m g, unticked v.num m (omega arith)))

      go : (b : Bool) → lt y s.start ≡ b → Next y d l (next_start y d l) → Next y d (s ∷ l) (elim b [ true ↦ s.start | false ↦ next_start y d l ])
      go true e r =
          let u = lt→key n m (subst T (sym e) tt) in
          start c.1.start u (omega (arith, ticked n m u, unticked m m (omega arith), starts_fall n m (omega arith) s.end l c.2))
      go false e r = later (nlt→key n m (subst (λ (b : Bool). T (not b)) (sym e) tt)) r

-- ---- a line that touches a band
lt_num : (y e : Float) → F32 y → T (lt y e) → Num binary32 y
unfolding lt
lt_num nan e f t = absurd t
lt_num (inf s) e f t = record { is = tt }
lt_num (fin s m e) d f t = record { is = f }

-- its top is a number, and the last end lies below it
pub record Above (y e : Float) : Type 0 where
  pub num : Num binary32 y
  pub up : k y < k e

module _ (y b : Float) (f : F32 y) where
  touched : (e : Span) (x : Float) (l : List Segment) → Top x → Chain x l → T (span_over y b e l).beside → T e.beside ⊎ Above y (last_end x l)
  unfolding span_over last_end
  touched e x [] v c h = inl h
  touched e x (s ∷ l) v c h = go (touches y b s) refl (touched (cond (touches y b s) (joined e s) e) s.end l (val_top c.1.end) c.2 h)
    where
      go : (t : Bool) → touches y b s ≡ t → T (cond t (joined e s) e).beside ⊎ Above y (last_end s.end l) → T e.beside ⊎ Above y (last_end s.end l)
      go t d (inr a) = inr a
      go false d (inl h) = inl h
      go true d (inl h) =
          let o : T (lt y s.end) = and_l (lt y s.end) (lt s.start b) (subst T (sym d) tt) in
          let n = lt_num y s.end f o in
          inr (record { num = n; up = omega (arith, lt→key n c.1.end.num o, last_under s.end l c.2) })

-- ---- a line that moves
-- from y it comes down to z, and has fewer heights left
pub record Sinks (l : List Segment) (y z : Float) : Type 0 where
  pub from : Num binary32 y
  pub to : Top z
  pub down : k y < k z
  pub fewer : ahead z l < ahead y l

sinks_to : (l : List Segment) (y e z : Float) → Chain (inf true) l → last_end (inf true) l ≡ e → Above y e → Top e → Next y (larger y e) l z → Sinks l y z
unfolding ahead
sinks_to l y e z c d a v (none i u) =
    let o : Num binary32 z = subst (Num binary32) (sym i) (larger_num a.num v.num) in
    let j = ap k i in
    let m = larger_key a.num v.num in
    let h : k z ≡ k e = omega (arith, a.up) in
    let q = subst (λ (x : Float). (tick (lt y x) ≡ 1) × (tick (lt z x) ≡ 0)) (sym d) (ticked a.num v.num a.up, unticked o v.num (omega arith)) in
    record { from = a.num; to = record { num = o; high = omega (arith, v.high) }; down = omega (arith, a.up); fewer = omega (arith, q.0, q.1, starts_fall a.num o (omega (arith, a.up)) (inf true) l c) }
sinks_to l y e z c d a v (start w u h) = record { from = a.num; to = w; down = u; fewer = omega (arith, tick_falls a.num w.num (chain_last (inf true) l top_low c).num (omega arith)) }

module _ (w : Float) (l : List Segment) (t : Text) (c : Chain (inf true) l) (y v : Float) (vs : List Float) (f : F32 y) where
  above : T (not (not (span_at l t y).beside || le v (room_of w (span_at l t y)))) → Above y (last_end (inf true) l)
  unfolding span_at
  above h = go (touched y (bottom_at t y) f (record { left = t.left; right = t.right; beside = false }) (inf true) l top_low c (beside (span_at l t y).beside h))
    where
      beside : (b : Bool) → T (not (not b || le v (room_of w (span_at l t y)))) → T b
      beside true h = tt
      beside false h = absurd h

      go : ⊥ ⊎ Above y (last_end (inf true) l) → Above y (last_end (inf true) l)
      go (inl h) = absurd h
      go (inr a) = a

  pub sinks : {z : Float} → Moves w l t y v vs z → Sinks l y z
  unfolding moved_to last_end
  sinks {z} m = subst (Sinks l y) (sym m.to) (go l c (above m.narrow))
    where
      go : (l : List Segment) → Chain (inf true) l → Above y (last_end (inf true) l) → Sinks l y (moved_to l y)
      go [] c a = absurd (omega (arith, a.up))
      go (s ∷ l) c a =
          let e = last_end s.end l in
          sinks_to (s ∷ l) y e (moved_to (s ∷ l) y) c refl a (chain_last (inf true) (s ∷ l) top_low c) (next_start_lem a.num (larger y e) (inf true) (s ∷ l) c)
