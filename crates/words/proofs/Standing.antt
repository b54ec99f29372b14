-- Where a line stands among the bands that are left: those left behind end at or above its top, so that it finds beside the others what it finds beside all.
use Prim.Native.Nat.{ℕ, suc}
use mathlib.Core.Path.{◌≡◌, refl, sym, ap, ◌∙◌, subst}
use mathlib.Core.Bool.{Bool, true, false, not, ◌&&◌, cond, true≢false}
use mathlib.Core.List.{List, [], ◌∷◌, ◌++◌, append_assoc}
use native.Mathlib.Omega.{arith}
use lib.Dec.{T}
use lib.Ieee.{Float, inf, nan, fin, binary32, add, lt, le, eq}
use lib.ListN.{take, drop, take-append-drop}
use Rattle.f32_laws.specs.Key.{Num, Fin}
use Rattle.f32_laws.specs.Numbers.{larger, zero+}
use Rattle.f32_laws.proofs.Keys.{num, key_in, le→key, key→le, nlt→key}
use Rattle.f32_laws.proofs.Larger.{larger_num, larger_left}
use Rattle.f32_laws.proofs.Order.{refl_le, trans_le, lt→le}
use Rattle.f32_laws.proofs.Sums.{add_num, add_grows}
use Rattle.float.specs.declared.Segment.{Segment}
use Rattle.float.specs.Bands.{first_below, last_end}
use Rattle.float.specs.Numbers.{in_reach}
use Rattle.words.specs.declared.beside.Span.{Span}
use Rattle.words.specs.Lines.{joined, span_over, next_start}
use Rattle.words.specs.Laid.{Fine, Rising, passed_by}
use Rattle.words.proofs.Spans.{not_lt, rising_drop}

-- bands that end at or above y
abbrev Past : Float → List Segment → Type 0
Past y [] = Unit {0}
Past y (s ∷ l) = (Fine s × (lt y s.end ≡ false)) × Past y l

-- of the bands bs those of `below` are left, the others are past; the line was begun at y₀
pub record Beneath (y₀ y : Float) (bs below : List Segment) : Type 0 where
  pub over : List Segment
  pub parts : bs ≡ over ++ below
  pub past : Past y over
  pub all : Rising (inf true) bs
  pub rise : Rising (inf true) below
  pub top : Num binary32 y
  pub low : T (le y₀ y)

-- where the bands may fall, none is left behind
abbrev Either : Bool → (y₀ y : Float) (bs below : List Segment) → Type 0
Either true y₀ y bs below = Beneath y₀ y bs below
Either false y₀ y bs below = below ≡ bs

pub record Stands (s : Bool) (y₀ y : Float) (bs below : List Segment) : Type 0 where
  pub is : Either s y₀ y bs below

pub stands_first : (s : Bool) (y : Float) (bs : List Segment) → (s ≡ true → Rising (inf true) bs) → Num binary32 y → Stands s y y bs bs
stands_first true y bs r n = record { is = record { over = []; parts = refl; past = tt; all = r refl; rise = r refl; top = n; low = refl_le n } }
stands_first false y bs r n = record { is = refl }

-- ---- what is left behind is not looked at

past_append : (y : Float) (l m : List Segment) → Past y l → Past y m → Past y (l ++ m)
past_append y [] m p q = q
past_append y (s ∷ l) m p q = (p.0, past_append y l m p.1 q)

span_over_lem : (y b : Float) (e : Span) (l m : List Segment) → Past y l → span_over y b e (l ++ m) ≡ span_over y b e m
unfolding span_over
span_over_lem y b e [] m p = refl
span_over_lem y b e (s ∷ l) m p = ap (λ x. span_over y b (cond (x && lt s.start b) (joined e s) e) (l ++ m)) p.0.1 ∙ span_over_lem y b e l m p.1

next_over : (y z : Float) (l m : List Segment) → Num binary32 y → Past y l → next_start y z (l ++ m) ≡ next_start y z m
unfolding next_start
next_over y z [] m n p = refl
next_over y z (s ∷ l) m n p =
    let f = p.0.0 in
    let g = nlt→key n f.end (subst (λ b. T (not b)) (sym p.0.1) tt) in
    let t : lt y s.start ≡ false = not_lt n f.start (key→le f.start n (omega (arith, g, le→key f.start f.end f.up))) in
    rw (t, next_start) (next_over y z l m n p.1)

module _ {s : Bool} {y₀ y : Float} {bs below : List Segment} (h : Stands s y₀ y bs below) where
  pub stands_span : (b : Float) (e : Span) → span_over y b e bs ≡ span_over y b e below
  stands_span b e = go s h.is
    where
      go : (s : Bool) → Either s y₀ y bs below → span_over y b e bs ≡ span_over y b e below
      go true h = ap (span_over y b e) h.parts ∙ span_over_lem y b e h.over below h.past
      go false h = ap (span_over y b e) (sym h)

  pub stands_next : (z : Float) → next_start y z bs ≡ next_start y z below
  stands_next z = go s h.is
    where
      go : (s : Bool) → Either s y₀ y bs below → next_start y z bs ≡ next_start y z below
      go true h = ap (next_start y z) h.parts ∙ next_over y z h.over below h.top h.past
      go false h = ap (next_start y z) (sym h)

  pub stands_rise : s ≡ true → Rising (inf true) below
  stands_rise e = (subst (λ b. Either b y₀ y bs below) e h.is).rise

-- ---- further bands are passed

passed_past : (x y : Float) (l : List Segment) → Rising x l → Past y (take (first_below l 0 y) l)
unfolding first_below
passed_past x y [] r = tt
passed_past x y (s ∷ l) r = go (lt y s.end) refl (passed_past s.start y l r.2)
  where
    go : (b : Bool) → lt y s.end ≡ b → Past y (take (first_below l 0 y) l) → Past y (take (elim b [ true ↦ 0 | false ↦ suc (first_below l 0 y) ]) (s ∷ l))
    go true e p = tt
    go false e p = ((r.0, e), p)

pub stands_passed : {s : Bool} {y₀ y : Float} {bs below : List Segment} → Stands s y₀ y bs below → (k : ℕ) → k ≡ passed_by s below y → Stands s y₀ y bs (drop k below)
stands_passed {s} {y₀} {y} {bs} {below} h k e = record { is = go s h.is e }
  where
    go : (s : Bool) → Either s y₀ y bs below → k ≡ passed_by s below y → Either s y₀ y bs (drop k below)
    go true h e = record {
      over = h.over ++ take k below;
      parts = h.parts ∙ ap (λ l. h.over ++ l) (sym (take-append-drop k below)) ∙ sym (append_assoc h.over (take k below) (drop k below));
      past = past_append y h.over (take k below) h.past (subst (λ n. Past y (take n below)) (sym e) (passed_past (inf true) y below h.rise));
      all = h.all;
      rise = rising_drop below k h.rise;
      top = h.top;
      low = h.low;
    }
    go false h e = ap (λ n. drop n below) e ∙ h

-- ---- the line goes down

past_down : (y z : Float) (l : List Segment) → Num binary32 y → Num binary32 z → T (le y z) → Past y l → Past z l
past_down y z [] n m h p = tt
past_down y z (s ∷ l) n m h p =
    let f = p.0.0 in
    let g = nlt→key n f.end (subst (λ b. T (not b)) (sym p.0.1) tt) in
    ((f, not_lt m f.end (key→le f.end m (omega (arith, g, le→key n m h)))), past_down y z l n m h p.1)

down : {y₀ y : Float} {bs below : List Segment} (z : Float) → Num binary32 y₀ → Beneath y₀ y bs below → Num binary32 z → T (le y z) → Beneath y₀ z bs below
down {y₀} {y} z n h m g = record { over = h.over; parts = h.parts; past = past_down y z h.over h.top m g h.past; all = h.all; rise = h.rise; top = m; low = trans_le n h.top m h.low g }

-- a top whose bottom is in reach is finite
top_fin : (y₀ y h : Float) → Fin binary32 y₀ → Num binary32 y → T (le y₀ y) → Fin binary32 h → in_reach (add binary32 y h) ≡ true → Fin binary32 y
unfolding in_reach add le lt eq
top_fin y₀ nan h p n g f r = absurd n.is
top_fin y₀ (inf true) h p n g f r = absurd (omega (arith, key_in binary32 y₀ p.is, le→key (num p) n g))
top_fin y₀ (inf false) nan p n g f r = absurd f.is
top_fin y₀ (inf false) (inf s) p n g f r = absurd f.is
top_fin y₀ (inf false) (fin s m e) p n g f r = absurd (true≢false (sym r))
top_fin y₀ (fin s m e) h p n g f r = record { is = n.is }

-- to its bottom
pub stands_bottom : {s : Bool} {y₀ y : Float} {bs below : List Segment} → Stands s y₀ y bs below → (h : Float) → Fin binary32 y₀ → Fin binary32 h → T (le zero+ h) → in_reach (add binary32 y h) ≡ true → Stands s y₀ (add binary32 y h) bs below
stands_bottom {s} {y₀} {y} {bs} {below} b h p q g r = record { is = go s b.is }
  where
    go : (s : Bool) → Either s y₀ y bs below → Either s y₀ (add binary32 y h) bs below
    go true b = let f = top_fin y₀ y h p b.top b.low q r in down (add binary32 y h) (num p) b (add_num f q) (add_grows f q g)
    go false b = b

-- or to the next start or the last end
next_down : (x y z : Float) (l : List Segment) → Rising x l → Num binary32 y → Num binary32 z → T (le y z) → Num binary32 (next_start y z l) × T (le y (next_start y z l))
unfolding next_start
next_down x y z [] r n m h = (m, h)
next_down x y z (s ∷ l) r n m h = go (lt y s.start) refl (next_down s.start y z l r.2 n m h)
  where
    go : (b : Bool) → lt y s.start ≡ b → Num binary32 (next_start y z l) × T (le y (next_start y z l)) → Num binary32 (elim b [ true ↦ s.start | false ↦ next_start y z l ]) × T (le y (elim b [ true ↦ s.start | false ↦ next_start y z l ]))
    go true e d = (r.0.start, lt→le n r.0.start (subst T (sym e) tt))
    go false e d = d

last_num : (x y : Float) (l : List Segment) → Rising x l → Num binary32 y → Num binary32 (last_end y l)
unfolding last_end
last_num x y [] r n = n
last_num x y (s ∷ l) r n = last_num s.start s.end l r.2 r.0.end

pub stands_moved : {s : Bool} {y₀ y : Float} {bs below : List Segment} → Stands s y₀ y bs below → Num binary32 y₀ → Stands s y₀ (next_start y (larger y (last_end y bs)) below) bs below
stands_moved {s} {y₀} {y} {bs} {below} b p = record { is = go s b.is }
  where
    go : (s : Bool) → Either s y₀ y bs below → Either s y₀ (next_start y (larger y (last_end y bs)) below) bs below
    go true b =
        let m = last_num (inf true) y bs b.all b.top in
        let d = next_down (inf true) y (larger y (last_end y bs)) below b.rise b.top (larger_num b.top m) (larger_left b.top m) in
        down (next_start y (larger y (last_end y bs)) below) p b d.0 d.1
    go false b = b
