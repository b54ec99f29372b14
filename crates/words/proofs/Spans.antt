-- What stands beside a line: what the definitions find from the band i on, by that band and those after it; and of bands that rise those after the first below the line are not touched.
use Prim.Native.Nat.{ℕ, zero, suc, ◌+◌, ◌<◌}
use mathlib.Core.Path.{◌≡◌, refl, sym, ap, ap₂, ◌∙◌, subst}
use mathlib.Core.Bool.{Bool, true, false, not, ◌&&◌, cond, and-false}
use mathlib.Core.List.{List, [], ◌∷◌}
use native.Mathlib.Omega.{arith}
use lib.Dec.{T}
use lib.Ieee.{Float, nan, inf, fin, binary32, lt, le, eq, fits}
use lib.Ieee.Fits.{and_l, and_r}
use lib.ListN.{length, drop, get_or}
use Rattle.f32_laws.specs.Key.{IsNum, Num}
use Rattle.f32_laws.specs.Numbers.{larger}
use Rattle.f32_laws.proofs.Keys.{le→key, key→le, lt→key}
use Rattle.f32_laws.proofs.Order.{refl_le, trans_le, not_lt→le}
use Rattle.float.specs.declared.Segment.{Segment}
use Rattle.float.specs.Bands.{first_below}
use Rattle.float.specs.Numbers.{in_reach, farthest}
use Rattle.words.specs.declared.beside.Span.{Span}
use Rattle.words.specs.Lines.{joined, span_over, next_start}
use Rattle.words.specs.Laid.{band_of, bands_of, Fine, Rising, passed_by}
use Rattle.words.proofs.Judging.{rest_here}
use Rattle.std.proofs.lemmas.List.{drop-map}

-- ---- the bands from i on: their first and those after it

module _ (cs : List (List Float)) (i : ℕ) (h : i < length cs) where
  here : drop i cs ≡ get_or cs i [] ∷ drop (i + 1) cs
  here = rest_here cs i [] h

  -- the next start
  pub next_yes : (y z : Float) → lt y (get_or (get_or cs i []) 0 nan) ≡ true → next_start y z (bands_of (drop i cs)) ≡ get_or (get_or cs i []) 0 nan
  unfolding next_start
  next_yes y z t = ap (λ l. next_start y z (bands_of l)) here ∙ rw (t, next_start) refl

  pub next_no : (y z : Float) → lt y (get_or (get_or cs i []) 0 nan) ≡ false → next_start y z (bands_of (drop i cs)) ≡ next_start y z (bands_of (drop (i + 1) cs))
  unfolding next_start
  next_no y z t = ap (λ l. next_start y z (bands_of l)) here ∙ rw (t, next_start) refl

  -- the bands that are passed
  pub below_yes : (y : Float) → lt y (get_or (get_or cs i []) 1 nan) ≡ true → first_below (bands_of (drop i cs)) 0 y ≡ 0
  unfolding first_below
  below_yes y t = ap (λ l. first_below (bands_of l) 0 y) here ∙ rw (t, first_below) refl

  pub below_no : (y : Float) → lt y (get_or (get_or cs i []) 1 nan) ≡ false → first_below (bands_of (drop i cs)) 0 y ≡ suc (first_below (bands_of (drop (i + 1) cs)) 0 y)
  unfolding first_below
  below_no y t = ap (λ l. first_below (bands_of l) 0 y) here ∙ rw (t, first_below) refl

pub passed_is : (s : Bool) (l : List Segment) (y : Float) {i : ℕ} → s ≡ true → i ≡ first_below l 0 y → i ≡ passed_by s l y
passed_is s l y p q = rw p q

-- ---- bands that rise

-- what stands before or after a `<=` that holds is no NaN
left_num : (x y : Float) → T (fits binary32 x) → T (le x y) → IsNum binary32 x
unfolding le lt eq
left_num nan y f h = h
left_num (inf s) y f h = tt
left_num (fin s m e) y f h = f

right_num : (x y : Float) → T (fits binary32 y) → T (le x y) → IsNum binary32 y
unfolding le lt eq
right_num nan nan f h = h
right_num (inf s) nan f h = h
right_num (fin s m e) nan f h = h
right_num x (inf s) f h = tt
right_num x (fin s m e) f h = f

pub fine : (x y z : Float) → fits binary32 y ≡ true → fits binary32 z ≡ true → (le x y && le y z) ≡ true → (s : Segment) → s.start ≡ y → s.end ≡ z → Fine s × T (le x s.start)
fine x y z f g t s p q =
    let u = subst T (sym (ap₂ (λ a b. le x a && le a b) p q ∙ t)) tt in
    let v = and_r (le x s.start) (le s.start s.end) u in (
      record { start = record { is = left_num s.start s.end (subst T (sym (ap (fits binary32) p ∙ f)) tt) v }; end = record { is = right_num s.start s.end (subst T (sym (ap (fits binary32) q ∙ g)) tt) v }; up = v },
      and_l (le x s.start) (le s.start s.end) u,
    )

-- all from i on rise if the first does and those after it
pub rise_one : (cs : List (List Float)) (i : ℕ) (above : Float) → i < length cs → Fine (band_of (get_or cs i [])) × T (le above (get_or (get_or cs i []) 0 nan))
    → Rising (get_or (get_or cs i []) 0 nan) (bands_of (drop (i + 1) cs)) → Rising above (bands_of (drop i cs))
rise_one cs i above h m r = subst (λ l. Rising above (bands_of l)) (sym (here cs i h)) (m.0, m.1, r)

-- what is left of bands that rise, rises, from any start before its first
rising_from : (x : Float) (l : List Segment) → Rising x l → Rising (inf true) l
rising_from x [] r = tt
rising_from x (s ∷ l) r = (r.0, key→le (record { is = tt }) r.0.start (omega arith), r.2)

pub rising_drop : (l : List Segment) (k : ℕ) → Rising (inf true) l → Rising (inf true) (drop k l)
rising_drop l zero r = r
rising_drop [] (suc k) r = tt
rising_drop (s ∷ l) (suc k) r = rising_drop l k (rising_from s.start l r.2)

-- ---- the edges

pub not_lt : {x y : Float} → Num binary32 x → Num binary32 y → T (le y x) → lt x y ≡ false
not_lt {x} {y} p q h = is_false (lt x y) (λ t. omega (arith, lt→key p q t, le→key q p h))
  where
    is_false : (b : Bool) → (T b → ⊥) → b ≡ false
    is_false true f = absurd (f tt)
    is_false false f = refl

nlt→le : {x y : Float} → Num binary32 x → Num binary32 y → lt x y ≡ false → T (le y x)
nlt→le p q t = not_lt→le p q (subst (λ b. T (not b)) (sym t) tt)

span_past : (y b x : Float) (e : Span) (l : List Segment) → Num binary32 b → Num binary32 x → T (le b x) → Rising x l → span_over y b e l ≡ e
unfolding span_over
span_past y b x e [] p q h r = refl
span_past y b x e (s ∷ l) p q h r =
    let u = trans_le p q r.0.start h r.1 in
    let m : lt s.start b ≡ false = not_lt r.0.start p u in
    rw (m, and-false (lt y s.end)) (span_past y b s.start e l p r.0.start u r.2)

pub reach_num : {b : Float} → fits binary32 b ≡ true → in_reach b ≡ true → Num binary32 b
unfolding in_reach
reach_num {b} f h = record { is = left_num b farthest (subst T (sym f) tt) (subst T (sym h) tt) }

-- a band whose start is not above the bottom
no_start : (a b : Bool) → (a && not b) ≡ true → (a ≡ true) × (b ≡ false)
no_start true false t = (refl, refl)
no_start true true t = absurd (subst T (sym t) tt)
no_start false b t = absurd (subst T (sym t) tt)

module _ (cs : List (List Float)) (i : ℕ) (h : i < length cs) (y b : Float) (e : Span) where
  pub span_one : (f : Span) → ((t : Segment) → t.left ≡ get_or (get_or cs i []) 2 nan → t.right ≡ get_or (get_or cs i []) 3 nan → f ≡ cond (lt y (get_or (get_or cs i []) 1 nan) && lt (get_or (get_or cs i []) 0 nan) b) (joined e t) e)
      → span_over y b e (bands_of (drop i cs)) ≡ span_over y b f (bands_of (drop (i + 1) cs))
  unfolding span_over
  span_one f g = ap (λ l. span_over y b e (bands_of l)) (here cs i h) ∙ ap (λ x. span_over y b x (bands_of (drop (i + 1) cs))) (sym (g (band_of (get_or cs i [])) refl refl))

  pub span_stops : (sorted : Bool) → (sorted ≡ true → Rising (inf true) (bands_of cs)) → Num binary32 b → (sorted && not (lt (get_or (get_or cs i []) 0 nan) b)) ≡ true → span_over y b e (bands_of (drop i cs)) ≡ e
  span_stops sorted rise p t =
      let u = no_start sorted (lt (get_or (get_or cs i []) 0 nan) b) t in
      let q = subst (λ l. Rising (inf true) (bands_of l)) (here cs i h) (subst (Rising (inf true)) (drop-map band_of i cs) (rising_drop (bands_of cs) i (rise u.0))) in
      ap (λ l. span_over y b e (bands_of l)) (here cs i h) ∙ span_past y b (band_of (get_or cs i [])).start e (bands_of (get_or cs i [] ∷ drop (i + 1) cs)) p q.0.start (nlt→le q.0.start p u.1) (q.0, refl_le q.0.start, q.2)
