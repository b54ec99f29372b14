use Rattle.std.specs.Prelude.{Option, Some, None, Ok, Err}
-- Numbers that refusals 1 to 3 let pass, by their limits; and rule 1, which raises one of them to kept heights.
use Prim.Native.Nat.{◌≤◌}
use native.Mathlib.Omega.{arith}
use mathlib.Core.Bool.{Bool, true, false, cond}
use mathlib.Core.List.{List, [], ◌∷◌}
use lib.IntN.{pos}
use lib.Dec.{T, lit≤}
use lib.Ieee.{Float, nan, inf, fin, binary32, fits as fits_in, add, lt, le, eq}
use lib.Ieee.Fits.{and_l, and_r}
use Rattle.f32_laws.specs.Numbers.{larger, zero+}
use Rattle.f32_laws.specs.Key.{Num, mag}
use Rattle.f32_laws.proofs.Tests.{both}
use Rattle.f32_laws.proofs.Keys.{le→key, key→le}
use Rattle.f32_laws.proofs.Larger.{larger_key}
use Rattle.float.specs.declared.Clear.{Clear}
use Rattle.float.specs.declared.FloatDirection.{FloatDirection}
use Rattle.float.specs.declared.Refusal.{Refusal}
use Rattle.float.specs.declared.fit.Ask.{Ask}
use Rattle.float.specs.Numbers.{most, least, plus_zero, finite, within, Given, size, offset, value, allowed, all_finite, all_allowed}
use Rattle.float.specs.Refuse.{number_of, side_of, clear_of, check_of}
use Rattle.float.specs.Bands.{on_side}
use Rattle.float.specs.Page.{Page}
use Rattle.float.specs.Clear.{lower, raise_to, cleared}
use Rattle.float.specs.Place.{Call, cleaned, numbers, lowest, ask_of, counted}
use Rattle.demands.specs.Runs.{Each, box, handed, F32, AtOrBelow, LowEnough}
use Rattle.demands.proofs.Laws.{k, far_twice, Val, Ins, zero_k, ins_zero, val_top, on_either, larger_top}
use Rattle.demands.proofs.Seek.{Asked}

-- ---- limits
num_of : (x : Float) → F32 x → T (finite x) → Num binary32 x
unfolding finite lt
num_of nan f t = absurd t
num_of (inf s) f t = record { is = tt }
num_of (fin s m e) f t = record { is = f }

pub most_mag : mag binary32 1 (pos 16) ≤ mag binary32 1 (pos 17)
unfolding mag
most_mag = lit≤ tt

pub most_num : Num binary32 most
unfolding fits_in
most_num = record { is = tt }

pub least_num : Num binary32 least
unfolding fits_in
least_num = record { is = tt }

-- what is known of a number, by its row of the table
abbrev pub Known : Given → Type 0
Known (size x) = Ins x
Known (offset x) = Val x

pub known_one : (g : Given) → F32 (value g) → T (finite (value g)) → T (allowed g) → Known g
unfolding within
known_one (size x) f t w =
    let n = num_of x f t in
    record {
      num = n;
      low = omega (arith, zero_k, le→key ins_zero.num n (and_l (le zero+ x) (le x most) w));
      high = omega (arith, most_mag, le→key n most_num (and_r (le zero+ x) (le x most) w));
    }
known_one (offset x) f t w =
    let n = num_of x f t in
    record {
      num = n;
      low = omega (arith, most_mag, far_twice, le→key least_num n (and_l (le least x) (le x most) w));
      high = omega (arith, most_mag, le→key n most_num (and_r (le least x) (le x most) w));
    }

pub known : (gs : List Given) → Each (λ g. F32 (value g)) gs → T (all_finite gs) → T (all_allowed gs) → Each Known gs
unfolding all_finite all_allowed
known [] f t w = tt
known (g ∷ gs) f t w = (known_one g f.0 (and_l (finite (value g)) (all_finite gs) t) (and_l (allowed g) (all_allowed gs) w), known gs f.1 (and_r (finite (value g)) (all_finite gs) t) (and_r (allowed g) (all_allowed gs) w))

-- the sizes of a call are at most 65,536
pub sizes : (c : Call) → T (all_allowed (numbers c)) → T (le c.width most) × ((r : FloatDirection) → T (le (on_side r c.left c.right) most))
unfolding all_allowed within
sizes c t =
    let h = and_r (allowed (size c.width)) (all_allowed (size c.height ∷ offset c.min_y ∷ size c.left ∷ size c.right ∷ [])) t in
    let m = and_r (allowed (size c.height)) (all_allowed (offset c.min_y ∷ size c.left ∷ size c.right ∷ [])) h in
    let i = and_r (allowed (offset c.min_y)) (all_allowed (size c.left ∷ size c.right ∷ [])) m in (
      top c.width (and_l (allowed (size c.width)) _ t),
      λ r. on_either (λ (x : Float). T (le x most)) r (top c.left (and_l (allowed (size c.left)) _ i)) (top c.right (and_l (allowed (size c.right)) _ (and_r (allowed (size c.left)) _ i))),
    )
  where
    top : (x : Float) → T (allowed (size x)) → T (le x most)
    top x t = and_r (le zero+ x) (le x most) t

-- and its min_y lies within the limits
pub min_y_lem : (c : Call) → T (all_allowed (numbers c)) → T (within least most c.min_y)
unfolding all_allowed
min_y_lem c t = and_l (allowed (offset c.min_y)) _ (and_r (allowed (size c.height)) _ (and_r (allowed (size c.width)) _ t))

-- a check's two ways: it refuses with 1, 2 or 3
pub check_both {ℓ} : {A : Type ℓ} (P : A → Type 0) (b : Bool) (gs : List Given) {x : A} {f : Refusal → A} → (T (all_finite gs) → T (all_allowed gs) → P x) → ((n : Refusal) → number_of n ≤ 3 → P (f n)) → P (elim (check_of b gs) [ Ok _ ↦ x | Err n ↦ f n ])
unfolding check_of
check_both P b gs {x} {f} p q = go b (all_finite gs) (all_allowed gs) p
  where
    go : (b t u : Bool) → (T t → T u → P x) → P (elim (cond b (cond t (cond u (Ok (tt {0})) (Err Refusal.OutOfLimits)) (Err Refusal.NotFinite)) (Err Refusal.UnknownCode)) [ Ok _ ↦ x | Err n ↦ f n ])
    go false t u p = q Refusal.UnknownCode (omega arith)
    go true false u p = q Refusal.NotFinite (omega arith)
    go true true false p = q Refusal.OutOfLimits (omega arith)
    go true true true p = p tt tt

-- ---- minus zero
pub plus_fits : (x : Float) → F32 x → F32 (plus_zero x)
unfolding plus_zero fits_in zero+
plus_fits x h = both F32 (eq x zero+) (λ t. tt) (λ t. h)

pub cleaned_fits : (c : Call) → Each F32 (handed (box c)) → Each (λ g. F32 (value g)) (numbers (cleaned c))
cleaned_fits c f = (plus_fits c.width f.0, (plus_fits c.height f.1.0, (plus_fits c.min_y f.1.1.0, (plus_fits c.left f.1.1.1.0, (plus_fits c.right f.1.1.1.1.0, tt)))))

-- what is asked, of a call whose numbers are known
pub asked : (p : Page) (c : Call) → Ins p.width → Each Known (numbers c) → Asked (ask_of p c)
asked p c w n = record {
  width = n.0;
  height = n.1.0;
  page = w;
  cb_lead = on_either Ins (side_of c.side) n.1.1.1.0 n.1.1.1.1.0;
  cb_trail = on_either Ins (side_of c.side) n.1.1.1.1.0 n.1.1.1.0;
}

-- ---- kept heights
abbrev pub bottom_on : FloatDirection → Page → Option Float
bottom_on r p = on_side r p.left_bottom p.right_bottom

-- P holds of the height, if there is one
abbrev pub BottomIs : (Float → Type 0) → Option Float → Type 0
BottomIs P None = Unit {0}
BottomIs P (Some x) = P x

-- x is at or above the height that is kept
abbrev pub AtMost : Float → Option Float → Type 0
AtMost x None = ⊥
AtMost x (Some y) = k x ≤ k y

-- what the larger of two keeps, rule 1 and the kept heights keep
module _ (P : Float → Type 0) (f : (x y : Float) → P x → P y → P (larger x y)) where
  pub raise_is : (y : Float) (b : Option Float) → P y → BottomIs P b → P (raise_to y b)
  unfolding raise_to
  raise_is y None p q = p
  raise_is y (Some x) p q = f y x p q

  pub lower_is : (b d : Option Float) → BottomIs P b → BottomIs P d → BottomIs P (lower b d)
  unfolding lower
  lower_is None d u v = v
  lower_is (Some x) None u v = u
  lower_is (Some x) (Some y) u v = f x y u v

  -- an accepted box raises its side's
  pub counted_is : (p : Page) (a : Ask) (i y : Float) → ((r : FloatDirection) → BottomIs P (bottom_on r p)) → P (add binary32 y a.height) → (r : FloatDirection) → BottomIs P (bottom_on r (counted p a i y))
  counted_is p a i y h b r =
      let D = BottomIs P in
      on_either D r
      (on_either D a.side (lower_is p.left_bottom _ (h FloatDirection.Left) b) (h FloatDirection.Left))
      (on_either D a.side (h FloatDirection.Right) (lower_is p.right_bottom _ (h FloatDirection.Right) b))

  pub cleared_is : (p : Page) → ((r : FloatDirection) → BottomIs P (bottom_on r p)) → (c : Clear) → BottomIs P (cleared p c)
  unfolding cleared
  cleared_is p h Clear.None = tt
  cleared_is p h Clear.Left = h FloatDirection.Left
  cleared_is p h Clear.Right = h FloatDirection.Right
  cleared_is p h Clear.Both = lower_is p.left_bottom p.right_bottom (h FloatDirection.Left) (h FloatDirection.Right)

  pub lowest_is : (p : Page) (c : Call) → P c.min_y → BottomIs P p.ceiling → ((r : FloatDirection) → BottomIs P (bottom_on r p)) → P (lowest p c)
  unfolding lowest
  lowest_is p c m h g = raise_is (raise_to c.min_y p.ceiling) (cleared p (clear_of c.clear)) (raise_is c.min_y p.ceiling m h) (cleared_is p g (clear_of c.clear))

pub larger_val : (x y : Float) → Val x → Val y → Val (larger x y)
larger_val x y p q = larger_top p (val_top q)

-- a kept height that is raised keeps every height above it, and takes the one it is raised to
pub lower_keeps : (b : Option Float) (x y : Float) → BottomIs Val b → Val y → AtMost x b → AtMost x (lower b (Some y))
unfolding lower
lower_keeps None x y v w h = absurd h
lower_keeps (Some z) x y v w h = omega (arith, larger_key v.num w.num)

pub lower_takes : (b : Option Float) (x y : Float) → BottomIs Val b → Val y → k x ≤ k y → AtMost x (lower b (Some y))
unfolding lower
lower_takes None x y v w h = h
lower_takes (Some z) x y v w h = omega (arith, larger_key v.num w.num)

raise_up : (y : Float) (b : Option Float) → Val y → BottomIs Val b → k y ≤ k (raise_to y b)
unfolding raise_to
raise_up y None v w = omega arith
raise_up y (Some z) v w = omega (arith, larger_key v.num w.num)

raise_over : (x y : Float) (b : Option Float) → Val y → BottomIs Val b → AtMost x b → k x ≤ k (raise_to y b)
unfolding raise_to
raise_over x y None v w h = absurd h
raise_over x y (Some z) v w h = omega (arith, larger_key v.num w.num)

-- rule 1 goes no higher than min_y, the ceiling and the cleared bottoms
module _ (p : Page) (c : Call) (m : Val c.min_y) (h : BottomIs Val p.ceiling) (g : (r : FloatDirection) → BottomIs Val (bottom_on r p)) where
  raised : Val (raise_to c.min_y p.ceiling)
  raised = raise_is Val larger_val c.min_y p.ceiling m h

  below : BottomIs Val (cleared p (clear_of c.clear))
  below = cleared_is Val larger_val p g (clear_of c.clear)

  lowest_min : k c.min_y ≤ k (lowest p c)
  unfolding lowest
  lowest_min = omega (arith, raise_up c.min_y p.ceiling m h, raise_up _ (cleared p (clear_of c.clear)) raised below)

  pub lowest_over : (x : Float) → AtMost x p.ceiling → k x ≤ k (lowest p c)
  unfolding lowest
  lowest_over x o = omega (arith, raise_over x c.min_y p.ceiling m h o, raise_up _ (cleared p (clear_of c.clear)) raised below)

  lowest_cleared : (x : Float) → AtMost x (cleared p (clear_of c.clear)) → k x ≤ k (lowest p c)
  unfolding lowest
  lowest_cleared x o = raise_over x _ (cleared p (clear_of c.clear)) raised below o

  -- so a y that is no higher is low enough
  pub low_enough : (y : Float) → Val y → k (lowest p c) ≤ k y → LowEnough p c y
  low_enough y v o = (key→le m.num v.num (omega (arith, lowest_min)), on p.ceiling h (λ x t. omega (arith, lowest_over x t)), on (cleared p (clear_of c.clear)) below (λ x t. omega (arith, lowest_cleared x t)))
    where
      on : (b : Option Float) → BottomIs Val b → ((x : Float) → AtMost x b → k x ≤ k y) → AtOrBelow b y
      on None w f = tt
      on (Some x) w f = key→le w.num v.num (f x (omega arith))
