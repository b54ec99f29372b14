use Rattle.std.specs.Prelude.{Option, Some, None, Result, Ok, Err, ⊤}
-- Clearing goes by the bottoms alone (2/14): a call is the one without clear at min_y raised to them. The lowest y of rule 1 is then the same, and a search that passes the early answer lands where it landed.
use mathlib.Core.Path.{◌≡◌, refl, sym, ap, ap₂, ◌∙◌, subst}
use Prim.Native.Nat.{ℕ, ◌≤◌}
use native.Mathlib.Omega.{arith}
use mathlib.Core.Bool.{Bool, true, false, cond}
use mathlib.Core.List.{List}
use borrow.Author.Tests.{lt-ltb, le-ltb, ltb-false}
use lib.Dec.{T, ltb}
use lib.Ieee.{Float, nan, inf, fin, lt, le, eq}
use lib.ListN.{length}
use Rattle.f32_laws.specs.Numbers.{larger}
use Rattle.f32_laws.proofs.Tests.{both}
use Rattle.f32_laws.proofs.Larger.{larger_num, larger_key}
use Rattle.f32_laws.proofs.Plain.{plain_larger, plain_same}
use Rattle.float.specs.declared.BfcSlot.{BfcSlot}
use Rattle.float.specs.declared.Clear.{Clear}
use Rattle.float.specs.declared.ContentSlot.{ContentSlot}
use Rattle.float.specs.declared.Direction.{Direction}
use Rattle.float.specs.declared.Refusal.{Refusal}
use Rattle.float.specs.declared.bfc.BfcInsets.{BfcInsets}
use Rattle.float.specs.declared.slot.Insets.{Insets}
use Rattle.float.specs.declared.slot.Sought.{Sought}
use Rattle.float.specs.Numbers.{most, least, plus_zero, finite, within, offset, all_finite, all_allowed}
use Rattle.float.specs.Refuse.{clear_of, direction_of, check_of}
use Rattle.float.specs.Bands.{first_below}
use Rattle.float.specs.Page.{Page, max_boxes}
use Rattle.float.specs.Clear.{raise_to, cleared}
use Rattle.float.specs.Search.{search_from}
use Rattle.float.specs.Place.{Call, cleaned, input_check, PlaceResult, lowest, first_allowed, ask_of, spot_of, refuse, put, admitted, checked, place}
use Rattle.float.specs.Slot.{active, from, landed, seek, ContentCall, content_cleaned, content_check, content_slot, content_asked, content, BfcCall, bfc_cleaned, bfc_check, bfc_insets, bfc_slot, bfc_asked, bfc}
use Rattle.demands.specs.Runs.{Accepted, F32, raised, unclear, content_unclear, bfc_unclear, Raises}
use Rattle.demands.proofs.Laws.{Val}
use Rattle.demands.proofs.First.{first_quiet, last_quiet}
use Rattle.demands.proofs.Input.{known_one, plus_fits, BottomIs, raise_is, cleared_is, larger_val}
use Rattle.demands.proofs.Whole.{Inv}
use Rattle.demands.proofs.Upright.{Plus, larger_plus, plus_plain, plain_stands, plus_twice, Upright}

-- ---- raised to two heights, in either order
module _ (m : Float) (v : Val m) (p : Plus m) where
  swap_two : (x y : Float) → Val x → Plus x → Val y → Plus y → larger (larger m x) y ≡ larger (larger m y) x
  swap_two x y u q w r =
      let a = larger_num v.num u.num in
      let b = larger_num v.num w.num in
      plain_same (larger_num a w.num) (larger_num b u.num) (plain_larger (plain_larger p q) r) (plain_larger (plain_larger p r) q)
      (omega (arith, larger_key v.num u.num, larger_key v.num w.num, larger_key a w.num, larger_key b u.num))

  raise_swap : (b d : Option Float) → BottomIs Val b → BottomIs Plus b → BottomIs Val d → BottomIs Plus d → raise_to (raise_to m b) d ≡ raise_to (raise_to m d) b
  unfolding raise_to
  raise_swap None d u q w r = refl
  raise_swap (Some x) None u q w r = refl
  raise_swap (Some x) (Some y) u q w r = swap_two x y u q w r

-- ---- a number within the limits is finite, so the checks say the same of both calls
within_finite : (x : Float) → T (within least most x) → finite x ≡ true
unfolding within finite le lt eq
within_finite nan t = absurd t
within_finite (inf true) t = absurd t
within_finite (inf false) t = absurd t
within_finite (fin s m e) t = refl

true_is : (t : Bool) → T t → t ≡ true
true_is true h = refl
true_is false h = absurd h

module _ {p : Page} {clear : ℕ} {y : Float} (r : Raises p clear y) where
  code_is : ltb clear 4 ≡ true
  code_is = lt-ltb clear 4 r.code

  finite_same : finite y ≡ finite (raised p clear y)
  finite_same = within_finite y r.stands ∙ sym (within_finite (raised p clear y) r.lifted)

  within_same : within least most y ≡ within least most (raised p clear y)
  within_same = true_is (within least most y) r.stands ∙ sym (true_is (within least most (raised p clear y)) r.lifted)

-- ---- a page that calls reach, a call's clear and its min_y
module _ (p : Page) (g : List Accepted) (v : Inv p g) (u : Upright p) (clear : ℕ) (x : Float) (f : F32 x) where
  abbrev y : Float
  y = plus_zero x

  below : BottomIs Val (cleared p (clear_of clear))
  below = cleared_is Val larger_val p v.bottom (clear_of clear)

  below_plus : BottomIs Plus (cleared p (clear_of clear))
  below_plus = cleared_is Plus larger_plus p u.bottom (clear_of clear)

  module _ (t : T (within least most y)) where
    val : Val y
    val = known_one (offset y) (plus_fits x f) (subst T (sym (within_finite y t)) tt) t

    lowest_same : raise_to (raise_to y p.ceiling) (cleared p (clear_of clear)) ≡ raise_to (raise_to (raised p clear y) p.ceiling) (cleared p (clear_of 0))
    unfolding cleared raise_to
    lowest_same = raise_swap y val (plus_plain x f) p.ceiling (cleared p (clear_of clear)) v.ceiling u.ceiling below below_plus

    -- the raised min_y is no minus zero
    raised_stands : plus_zero (raised p clear y) ≡ raised p clear y
    raised_stands = plain_stands (raised p clear y) (raise_is Val larger_val y (cleared p (clear_of clear)) val below).num (raise_is Plus larger_plus y (cleared p (clear_of clear)) (plus_plain x f) below_plus)

-- ---- a placement
module _ (p : Page) (g : List Accepted) (v : Inv p g) (u : Upright p) (c : Call) (f : F32 c.min_y) where
  -- what the rules after the limits make of both calls
  admitted_same : T (within least most (cleaned c).min_y) → admitted p (cleaned c) ≡ admitted p (unclear p (cleaned c))
  unfolding admitted spot_of lowest
  admitted_same t =
      ap (λ (z : Float). cond (ltb (length p.boxes) max_boxes) (put p (ask_of p (cleaned c)) (search_from p.bands (ask_of p (cleaned c)) (first_below p.bands (first_allowed p) z) z)) (refuse p Refusal.BoxesFull))
      (lowest_same p g v u c.clear c.min_y f t)

  -- where the raised min_y may be handed in, the checks say the same of both
  module _ (r : Raises p c.clear (cleaned c).min_y) where
    check_same : input_check (cleaned c) ≡ input_check (unclear p (cleaned c))
    unfolding check_of all_finite all_allowed
    check_same = simp (check_of, all_finite, all_allowed, code_is r, finite_same r, within_same r)

    cleaned_same : cleaned (unclear p (cleaned c)) ≡ unclear p (cleaned c)
    cleaned_same = cc (plus_twice c.width, plus_twice c.height, raised_stands p g v u c.clear c.min_y f r.stands, plus_twice c.left, plus_twice c.right)

    pub placed_same : place p c ≡ place p (unclear p (cleaned c))
    unfolding place checked
    placed_same =
        ap₂ (λ (k : Result ⊤ Refusal) (o : PlaceResult). elim k [ Ok _ ↦ o | Err n ↦ refuse p n ]) check_same (admitted_same r.stands)
        ∙ sym (ap (checked p) cleaned_same)

  -- and else the rules go on as if it had been
  pub placed_by_rules : input_check (cleaned c) ≡ Ok tt → T (within least most (cleaned c).min_y) → place p c ≡ admitted p (unclear p (cleaned c))
  unfolding place checked
  placed_by_rules e t = simp (checked, e) (admitted_same t)

-- ---- a slot question, on any page: where some band ends below min_y, the search lands where it lands without clear at min_y raised
module _ (p : Page) (clear : Clear) (after : Option ℕ) (y : Float) (a : active p.bands y ≡ true) where
  abbrev z : Float
  z = raise_to y (cleared p clear)

  abbrev i : ℕ
  i = first_below p.bands (from after) z

  -- past the last band, or with no band below the raised min_y
  module _ {A : Type 0} (S : Sought → A) (quiet : length p.bands ≤ first_below p.bands 0 z → S (Sought.Past z) ≡ S (Sought.Quiet z)) where
    seek_same : S (seek p clear after y) ≡ S (seek p Clear.None after z)
    unfolding seek active cleared raise_to
    seek_same = simp (seek, a) (go (ltb (first_below p.bands 0 z) (length p.bands)) refl)
      where
        go : (t : Bool) → ltb (first_below p.bands 0 z) (length p.bands) ≡ t → S (landed p.bands i z) ≡ S (cond t (landed p.bands i z) (Sought.Quiet z))
        go true e = refl
        go false e = let h = ltb-false (first_below p.bands 0 z) (length p.bands) e in ap (λ (b : Bool). S (cond b (Sought.At i z) (Sought.Past z))) (le-ltb i (length p.bands) (first_quiet p.bands (from after) z h)) ∙ quiet h

  pub content_by_rules : (o : Insets) → content_slot p o (seek p clear after y) ≡ content_slot p o (seek p Clear.None after z)
  unfolding content_slot
  content_by_rules o = seek_same (content_slot p o) (λ h. refl)

  pub bfc_by_rules : (d : Direction) (o : BfcInsets) → bfc_slot p d o (seek p clear after y) ≡ bfc_slot p d o (seek p Clear.None after z)
  unfolding bfc_slot larger
  bfc_by_rules d o = seek_same (bfc_slot p d o) (λ h. ap (λ (w : Float). bfc_slot p d o (Sought.Quiet w)) (last_quiet z p.bands z own h))
    where
      own : larger z z ≡ z
      own = both (λ (w : Float). w ≡ z) (lt z z) (λ t. refl) (λ t. refl)

-- and so of the questions, where the raised min_y may be handed in
module _ (p : Page) (g : List Accepted) (v : Inv p g) (u : Upright p) where
  module _ (c : ContentCall) (f : F32 c.min_y) (r : Raises p c.clear (content_cleaned c).min_y) (a : active p.bands (content_cleaned c).min_y ≡ true) where
    content_check_same : content_check (content_cleaned c) ≡ content_check (content_unclear p (content_cleaned c))
    unfolding check_of all_finite all_allowed
    content_check_same = simp (check_of, all_finite, all_allowed, code_is r, finite_same r, within_same r)

    content_cleaned_same : content_cleaned (content_unclear p (content_cleaned c)) ≡ content_unclear p (content_cleaned c)
    content_cleaned_same = cc (raised_stands p g v u c.clear c.min_y f r.stands, plus_twice c.left, plus_twice c.right)

    pub content_same : content p c ≡ content p (content_unclear p (content_cleaned c))
    unfolding content
    content_same =
        ap₂ (λ (k : Result ⊤ Refusal) (o : ContentSlot). elim k [ Ok _ ↦ Ok o | Err n ↦ Err n ]) content_check_same (content_by_rules p (clear_of c.clear) c.after (content_cleaned c).min_y a _)
        ∙ sym (ap (content_asked p) content_cleaned_same)

  module _ (c : BfcCall) (f : F32 c.min_y) (r : Raises p c.clear (bfc_cleaned c).min_y) (a : active p.bands (bfc_cleaned c).min_y ≡ true) where
    bfc_check_same : bfc_check (bfc_cleaned c) ≡ bfc_check (bfc_unclear p (bfc_cleaned c))
    unfolding check_of all_finite all_allowed
    bfc_check_same = simp (check_of, all_finite, all_allowed, code_is r, finite_same r, within_same r)

    bfc_cleaned_same : bfc_cleaned (bfc_unclear p (bfc_cleaned c)) ≡ bfc_unclear p (bfc_cleaned c)
    bfc_cleaned_same = cc (raised_stands p g v u c.clear c.min_y f r.stands, plus_twice c.left, plus_twice c.right, plus_twice c.left_margin, plus_twice c.right_margin)

    pub bfc_same : bfc p c ≡ bfc p (bfc_unclear p (bfc_cleaned c))
    unfolding bfc
    bfc_same =
        ap₂ (λ (k : Result ⊤ Refusal) (o : BfcSlot). elim k [ Ok _ ↦ Ok o | Err n ↦ Err n ]) bfc_check_same (bfc_by_rules p (clear_of c.clear) c.after (bfc_cleaned c).min_y a (direction_of c.direction) (bfc_insets (bfc_cleaned c)))
        ∙ sym (ap (bfc_asked p) bfc_cleaned_same)
