-- What `admit` answers: the refusals in their order, then rules 1 and 2, from what its parts answer.
use Rattle.std.proofs.Common.{◌≡◌, ℕ, ◌<◌, ◌≤◌, min, max, ◌&&◌, ltb, List, [], ◌∷◌, length, take, sym, refl, ap, ◌∙◌, ap₂, arith, length-take, le-ltb, lt-ltb, Option, Result, Ok, Err}
use Rattle.std.specs.Prelude.{⊤}
use lib.Ieee.{Float}
use Rattle.float.specs.declared.Clear.{Clear}
use Rattle.float.specs.declared.FloatDirection.{FloatDirection}
use Rattle.float.specs.declared.Head.{Head}
use Rattle.float.specs.declared.PlacedFloatedBox.{PlacedFloatedBox}
use Rattle.float.specs.declared.Refusal.{Refusal}
use Rattle.float.specs.declared.Segment.{Segment}
use Rattle.float.specs.declared.fit.Ask.{Ask}
use Rattle.float.specs.Bands.{first_below}
use Rattle.float.specs.Clear.{raise_to, cleared}
use Rattle.float.specs.Head.{page_with}
use Rattle.float.specs.Hold.{Admitted, Admits}
use Rattle.float.specs.Numbers.{size, offset, plus_zero}
use Rattle.float.specs.Page.{Page, page_of}
use Rattle.float.specs.Place.{Call, cleaned, input_check, lowest, first_allowed, ask_of, spot_of, put, admitted, checked, place, held, place_of}
use Rattle.float.specs.Refuse.{side_of, clear_of, check_of}
use Rattle.float.specs.Search.{search_from}
use Rattle.float.proofs.Front.{take_min}

-- what a check of codes answers, by what the check of the numbers does
module _ {A : Type 0} where
  told_err : (d : Result ⊤ Refusal) (v : A) (o : Refusal) → ◌≡◌ {A = Result A Refusal} (elim d [ Ok _ ↦ Ok v | Err n ↦ Err n ]) (Err o) → d ≡ Err o
  told_err (Ok _) v o e = absurd (grind arith)
  told_err (Err n) v o e = grind arith

  told_ok : (d : Result ⊤ Refusal) (v u : A) → ◌≡◌ {A = Result A Refusal} (elim d [ Ok _ ↦ Ok v | Err n ↦ Err n ]) (Ok u) → (d ≡ Ok tt) × (u ≡ v)
  told_ok (Ok _) v u e = (refl, grind arith)
  told_ok (Err n) v u e = absurd (grind arith)

module _ (h : Head) (c : Call) (w t y l r : Float) (ew : w ≡ plus_zero c.width) (et : t ≡ plus_zero c.height) (ey : y ≡ plus_zero c.min_y) (el : l ≡ plus_zero c.left) (er : r ≡ plus_zero c.right)
    (k : Result (FloatDirection × Clear) Refusal) (ek : k ≡ elim (check_of (ltb c.side 2 && ltb c.clear 4) (size w ∷ size t ∷ offset y ∷ size l ∷ size r ∷ [])) [ Ok _ ↦ Ok (side_of c.side, clear_of c.clear) | Err n ↦ Err n ]) where
  check_err : (o : Refusal) → k ≡ Err o → input_check (cleaned c) ≡ Err o
  check_err o e = cc (ew, et, ey, el, er, told_err (check_of (ltb c.side 2 && ltb c.clear 4) (size w ∷ size t ∷ offset y ∷ size l ∷ size r ∷ [])) (side_of c.side, clear_of c.clear) o (sym ek ∙ e))

  pub refused_input : (o : Refusal) → k ≡ Err o → Admits h c (Err o)
  unfolding place_of place checked
  refused_input o e = λ bs xs bands boxes. simp (checked, check_err o e)

  module _ (z : FloatDirection) (x : Clear) (known : k ≡ Ok (z, x)) where
    codes : (input_check (cleaned c) ≡ Ok tt) × (z ≡ side_of c.side) × (x ≡ clear_of c.clear)
    codes =
        let u = told_ok (check_of (ltb c.side 2 && ltb c.clear 4) (size w ∷ size t ∷ offset y ∷ size l ∷ size r ∷ [])) (side_of c.side, clear_of c.clear) (z, x) (sym ek ∙ known) in
        (cc (ew, et, ey, el, er, u.0), ap (λ (q : FloatDirection × Clear). q.0) u.1, ap (λ (q : FloatDirection × Clear). q.1) u.1)

    checked_is : (p : Page) → checked p (cleaned c) ≡ admitted p (cleaned c)
    unfolding checked
    checked_is p = simp (checked, codes.0)

    pub refused_room : 64 ≤ h.box_count → Admits h c (Err Refusal.BoxesFull)
    unfolding place_of place admitted page_of
    refused_room o = λ bs xs bands boxes. simp (checked_is, admitted, le-ltb (length (take h.box_count xs)) 64 (omega (arith, length-take h.box_count xs)))

    module _ (few : h.box_count < 64) (n : ℕ) (live : n ≡ min h.count 96)
        (a : Ask) (ea : (q : Page) (d : Call) → q.width ≡ h.width → d.width ≡ w → d.height ≡ t → d.left ≡ l → d.right ≡ r → side_of d.side ≡ z → a ≡ ask_of q d)
        (top : Float) (ep : top ≡ raise_to y h.ceiling) (b : Option Float) (eb : (q : Page) → q.left_bottom ≡ h.left_bottom → q.right_bottom ≡ h.right_bottom → b ≡ cleared q x) (low : Float) (eo : low ≡ raise_to top b)
        (f : ℕ) (ef : f ≡ max h.left_first h.right_first) where
      module _ (bs : List Segment) (xs : List PlacedFloatedBox) (bands : length bs ≡ 96) (boxes : length xs ≡ 64) where
        ask_is : a ≡ ask_of (page_of (page_with h bs xs)) (cleaned c)
        unfolding page_of
        ask_is = ea (page_of (page_with h bs xs)) (cleaned c) refl (sym ew) (sym et) (sym el) (sym er) (sym codes.1)

        low_is : low ≡ lowest (page_of (page_with h bs xs)) (cleaned c)
        unfolding page_of lowest
        low_is = eo ∙ ap₂ raise_to (ep ∙ ap (λ (v : Float). raise_to v h.ceiling) ey) (eb (page_of (page_with h bs xs)) refl refl ∙ ap (cleared (page_of (page_with h bs xs))) codes.2)

        first_is : f ≡ first_allowed (page_of (page_with h bs xs))
        unfolding page_of
        first_is = ef

        live_at : take n bs ≡ (page_of (page_with h bs xs)).bands
        unfolding page_of
        live_at = ap (λ (i : ℕ). take i bs) live ∙ take_min bs h.count 96 bands

        spot_is : search_from (take n bs) a (first_below (take n bs) f low) low ≡ spot_of (page_of (page_with h bs xs)) (cleaned c)
        unfolding spot_of
        spot_is =
            let p = page_of (page_with h bs xs) in
            let g = first_allowed p in
            ap (λ (v : List Segment). search_from v a (first_below v f low) low) live_at
            ∙ ap (λ (v : ℕ). search_from p.bands a (first_below p.bands v low) low) first_is
            ∙ ap (λ (v : Ask). search_from p.bands v (first_below p.bands g low) low) ask_is
            ∙ ap (λ (v : Float). search_from p.bands (ask_of p (cleaned c)) (first_below p.bands g v) v) low_is

        put_is : place_of (page_with h bs xs) c ≡ held (page_with h bs xs) (put (page_of (page_with h bs xs)) a (search_from (take n bs) a (first_below (take n bs) f low) low))
        unfolding place_of place admitted page_of
        put_is =
            let p = page_of (page_with h bs xs) in
            let u = lt-ltb (length (take h.box_count xs)) 64 (omega (arith, length-take h.box_count xs)) in
            let v : admitted p (cleaned c) ≡ put p (ask_of p (cleaned c)) (spot_of p (cleaned c)) = simp (admitted, u) in
            ap (held (page_with h bs xs)) (checked_is p ∙ v ∙ ap₂ (put p) (sym ask_is) (sym spot_is))

      pub admits : Admitted h c (record { ask = a; n = n; first = f; y = low })
      admits = record { few = omega arith; live = live; boxes = few; passed = put_is }
