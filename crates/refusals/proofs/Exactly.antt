-- Refused exactly when: a call answers refusal n where row n of the paper's table applies to it and no lower one does, and only there. Each call's tests are walked in their order.
use Rattle.std.specs.Prelude.{Option, Some, None, Ok, Err}
use Prim.Native.Nat.{ℕ, zero, suc, ◌≤◌, ◌<◌}
use native.Mathlib.Omega.{arith}
use mathlib.Core.Path.{◌≡◌, refl, sym, ap, subst}
use mathlib.Core.Logic.{inl, ◌↔◌, ◌≢◌}
use mathlib.Core.Bool.{Bool, true, false, not, ◌&&◌, cond}
use mathlib.Core.List.{List, [], ◌∷◌, map}
use lib.Dec.{T, leb, eqb, eqb→eq}
use lib.IntN.{pos, neg_ℤ}
use lib.Ieee.{Float, binary32, add, le, eq}
use lib.ListN.{length}
use Rattle.f32_laws.specs.Numbers.{zero+}
use Rattle.float.specs.declared.Added.{Added}
use Rattle.float.specs.declared.AvailableSpace.{AvailableSpace}
use Rattle.float.specs.declared.FloatContext.{FloatContext}
use Rattle.float.specs.declared.FloatDirection.{FloatDirection}
use Rattle.float.specs.declared.FloatIntrinsicWidthCalculator.{FloatIntrinsicWidthCalculator}
use Rattle.float.specs.declared.Refusal.{Refusal}
use Rattle.float.specs.Numbers.{farthest, plus_zero, in_reach, all_finite, all_allowed}
use Rattle.float.specs.Refuse.{number_of, side_of, clear_of, check_of}
use Rattle.float.specs.Answers.{Value, Said, refused, values, said_place, said_done, said_content, said_bfc, said_started, said_yes_no, said_threshold, said_innermost}
use Rattle.float.specs.Page.{Page, page_of}
use Rattle.float.specs.Place.{Call, cleaned, PlaceResult, ask_of, spot_of, near, high, flat, put, admitted, checked as checked_of, place, place_of, width_check, width_of}
use Rattle.float.specs.Slot.{ContentCall, BfcCall, has_active_floats, cleared_threshold, innermost as innermost_of, content as content_of, bfc as bfc_of}
use Rattle.float.specs.Calculator.{calculator_of, zeroed, plus_on, added, added_sums, add_of}
use Rattle.demands.specs.Runs.{Any}
use Rattle.demands.proofs.Tested.{Fails, plus, and_also, and_last, not_passed, not_below, not_above}
use Rattle.tape.specs.Lines.{refused_line}
use Rattle.tape.specs.Tape.{not_added, start_of, add_to, result_line, lines_of, returned}
use Rattle.refusals.specs.Numbered.{Asked, handed, width, active, box, content, bfc, threshold, innermost, start, add_box, result, lines, Passes, has_height, made_of, y_of, sums, Applies, unknown_code, not_finite, out_of_limits, width_fixed, boxes_full, too_far, sums_too_far, bands_full, none_to_add_to, none_to_ask, no_room, Lowest}
use Rattle.refusals.specs.Answered.{said_returned, refusal, Refuses}
use Rattle.refusals.proofs.Decimals.{one_number}
use Rattle.refusals.proofs.Outcome.{Says, Outcome, none, one, exactly, Free, gap, tested}
use Rattle.refusals.proofs.Three.{all_known, from_1, checked}

-- ---- answers
says : (n : ℕ) → Says (λ m. refused n ≡ refused m) n
says n = record { this = refl; alone = λ m e. cc }

not_refused : {l : List Value} (n : ℕ) → ¬ (values l ≡ refused n)
not_refused n e = let z : ◌≡◌ {A = ℕ} 0 1 = cc in omega arith

line_says : (n : Refusal) → Says (λ m. refused_line n ≡ refusal m) (number_of n)
unfolding refused_line
line_says n = record { this = refl; alone = λ m e. sym (one_number (number_of n) m e) }

-- ---- no row beyond
top : Asked → ℕ
top (width w) = 5
top (active y) = 4
top (box c) = 8
top (content c) = 4
top (bfc c) = 4
top (threshold k) = 4
top (innermost i s) = 4
top (start m) = 4
top (add_box w s k) = 9
top result = 9
top (lines t a) = 14

top_three : (a : Asked) → 4 ≤ top a
unfolding top
top_three (width w) = omega arith
top_three (active y) = omega arith
top_three (box c) = omega arith
top_three (content c) = omega arith
top_three (bfc c) = omega arith
top_three (threshold k) = omega arith
top_three (innermost i s) = omega arith
top_three (start m) = omega arith
top_three (add_box w s k) = omega arith
top_three result = omega arith
top_three (lines t a) = omega arith

module _ {p : Page} {q : Option FloatIntrinsicWidthCalculator} where
  under : {a : Asked} {m : ℕ} → Applies p q a m → m < top a
  unfolding top
  under (unknown_code {a = a} h) = omega (arith, top_three a)
  under (not_finite {a = a} h) = omega (arith, top_three a)
  under (out_of_limits {a = a} h) = omega (arith, top_three a)
  under (width_fixed h) = omega arith
  under (boxes_full h) = omega arith
  under (too_far h) = omega arith
  under (sums_too_far c e n h) = omega arith
  under (bands_full t h) = omega arith
  under (none_to_add_to e) = omega arith
  under (none_to_ask e) = omega arith
  under (no_room h) = omega arith

  accepted : {R : ℕ → Type 0} (a : Asked) → ((n : ℕ) → ¬ R n) → Free (Applies p q a) (top a) → Outcome R (Applies p q a)
  accepted a r f = none r (λ m h. f m (under h) h)

  -- an answer that begins with the check of codes and numbers
  ask : {B : Type 0} (said : B → Said) (a : Asked) {x : B} {f : Refusal → B} → ((n : Refusal) → said (f n) ≡ refused (number_of n)) → (Free (Applies p q a) 4 → Outcome (λ n. said x ≡ refused n) (Applies p q a))
      → Outcome (λ n. said (elim (check_of (all_known (handed a).codes) (map plus (handed a).numbers)) [ Ok _ ↦ x | Err r ↦ f r ]) ≡ refused n) (Applies p q a)
  ask {B} said a {x} {f} e k = checked p q a (λ t n. said (elim t [ Ok _ ↦ x | Err r ↦ f r ]) ≡ refused n) (λ n. subst (λ (z : Said). Says (λ m. z ≡ refused m) (number_of n)) (sym (e n)) (says (number_of n))) k

-- ---- questions: rows 1 to 3 alone
module _ (p : FloatContext) (q : Option FloatIntrinsicWidthCalculator) where
  active_exactly : (y : Float) → Outcome (Refuses p q (active y)) (Applies (page_of p) q (active y))
  unfolding has_active_floats top
  active_exactly y = ask said_yes_no (active y) (λ n. refl) (accepted (active y) (λ n. not_refused n))

  content_exactly : (c : ContentCall) → Outcome (Refuses p q (content c)) (Applies (page_of p) q (content c))
  unfolding content_of top
  content_exactly c = ask said_content (content c) (λ n. refl) (accepted (content c) (λ n. not_refused n))

  bfc_exactly : (c : BfcCall) → Outcome (Refuses p q (bfc c)) (Applies (page_of p) q (bfc c))
  unfolding bfc_of top
  bfc_exactly c = ask said_bfc (bfc c) (λ n. refl) (accepted (bfc c) (λ n. not_refused n))

  threshold_exactly : (k : ℕ) → Outcome (Refuses p q (threshold k)) (Applies (page_of p) q (threshold k))
  unfolding cleared_threshold top
  threshold_exactly k = ask said_threshold (threshold k) (λ n. refl) (accepted (threshold k) (λ n. not_refused n))

  innermost_exactly : (i : Option ℕ) (s : ℕ) → Outcome (Refuses p q (innermost i s)) (Applies (page_of p) q (innermost i s))
  unfolding innermost_of top
  innermost_exactly i s = ask said_innermost (innermost i s) (λ n. refl) (accepted (innermost i s) (λ n. not_refused n))

  start_exactly : (m : Option AvailableSpace) → Outcome (Refuses p q (start m)) (Applies (page_of p) q (start m))
  unfolding start_of calculator_of check_of all_finite all_allowed top
  start_exactly (Some (AvailableSpace.Definite w)) = ask said_started (start (Some (AvailableSpace.Definite w))) (λ n. refl) (accepted (start (Some (AvailableSpace.Definite w))) (λ n. not_refused n))
  start_exactly (Some AvailableSpace.MinContent) = ask said_started (start (Some AvailableSpace.MinContent)) {x = start_of (Some AvailableSpace.MinContent)} {f = Err} (λ n. refl) (accepted (start (Some AvailableSpace.MinContent)) (λ n. not_refused n))
  start_exactly (Some AvailableSpace.MaxContent) = ask said_started (start (Some AvailableSpace.MaxContent)) {x = start_of (Some AvailableSpace.MaxContent)} {f = Err} (λ n. refl) (accepted (start (Some AvailableSpace.MaxContent)) (λ n. not_refused n))
  start_exactly None = one 1 (says 1) (unknown_code {a = start None} (inl (omega arith)), from_1 (page_of p) q (start None))

  width_exactly : (w : Float) → Outcome (Refuses p q (width w)) (Applies (page_of p) q (width w))
  unfolding width_of width_check top
  width_exactly w = ask said_done (width w) (λ n. refl) (λ f. tested (λ d n. said_done d ≡ refused n) 4 (no_box_lem (length (page_of p).boxes)) width_fixed fixed f (says 4) (λ t g. accepted (width w) (λ n. not_refused n) g))
    where
      some : (k : ℕ) → T (not (eqb k 0)) → 0 < k
      some zero t = absurd t
      some (suc k) t = omega arith

      no_box_lem : (k : ℕ) → Fails (0 < k) (eqb k 0)
      no_box_lem k = record { passed = λ t h. omega (arith, eqb→eq k 0 t); failed = some k }

      fixed : Applies (page_of p) q (width w) 4 → 0 < length (page_of p).boxes
      fixed (width_fixed h) = h

-- ---- sums
passing : (x : Float) → Fails (Passes x) (in_reach x)
unfolding in_reach
passing x = not_passed (le x farthest)

passing_three : (x y z : Float) → Fails (Any Passes (x ∷ y ∷ z ∷ [])) (in_reach x && in_reach y && in_reach z)
passing_three x y z = subst (Fails (Any Passes (x ∷ y ∷ z ∷ []))) (sym (assoc (in_reach x) (in_reach y) (in_reach z))) (and_also (passing x) (and_also (passing y) (and_last (passing z))))
  where
    assoc : (a b c : Bool) → (a && b && c) ≡ (a && (b && c))
    assoc true b c = refl
    assoc false b c = refl

-- ---- a box
module _ (p : FloatContext) (q : Option FloatIntrinsicWidthCalculator) (c : Call) where
  abbrev Boxes : ℕ → Type 0
  Boxes = Applies (page_of p) q (box c)

  abbrev Places : PlaceResult → ℕ → Type 0
  Places r n = said_place r.answer ≡ refused n

  -- the sums of row 6 for a y, and whether they pass
  abbrev Far : Float → Type 0
  Far y = Any Passes (add binary32 y (cleaned c).height ∷ add binary32 (spot_of (page_of p) (cleaned c)).inset (cleaned c).width ∷ [])

  row_5 : Boxes 5 → 64 ≤ length (page_of p).boxes
  row_5 (boxes_full h) = h

  far_6 : Boxes 6 → Far (y_of (page_of p) c)
  far_6 (too_far h) = h

  row_7 : Boxes 7 → T (has_height c) × (96 < length (made_of (page_of p) c).bands)
  row_7 (bands_full t h) = (t, h)

  far : (y : Float) → Fails (Far y) (near (ask_of (page_of p) (cleaned c)) (spot_of (page_of p) (cleaned c)).inset y)
  far y = and_also (passing (add binary32 y (cleaned c).height)) (and_last (passing (add binary32 (spot_of (page_of p) (cleaned c)).inset (cleaned c).width)))

  flat_exactly : has_height c ≡ false → Free Boxes 6 → Outcome (Places (flat (page_of p) (ask_of (page_of p) (cleaned c)) (spot_of (page_of p) (cleaned c)))) Boxes
  unfolding flat top
  flat_exactly e f =
      tested Places 6 (far (spot_of (page_of p) (cleaned c)).y) (λ h. too_far (subst Far (sym y) h)) (λ h. subst Far y (far_6 h)) f (says 6)
      (λ t g. accepted (box c) (λ n. not_refused n) (gap 7 (λ h. subst T e (row_7 h).0) g))
    where
      y : y_of (page_of p) c ≡ (spot_of (page_of p) (cleaned c)).y
      y = ap (λ (b : Bool). cond b (made_of (page_of p) c).y (spot_of (page_of p) (cleaned c)).y) e

  high_exactly : has_height c ≡ true → Free Boxes 6 → Outcome (Places (high (page_of p) (ask_of (page_of p) (cleaned c)) (spot_of (page_of p) (cleaned c)) (made_of (page_of p) c))) Boxes
  unfolding high top
  high_exactly e f =
      tested Places 6 (far (made_of (page_of p) c).y) (λ h. too_far (subst Far (sym y) h)) (λ h. subst Far y (far_6 h)) f (says 6)
      (λ t g. tested Places 7 (not_above (length (made_of (page_of p) c).bands) 96) (bands_full (subst T (sym e) tt)) (λ h. (row_7 h).1) g (says 7)
      (λ t g. accepted (box c) (λ n. not_refused n) g))
    where
      y : y_of (page_of p) c ≡ (made_of (page_of p) c).y
      y = ap (λ (b : Bool). cond b (made_of (page_of p) c).y (spot_of (page_of p) (cleaned c)).y) e

  put_exactly : (b : Bool) → eq (cleaned c).height zero+ ≡ b → Free Boxes 6
      → Outcome (Places (cond b (flat (page_of p) (ask_of (page_of p) (cleaned c)) (spot_of (page_of p) (cleaned c))) (high (page_of p) (ask_of (page_of p) (cleaned c)) (spot_of (page_of p) (cleaned c)) (made_of (page_of p) c)))) Boxes
  put_exactly true e f = flat_exactly (ap not e) f
  put_exactly false e f = high_exactly (ap not e) f

  box_exactly : Outcome (Refuses p q (box c)) Boxes
  unfolding place_of place checked_of admitted put
  box_exactly =
      ask (λ (r : PlaceResult). said_place r.answer) (box c) (λ n. refl)
      (λ f. tested Places 5 (not_below (length (page_of p).boxes) 64) boxes_full row_5 (gap 4 (λ h. elim h [ ]) f) (says 5)
      (λ t g. put_exactly (eq (cleaned c).height zero+) refl g))

-- ---- the calculator
module _ (p : FloatContext) (w : Float) (s k : ℕ) where
  abbrev Adds : Option FloatIntrinsicWidthCalculator → ℕ → Type 0
  Adds q = Applies (page_of p) q (add_box w s k)

  row_6 : (c : FloatIntrinsicWidthCalculator) → Adds (Some c) 6 → (c.available ≢ AvailableSpace.MinContent) × Any Passes (sums c w s k)
  row_6 c (sums_too_far d e n h) = let i : d ≡ c = cc in subst (λ (x : FloatIntrinsicWidthCalculator). (x.available ≢ AvailableSpace.MinContent) × Any Passes (sums x w s k)) i (n, h)

  row_8 : (c : FloatIntrinsicWidthCalculator) → ¬ Adds (Some c) 8
  row_8 c (none_to_add_to e) = let z : ◌≡◌ {A = ℕ} 0 1 = cc in omega arith

  no_sums : ¬ Adds None 6
  no_sums (sums_too_far d e n h) = let z : ◌≡◌ {A = ℕ} 0 1 = cc in omega arith

  to_6 : {q : Option FloatIntrinsicWidthCalculator} → Free (Adds q) 4 → Free (Adds q) 6
  to_6 f = gap 5 (λ h. elim h [ ]) (gap 4 (λ h. elim h [ ]) f)

  to_9 : {c : FloatIntrinsicWidthCalculator} → Free (Adds (Some c)) 7 → Free (Adds (Some c)) 9
  to_9 {c} f = gap 8 (row_8 c) (gap 7 (λ h. elim h [ ]) f)

  -- the two sums l and r of a calculator that keeps them
  summed_exactly : (c : FloatIntrinsicWidthCalculator) → c.available ≢ AvailableSpace.MinContent → Free (Adds (Some c)) 4
      → Outcome (λ n. said_done (added_sums c (plus_zero w) (side_of s) (clear_of k)).answer ≡ refused n) (Adds (Some c))
  unfolding added_sums top
  summed_exactly c e f =
      tested (λ (r : Added) n. said_done r.answer ≡ refused n) 6 (passing_three l r (add binary32 l r)) (sums_too_far c refl e) (λ h. (row_6 c h).1) (to_6 f) (says 6)
      (λ t g. accepted (add_box w s k) (λ n. not_refused n) (to_9 g))
    where
      l : Float
      l = plus_on (side_of s) FloatDirection.Left (zeroed (clear_of k) FloatDirection.Left c.left_sum) (plus_zero w)

      r : Float
      r = plus_on (side_of s) FloatDirection.Right (zeroed (clear_of k) FloatDirection.Right c.right_sum) (plus_zero w)

  added_exactly : (c : FloatIntrinsicWidthCalculator) (a : AvailableSpace) → c.available ≡ a → Free (Adds (Some c)) 4 → Outcome (λ n. said_done (added c (plus_zero w) (side_of s) (clear_of k) a).answer ≡ refused n) (Adds (Some c))
  unfolding added top
  added_exactly c AvailableSpace.MinContent e f = accepted (add_box w s k) (λ n. not_refused n) (to_9 (gap 6 (λ h. (row_6 c h).0 e) (to_6 f)))
  added_exactly c AvailableSpace.MaxContent e f = summed_exactly c (λ d. let z : ◌≡◌ {A = ℕ} 0 1 = cc in omega arith) f
  added_exactly c (AvailableSpace.Definite a) e f = summed_exactly c (λ d. let z : ◌≡◌ {A = ℕ} 0 1 = cc in omega arith) f

  add_exactly : (q : Option FloatIntrinsicWidthCalculator) → Outcome (Refuses p q (add_box w s k)) (Adds q)
  unfolding add_of add_to
  add_exactly (Some c) = ask (λ (r : Added). said_done r.answer) (add_box w s k) (λ n. refl) (added_exactly c c.available refl)
  add_exactly None = checked (page_of p) None (add_box w s k) (λ t n. refused_line (not_added t) ≡ refusal n) line_says (λ f. one 8 (line_says Refusal.NoCalculator) (none_to_add_to refl, gap 7 (λ h. elim h [ ]) (gap 6 no_sums (to_6 f))))

-- ---- the tape
module _ (p : FloatContext) where
  asks : {q : Option FloatIntrinsicWidthCalculator} {m : ℕ} → Applies (page_of p) q result m → (m ≡ 8) × (q ≡ None)
  asks (unknown_code h) = absurd h
  asks (not_finite h) = absurd h
  asks (out_of_limits h) = absurd h
  asks (none_to_ask e) = (refl, e)

  result_exactly : (q : Option FloatIntrinsicWidthCalculator) → Outcome (Refuses p q result) (Applies (page_of p) q result)
  unfolding result_line
  result_exactly (Some c) = none (λ n e. let z : ◌≡◌ {A = ℕ} 73 82 = cc in omega arith) (λ m h. let e : Some c ≡ None = (asks h).1 in let z : ◌≡◌ {A = ℕ} 0 1 = cc in omega arith)
  result_exactly None = one 8 (line_says Refusal.NoCalculator) (none_to_ask refl, λ m l h. omega (arith, (asks h).0))

  room : {q : Option FloatIntrinsicWidthCalculator} {t a : List ℕ} {m : ℕ} → Applies (page_of p) q (lines t a) m → (m ≡ 13) × (length a < length (lines_of t))
  room (unknown_code h) = absurd h
  room (not_finite h) = absurd h
  room (out_of_limits h) = absurd h
  room (no_room h) = (refl, h)

  lines_exactly : (q : Option FloatIntrinsicWidthCalculator) (t a : List ℕ) → Outcome (Refuses p q (lines t a)) (Applies (page_of p) q (lines t a))
  unfolding returned top
  lines_exactly q t a =
      tested (λ z n. said_returned z ≡ refused n) {b = leb (length (lines_of t)) (length a)} {x = pos (length (lines_of t))} {y = neg_ℤ (pos 13)} 13 (not_above (length (lines_of t)) (length a)) no_room (λ h. (room h).1) (λ m l h. omega (arith, (room h).0)) (says 13)
      (λ u g. accepted (lines t a) (λ n. not_refused n) g)

-- ---- every call
outcome : (p : FloatContext) (q : Option FloatIntrinsicWidthCalculator) (a : Asked) → Outcome (Refuses p q a) (Applies (page_of p) q a)
outcome p q (width w) = width_exactly p q w
outcome p q (active y) = active_exactly p q y
outcome p q (box c) = box_exactly p q c
outcome p q (content c) = content_exactly p q c
outcome p q (bfc c) = bfc_exactly p q c
outcome p q (threshold k) = threshold_exactly p q k
outcome p q (innermost i s) = innermost_exactly p q i s
outcome p q (start m) = start_exactly p q m
outcome p q (add_box w s k) = add_exactly p w s k q
outcome p q result = result_exactly p q
outcome p q (lines t a) = lines_exactly p q t a

pub refused_exactly_when : (p : FloatContext) (q : Option FloatIntrinsicWidthCalculator) (a : Asked) (n : ℕ) → Refuses p q a n ↔ Lowest (Applies (page_of p) q a) n
refused_exactly_when p q a = exactly (outcome p q a)
