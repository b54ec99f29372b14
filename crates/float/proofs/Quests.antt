-- What a holder that looks among its own bands answers is what the page answers: a band found below the raised height proves that floats are active, so the search lands where the definition's does.
use Rattle.std.proofs.Common.{◌≡◌, ℕ, zero, suc, ◌-◌, ◌<◌, ◌≤◌, min, Bool, true, false, cond, ◌&&◌, ltb, List, [], ◌∷◌, length, get_or, take, sym, refl, ap, ◌∙◌, subst, ap₂, true≢false, suc-le-suc, zero-le, le_of_suc-le-suc, not-suc-le-zero, arith, length-take-le, get_or-take, ltb-false, ltb-true, le-ltb, lt-ltb, Option, Result, Ok, Err}
use Rattle.std.specs.Prelude.{⊤}
use Rattle.std.specs.Result.{result_unwrap_or}
use lib.Ieee.{Float, binary32, add, lt}
use Rattle.float.specs.declared.BfcSlot.{BfcSlot}
use Rattle.float.specs.declared.Clear.{Clear}
use Rattle.float.specs.declared.ContentSlot.{ContentSlot}
use Rattle.float.specs.declared.Direction.{Direction}
use Rattle.float.specs.declared.FloatContext.{FloatContext}
use Rattle.float.specs.declared.Head.{Head}
use Rattle.float.specs.declared.PlacedFloatedBox.{PlacedFloatedBox}
use Rattle.float.specs.declared.Refusal.{Refusal}
use Rattle.float.specs.declared.Segment.{Segment}
use Rattle.float.specs.declared.ask.Quest.{Quest}
use Rattle.float.specs.declared.bfc.BfcInsets.{BfcInsets}
use Rattle.float.specs.declared.slot.Sought.{Sought}
use Rattle.float.specs.Numbers.{size, offset, plus_zero}
use Rattle.float.specs.Refuse.{clear_of, direction_of, check_of}
use Rattle.float.specs.Bands.{none, first_below, last_end}
use Rattle.float.specs.Page.{Page, page_of, max_bands}
use Rattle.float.specs.Head.{page_with, head_of}
use Rattle.float.specs.Clear.{raise_to, cleared}
use Rattle.float.specs.Slot.{active, from, landed, seek, ContentCall, content_cleaned, content_check, content_slot, content, BfcCall, bfc_cleaned, bfc_check, bfc_insets, bfc_slot, bfc}
use Rattle.float.specs.Quest.{quest_of, content_quest, bfc_quest, Asks, Found, landing}
use Rattle.float.proofs.Bands.{below_length, clamped}
use Rattle.float.proofs.Front.{take_min}
use Rattle.float.proofs.Make.{last_end_at}
use Rattle.float.proofs.Raised.{raised_below}

-- ---- the first band below a height

-- it ends below it
below_ends : (y : Float) (l : List Segment) (f : ℕ) → first_below l f y < length l → lt y (get_or l (first_below l f y) none).end ≡ true
unfolding first_below
below_ends y [] f h = absurd (not-suc-le-zero h)
below_ends y (b ∷ bs) zero h = go (lt y b.end) refl (below_ends y bs zero) h
  where
    go : (t : Bool) → lt y b.end ≡ t → (first_below bs zero y < length bs → lt y (get_or bs (first_below bs zero y) none).end ≡ true) → (elim t [ true ↦ 0 | false ↦ suc (first_below bs zero y) ]) < suc (length bs) → lt y (get_or (b ∷ bs) (elim t [ true ↦ 0 | false ↦ suc (first_below bs zero y) ]) none).end ≡ true
    go true e k h = e
    go false e k h = k (le_of_suc-le-suc h)
below_ends y (b ∷ bs) (suc f) h = below_ends y bs f (le_of_suc-le-suc h)

-- and none before it does
below_least : (y : Float) (l : List Segment) (i : ℕ) → i < length l → lt y (get_or l i none).end ≡ true → first_below l 0 y ≤ i
unfolding first_below
below_least y [] i h t = absurd (not-suc-le-zero h)
below_least y (b ∷ bs) i h t = go i (lt y b.end) refl (below_least y bs) h t
  where
    go : (i : ℕ) (v : Bool) → lt y b.end ≡ v → ((j : ℕ) → j < length bs → lt y (get_or bs j none).end ≡ true → first_below bs zero y ≤ j) → i < suc (length bs) → lt y (get_or (b ∷ bs) i none).end ≡ true → (elim v [ true ↦ 0 | false ↦ suc (first_below bs zero y) ]) ≤ i
    go i true e k h t = zero-le
    go zero false e k h t = absurd (true≢false (sym t ∙ e))
    go (suc i) false e k h t = suc-le-suc (k i (le_of_suc-le-suc h) t)

-- ---- where the search lands, by the two looks

-- z is y raised, i what the first look found among the bands from f on, k what the second found
module _ (l : List Segment) (f : ℕ) (y z : Float) (raised : (e : Float) → lt z e ≡ true → lt y e ≡ true) {i k : ℕ} (at : i ≡ first_below l f z) (lower : i ≡ length l → k ≡ first_below l 0 y) where
  found_active : i < length l → active l y ≡ true
  unfolding active
  found_active h =
      let n : first_below l f z < length l = omega arith in
      let e : lt y (get_or l i none).end ≡ true = raised (get_or l i none).end (rw at (below_ends z l f n)) in
      lt-ltb (first_below l 0 y) (length l) (omega (arith, below_least y l i h e))

  pub lands : cond (ltb i (length l)) (Sought.At i z) (cond (ltb k (length l)) (Sought.Past z) (Sought.Quiet y)) ≡ cond (active l y) (landed l (first_below l f z) z) (Sought.Quiet y)
  unfolding active
  lands = go (ltb i (length l)) refl
    where
      go : (t : Bool) → ltb i (length l) ≡ t → cond (ltb i (length l)) (Sought.At i z) (cond (ltb k (length l)) (Sought.Past z) (Sought.Quiet y)) ≡ cond (active l y) (landed l (first_below l f z) z) (Sought.Quiet y)
      go true e = rw (← at, e, found_active (ltb-true i (length l) e))
      go false e =
          let h : i ≡ length l = omega (arith, ltb-false i (length l) e, below_length z l f) in
          rw (← at, e, lower h)

-- ---- a head with its arrays

abbrev pub page_in : Head → List Segment → List PlacedFloatedBox → Page
page_in h bs xs = page_of (page_with h bs xs)

module _ (h : Head) (bs : List Segment) (xs : List PlacedFloatedBox) where
  -- clearing reads no band
  cleared_alike : (c : Clear) → cleared (page_in h [] []) c ≡ cleared (page_in h bs xs) c
  unfolding cleared page_of
  cleared_alike Clear.None = refl
  cleared_alike Clear.Left = refl
  cleared_alike Clear.Right = refl
  cleared_alike Clear.Both = refl

  module _ (len : length bs ≡ 96) where
    live : (page_in h bs xs).bands ≡ take (min h.count 96) bs
    unfolding page_of
    live = sym (take_min bs h.count 96 len)

    live_length : length (page_in h bs xs).bands ≡ min h.count 96
    live_length = ap length live ∙ length-take-le (min h.count 96) bs (omega arith)

    module _ (c : Clear) (after : Option ℕ) (y : Float) {i k : ℕ} where
      seeks : Found bs (quest_of h c after y) i k → landing (quest_of h c after y) i k ≡ seek (page_in h bs xs) c after y
      unfolding seek
      seeks f =
          let p = page_in h bs xs in
          let n = min h.count 96 in
          let at : i ≡ first_below p.bands (from after) (raise_to y (cleared p c)) =
          f.at
          ∙ ap (λ (b : Option Float). first_below (take n bs) (min (from after) n) (raise_to y b)) (cleared_alike c)
          ∙ ap (λ (l : List Segment). first_below l (min (from after) n) (raise_to y (cleared p c))) (sym live)
          ∙ ap (λ (m : ℕ). first_below p.bands (min (from after) m) (raise_to y (cleared p c))) (sym live_length)
          ∙ clamped p.bands (from after) (raise_to y (cleared p c)) in
          let lower : i ≡ length p.bands → k ≡ first_below p.bands 0 y = λ e. f.lower (e ∙ live_length) ∙ ap (λ (l : List Segment). first_below l 0 y) (sym live) in
          ap₂ (λ (m : ℕ) (b : Option Float). cond (ltb i m) (Sought.At i (raise_to y b)) (cond (ltb k m) (Sought.Past (raise_to y b)) (Sought.Quiet y))) (sym live_length) (cleared_alike c)
          ∙ lands p.bands (from after) y (raise_to y (cleared p c)) (raised_below y (cleared p c)) at lower

      sought : {q : Quest} → quest_of h c after y ≡ q → Found bs q i k → landing q i k ≡ seek (page_in h bs xs) c after y
      sought {q} e f = ap (λ (q : Quest). landing q i k) (sym e) ∙ seeks (subst (λ (q : Quest). Found bs q i k) (sym e) f)

-- a page is its head with its arrays
module _ (p : FloatContext) {h : Head} (e : h ≡ head_of p) where
  page_whole : page_in h p.bands p.boxes ≡ page_of p
  unfolding page_of
  page_whole = ap (λ (h : Head). page_in h p.bands p.boxes) e

  pub content_whole : (c : ContentCall) {r : Result ContentSlot Refusal} → content (page_in h p.bands p.boxes) c ≡ r → r ≡ content (page_of p) c
  content_whole c f = sym (rw page_whole at f)

  pub bfc_whole : (c : BfcCall) {r : Result BfcSlot Refusal} → bfc (page_in h p.bands p.boxes) c ≡ r → r ≡ bfc (page_of p) c
  bfc_whole c f = sym (rw page_whole at f)

-- ---- what is looked for

min_again : (a m n : ℕ) → n ≤ m → min (min a m) n ≡ min a n
min_again a m n h = omega arith

pub quest_made : (h : Head) (c : Clear) (after : Option ℕ) (y : Float) {n m f : ℕ} {b : Option Float} {z : Float} → n ≡ min h.count 96 → m ≡ min (from after) max_bands → f ≡ min m n → b ≡ cleared (page_in h [] []) c → z ≡ raise_to y b → (n ≤ 96) × (f ≤ n) × (record { n = n; from = f; above = z; y = y } ≡ quest_of h c after y)
quest_made h c after y {n} {m} {f} en em ef eb ez =
    let e : f ≡ min (from after) (min h.count 96) = ef ∙ rw (em, en) (min_again (from after) 96 (min h.count 96) (omega arith)) in
    (omega arith, omega arith, cc)

-- ---- what a check lets through, or its refusal

abbrev pub Said : {A : Type 0} → Result ⊤ Refusal → A → Result A Refusal
Said k v = elim k [ Ok _ ↦ Ok v | Err n ↦ Err n ]

said_ok : {A : Type 0} (k : Result ⊤ Refusal) (v : A) {t : A} → Said k v ≡ Ok t → (k ≡ Ok tt) × (v ≡ t)
said_ok (Ok _) v e = (refl, cc)
said_ok (Err n) v e = cc

said_err : {A : Type 0} (k : Result ⊤ Refusal) (v : A) {n : Refusal} → Said k v ≡ Err n → k ≡ Err n
said_err (Ok _) v e = cc
said_err (Err n) v e = cc

-- a question and its first phase wait for one check; w is what the check answered
module _ {A B : Type 0} {question : Page → Result A Refusal} (f : Page → A) {q : Result Quest Refusal} (k : Result ⊤ Refusal) (x : Quest) (eq : q ≡ Said k x) (ea : (p : Page) → question p ≡ Said k (f p)) (v : B) {w : Result B Refusal} (ew : w ≡ Said k v) where
  asks_no : {n : Refusal} → w ≡ Err n → {r : Result Quest Refusal} → r ≡ Err n → Asks question q r
  asks_no {n} e {r} er =
      let no : k ≡ Err n = said_err k v (sym ew ∙ e) in
      record {
        is = er ∙ sym (eq ∙ ap (λ (k : Result ⊤ Refusal). Said k x) no);
        live = rw er tt;
        refused = λ m g p. let same : n ≡ m = cc (er, g) in ea p ∙ ap (λ (k : Result ⊤ Refusal). Said k (f p)) no ∙ ap Err same;
      }

  asks_yes : {t : B} → w ≡ Ok t → {o : Quest} → o.n ≤ 96 → o.from ≤ o.n → o ≡ x → Asks question q (Ok o)
  asks_yes {t} e few within eo =
      let yes : k ≡ Ok tt = (said_ok k v (sym ew ∙ e)).0 in
      record {
        is = ap Ok eo ∙ sym (eq ∙ ap (λ (k : Result ⊤ Refusal). Said k x) yes);
        live = (few, within);
        refused = λ m g p. cc;
      }

-- ---- where the code of `landed` lands, by its two tests

module _ (i : ℕ) (y z : Float) where
  at_told : (a t : Bool) {m : ℕ} {w : Float} → cond a (Sought.At i z) (cond t (Sought.Past z) (Sought.Quiet y)) ≡ Sought.At m w → (a ≡ true) × (i ≡ m)
  at_told true t e = (refl, cc)
  at_told false true e = let n : ◌≡◌ {A = ℕ} 0 1 = cc in absurd (omega arith)
  at_told false false e = let n : ◌≡◌ {A = ℕ} 0 1 = cc in absurd (omega arith)

  past_told : (a t : Bool) {w : Float} → cond a (Sought.At i z) (cond t (Sought.Past z) (Sought.Quiet y)) ≡ Sought.Past w → t ≡ true
  past_told true t e = let n : ◌≡◌ {A = ℕ} 0 1 = cc in absurd (omega arith)
  past_told false true e = refl
  past_told false false e = let n : ◌≡◌ {A = ℕ} 0 1 = cc in absurd (omega arith)

-- ---- what is answered

-- what the holder read is what the page holds, where it is looked at
module _ (h : Head) (bs : List Segment) (xs : List PlacedFloatedBox) (len : length bs ≡ 96) (q : Quest) (en : q.n ≡ min h.count 96) (i k : ℕ) {s : Sought} (es : s ≡ landing q i k) where
  band_read : {b : Segment} → b ≡ get_or bs (min i 95) none → (m : ℕ) (y : Float) → s ≡ Sought.At m y → b ≡ get_or (page_in h bs xs).bands m none
  band_read eb m y e =
      let t = at_told i q.y q.above (ltb i q.n) (ltb k q.n) (sym es ∙ e) in
      let g : i < min h.count 96 = omega (arith, ltb-true i q.n t.0) in
      let u : min i 95 ≡ i = omega arith in
      eb
      ∙ ap (λ (j : ℕ). get_or bs j none) u
      ∙ sym (get_or-take (min h.count 96) bs i none g)
      ∙ ap₂ (λ (l : List Segment) (j : ℕ). get_or l j none) (sym (live h bs xs len)) t.1

  last_read : {b : Segment} → b ≡ get_or bs (q.n - min q.n 1) none → (y : Float) → s ≡ Sought.Past y → b.end ≡ last_end y (page_in h bs xs).bands
  last_read eb y e =
      let g : 0 < q.n = omega (arith, ltb-true k q.n (past_told i q.y q.above (ltb i q.n) (ltb k q.n) (sym es ∙ e))) in
      let u : q.n - min q.n 1 ≡ q.n - 1 = omega arith in
      ap (λ (b : Segment). b.end) (eb ∙ ap (λ (j : ℕ). get_or bs j none) u)
      ∙ last_end_at bs q.n y (omega arith) g
      ∙ ap (last_end y) (ap (λ (n : ℕ). take n bs) en ∙ sym (live h bs xs len))

-- ---- a content question

-- both phases wait for its check
module _ (c : ContentCall) where
  content_waits : (p : Page) → content p c ≡ Said (content_check (content_cleaned c)) (content_slot p (record { left = plus_zero c.left; right = plus_zero c.right }) (seek p (clear_of c.clear) c.after (plus_zero c.min_y)))
  unfolding content
  content_waits p = refl

  module _ (h : Head) where
    content_quest_waits : content_quest h c ≡ Said (content_check (content_cleaned c)) (quest_of h (clear_of c.clear) c.after (plus_zero c.min_y))
    unfolding content_quest
    content_quest_waits = refl

    -- w is what the check of the cleaned numbers answered
    module _ {y l r : Float} (ey : y ≡ plus_zero c.min_y) (el : l ≡ plus_zero c.left) (er : r ≡ plus_zero c.right) {w : Result Clear Refusal} (ew : w ≡ Said (check_of (ltb c.clear 4) (offset y ∷ size l ∷ size r ∷ [])) (clear_of c.clear)) where
      content_checked : w ≡ Said (content_check (content_cleaned c)) (clear_of c.clear)
      content_checked = let k : check_of (ltb c.clear 4) (offset y ∷ size l ∷ size r ∷ []) ≡ content_check (content_cleaned c) = cc in ew ∙ ap (λ (k : Result ⊤ Refusal). Said k (clear_of c.clear)) k

      pub content_not_asked : {n : Refusal} → w ≡ Err n → {q : Result Quest Refusal} → q ≡ Err n → Asks (λ p. content p c) (content_quest h c) q
      content_not_asked e eq = asks_no _ _ _ content_quest_waits content_waits _ content_checked e eq

      pub content_asks : {s : Clear} → w ≡ Ok s → {q : Quest} → (q.n ≤ 96) × (q.from ≤ q.n) × (q ≡ quest_of h s c.after y) → Asks (λ p. content p c) (content_quest h c) (Ok q)
      content_asks {s} e g =
          let m : clear_of c.clear ≡ s = (said_ok _ _ (sym content_checked ∙ e)).1 in
          asks_yes _ _ _ content_quest_waits content_waits _ content_checked e g.0 g.1 (g.2 ∙ rw (← m, ey) (refl))

    -- q is what was looked for, s where the search landed, b the band that was read there
    module _ (bs : List Segment) (xs : List PlacedFloatedBox) (len : length bs ≡ 96) {q : Quest} (eq : content_quest h c ≡ Ok q) {i k : ℕ} {s : Sought} (es : s ≡ landing q i k) (f : Found bs q i k) {b : Segment} (eb : b ≡ get_or bs (min i 95) none) where
      pub content_answered : {o : ContentSlot} {l r x y : Float} → c.left ≡ x → c.right ≡ y → l ≡ plus_zero x → r ≡ plus_zero y → ((p : Page) → p.width ≡ h.width → ((m : ℕ) (y : Float) → s ≡ Sought.At m y → b ≡ get_or p.bands m none) → o ≡ content_slot p (record { left = l; right = r }) s) → content (page_in h bs xs) c ≡ Ok o
      unfolding page_of
      content_answered {o} {l} {r} el er fl fr slot =
          let p = page_in h bs xs in
          let t = said_ok _ _ (sym content_quest_waits ∙ eq) in
          let a : s ≡ seek p (clear_of c.clear) c.after (plus_zero c.min_y) = es ∙ sought h bs xs len (clear_of c.clear) c.after (plus_zero c.min_y) t.1 f in
          let e : o ≡ content_slot p (record { left = l; right = r }) s = slot p refl (band_read h bs xs len q (sym (ap (λ (q : Quest). q.n) t.1)) i k es eb) in
          let u : l ≡ plus_zero c.left = cc in
          let v : r ≡ plus_zero c.right = cc in
          content_waits p
          ∙ ap (λ (k : Result ⊤ Refusal). Said k (content_slot p (record { left = plus_zero c.left; right = plus_zero c.right }) (seek p (clear_of c.clear) c.after (plus_zero c.min_y)))) t.0
          ∙ ap Ok (sym (e ∙ ap₂ (content_slot p) (ap₂ (λ (a b : Float). record { left = a; right = b }) u v) a))

-- ---- a BFC question, the same way

module _ (c : BfcCall) where
  bfc_waits : (p : Page) → bfc p c ≡ Said (bfc_check (bfc_cleaned c)) (bfc_slot p (direction_of c.direction) (bfc_insets (bfc_cleaned c)) (seek p (clear_of c.clear) c.after (plus_zero c.min_y)))
  unfolding bfc
  bfc_waits p = refl

  module _ (h : Head) where
    bfc_quest_waits : bfc_quest h c ≡ Said (bfc_check (bfc_cleaned c)) (quest_of h (clear_of c.clear) c.after (plus_zero c.min_y))
    unfolding bfc_quest
    bfc_quest_waits = refl

    module _ {y l r ml mr : Float} (ey : y ≡ plus_zero c.min_y) (el : l ≡ plus_zero c.left) (er : r ≡ plus_zero c.right) (fl : ml ≡ plus_zero c.left_margin) (fr : mr ≡ plus_zero c.right_margin) {w : Result (Direction × Clear) Refusal} (ew : w ≡ Said {A = Direction × Clear} (check_of (ltb c.direction 2 && ltb c.clear 4) (offset y ∷ size l ∷ size r ∷ offset ml ∷ offset mr ∷ [])) (direction_of c.direction, clear_of c.clear)) where
      bfc_checked : w ≡ Said {A = Direction × Clear} (bfc_check (bfc_cleaned c)) (direction_of c.direction, clear_of c.clear)
      bfc_checked = let k : check_of (ltb c.direction 2 && ltb c.clear 4) (offset y ∷ size l ∷ size r ∷ offset ml ∷ offset mr ∷ []) ≡ bfc_check (bfc_cleaned c) = cc in ew ∙ ap (λ (k : Result ⊤ Refusal). Said {A = Direction × Clear} k (direction_of c.direction, clear_of c.clear)) k

      pub bfc_not_asked : {n : Refusal} → w ≡ Err n → {q : Result Quest Refusal} → q ≡ Err n → Asks (λ p. bfc p c) (bfc_quest h c) q
      bfc_not_asked e eq = asks_no _ _ _ bfc_quest_waits bfc_waits _ bfc_checked e eq

      pub bfc_asks : {t : Direction × Clear} → w ≡ Ok t → {q : Quest} → (q.n ≤ 96) × (q.from ≤ q.n) × (q ≡ quest_of h t.1 c.after y) → Asks (λ p. bfc p c) (bfc_quest h c) (Ok q)
      bfc_asks {t} e g =
          let m : clear_of c.clear ≡ t.1 = ap (λ (t : Direction × Clear). t.1) (said_ok _ _ (sym bfc_checked ∙ e)).1 in
          asks_yes _ _ _ bfc_quest_waits bfc_waits _ bfc_checked e g.0 g.1 (g.2 ∙ rw (← m, ey) (refl))

    module _ (bs : List Segment) (xs : List PlacedFloatedBox) (len : length bs ≡ 96) {q : Quest} (eq : bfc_quest h c ≡ Ok q) {i k : ℕ} {s : Sought} (es : s ≡ landing q i k) (f : Found bs q i k) {b last : Segment} (eb : b ≡ get_or bs (min i 95) none) (el : last ≡ get_or bs (q.n - min q.n 1) none) where
      -- d is what the direction's code means
      pub bfc_answered : {o : BfcSlot} {d : Direction} {j : BfcInsets} → d ≡ direction_of c.direction → j ≡ bfc_insets (bfc_cleaned c) → ((p : Page) → p.width ≡ h.width → ((m : ℕ) (y : Float) → s ≡ Sought.At m y → b ≡ get_or p.bands m none) → ((y : Float) → s ≡ Sought.Past y → last.end ≡ last_end y p.bands) → o ≡ bfc_slot p d j s) → bfc (page_in h bs xs) c ≡ Ok o
      unfolding page_of
      bfc_answered {o} {d} {j} ed ej slot =
          let p = page_in h bs xs in
          let t = said_ok _ _ (sym bfc_quest_waits ∙ eq) in
          let a : s ≡ seek p (clear_of c.clear) c.after (plus_zero c.min_y) = es ∙ sought h bs xs len (clear_of c.clear) c.after (plus_zero c.min_y) t.1 f in
          let en : q.n ≡ min h.count 96 = sym (ap (λ (q : Quest). q.n) t.1) in
          let e : o ≡ bfc_slot p d j s = slot p refl (band_read h bs xs len q en i k es eb) (last_read h bs xs len q en i k es el) in
          bfc_waits p
          ∙ ap (λ (k : Result ⊤ Refusal). Said k (bfc_slot p (direction_of c.direction) (bfc_insets (bfc_cleaned c)) (seek p (clear_of c.clear) c.after (plus_zero c.min_y)))) t.0
          ∙ ap Ok (sym (e ∙ cc (a, ed, ej)))

-- the direction as it is read: a code that is unknown is none of a question that is asked
pub direction_read : (n : ℕ) → result_unwrap_or (cond (ltb n 2) (Ok (direction_of n)) (Err Refusal.UnknownCode)) Direction.Rtl ≡ direction_of n
direction_read zero = refl
direction_read (suc zero) = refl
direction_read (suc (suc n)) = rw (le-ltb (suc (suc n)) 2 (omega arith)) (refl)

-- the insets as they are read, of what was handed in
pub insets_read : (c : BfcCall) {l r ml mr x y u v : Float} {j : BfcInsets} → c.left ≡ x → c.right ≡ y → c.left_margin ≡ u → c.right_margin ≡ v → l ≡ plus_zero x → r ≡ plus_zero y → ml ≡ plus_zero u → mr ≡ plus_zero v → j ≡ record { containing = record { left = l; right = r }; margin = record { left = add binary32 l ml; right = add binary32 r mr } } → j ≡ bfc_insets (bfc_cleaned c)
insets_read c ex ey eu ev el er fl fr ej = cc
