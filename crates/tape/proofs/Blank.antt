-- A run leaves the places of a page's arrays past its counts blank: no call takes a band or a box away, so what is stored over a page is stored over a fresh one.
use Rattle.std.proofs.Common.{◌≡◌, ℕ, zero, suc, le_refl, ap₂, ◌≤◌, List, [], ◌∷◌, ◌++◌, length, get_or, take, drop, replicate, min, sym, refl, ap, ◌∙◌, arith, length-append, length-take, length-take-le, Result, Ok, Err}
use Rattle.std.specs.Prelude.{⊤, nat_lt}
use mathlib.Core.Path.{subst⁻¹}
use Rattle.std.proofs.lemmas.Slice.{drop-append-drop}
use lib.Ieee.{Float, eq, lt, add, binary32}
use lib.Seq.{take-append_seam}
use Rattle.float.specs.declared.FloatContext.{FloatContext}
use Rattle.float.specs.declared.PlacedFloatedBox.{PlacedFloatedBox}
use Rattle.float.specs.declared.Position.{Position}
use Rattle.float.specs.declared.Refusal.{Refusal}
use Rattle.float.specs.declared.Segment.{Segment}
use Rattle.float.specs.declared.fit.Ask.{Ask}
use Rattle.float.specs.declared.search.Spot.{Spot}
use Rattle.f32_laws.specs.Numbers.{larger, zero+}
use Rattle.float.specs.Bands.{none, bare, split_at}
use Rattle.float.specs.Page.{Page, page_of, front, stored, fresh_context}
use Rattle.float.specs.Numbers.{plus_zero}
use Rattle.float.specs.Place.{Call, Made, cleaned, ask_of, spot_of, seed, end_of, inside, gapped, below_all, walked, ended, past_last, started_at, make, place, placed_page, place_of, if_done, width_check, with_width, width_of}
use Rattle.float.proofs.Make.{length_mark}
use Rattle.demands.proofs.Ways.{place_ways}
use Rattle.f32_laws.proofs.Tests.{both}
use Rattle.tape.specs.declared.record.Record.{Record}
use Rattle.tape.specs.declared.step.State.{State}
use Rattle.tape.specs.declared.line.Out.{Out}
use Rattle.tape.specs.Put.{Blank, Tells}
use Rattle.tape.specs.Tape.{fresh_state, step_of}

-- ---- what is stored over what was stored over an array
front_over : {A : Type 0} (l m a : List A) → length l ≤ length m → front m (front l a) ≡ front m a
unfolding front
front_over l m a h = ap (λ (r : List _). m ++ r) (drop-append-drop (length l) a l (length m) h refl)

-- ---- no call takes a band or a box away
abbrev Holds : Page → Page → Type 0
Holds p q = (length p.bands ≤ length q.bands) × (length p.boxes ≤ length q.boxes)

split_more : (l : List Segment) (i : ℕ) (y : Float) → length l ≤ length (split_at l i y)
unfolding split_at
split_more [] i y = omega arith
split_more (b ∷ bs) zero y = omega arith
split_more (b ∷ bs) (suc i) y = let h = split_more bs i y in omega arith

abbrev More : List Segment → Made → Type 0
More l m = length l ≤ length m.bands

ended_more : (k l : List Segment) (s e : ℕ) (y bottom : Float) → length k ≤ length l → More k (ended l s e y bottom)
ended_more k l s e y bottom h = both (More k) (inside (get_or l e none) bottom) (λ t. let x = split_more l e bottom in omega arith) (λ t. h)

past_more : (a : Ask) (k l : List Segment) (s : ℕ) (y bottom : Float) → length k ≤ length l → More k (past_last a l s y bottom)
past_more a k l s y bottom h = both (More k) (lt (end_of l) bottom) (λ t. let x = length-append l (seed a (end_of l) bottom ∷ []) in omega arith) (λ t. h)

started_more : (a : Ask) (k l : List Segment) (s e : ℕ) (y : Float) → length k ≤ length l → More k (started_at a l s e y)
started_more a k l s e y h =
    let bottom = add binary32 y a.height in
    both (More k) (nat_lt e (length l)) (λ t. ended_more k l s (walked l s bottom e) y bottom h) (λ t. past_more a k l s y bottom h)

gapped_more : (l : List Segment) (z y : Float) → length l ≤ length (gapped l z y)
gapped_more l z y = both (λ (m : List Segment). length l ≤ length m) (lt z y) (λ t. let x = length-append l (bare z y zero+ zero+ ∷ []) in omega arith) (λ t. le_refl (length l))

below_more : (a : Ask) (l : List Segment) (z y : Float) → More l (below_all a l z y)
below_more a l z y = let x = gapped_more l z y in let e = length-append (gapped l z y) (seed a (larger z y) (add binary32 (larger z y) a.height) ∷ []) in omega arith

made_more : (a : Ask) (l : List Segment) (p : Spot) → More l (make a l p)
unfolding make
made_more a l p =
    both (More l) (nat_lt p.start (length l))
    (λ t. both (More l) (eq p.y (get_or l p.start none).start) (λ u. started_more a l l p.start p.end p.y (le_refl (length l))) (λ u. started_more a l (split_at l p.start p.y) (suc p.start) (suc p.end) p.y (split_more l p.start p.y)))
    (λ t. below_more a l (end_of l) p.y)

-- on pages
boxes_more : (l : List PlacedFloatedBox) (b : PlacedFloatedBox) → length l ≤ length (l ++ b ∷ [])
boxes_more l b = let x = length-append l (b ∷ []) in omega arith

place_more : (p : Page) (c : Call) → Holds p (place p c).page
place_more p c =
    let a = ask_of p (cleaned c) in
    let s = spot_of p (cleaned c) in
    let m = make a p.bands s in
    place_ways (λ r. Holds p r.page) p c (λ n. (le_refl _, le_refl _)) (le_refl _, boxes_more p.boxes _)
    (let x = made_more a p.bands s in let y = length_mark a.side (add binary32 s.inset a.width) (length p.boxes) m.bands m.start m.end in (omega arith, boxes_more p.boxes _))

-- ---- so what is stored over such a page is stored over a fresh one
stored_over : (q : Page) (p : FloatContext) → Blank p → Holds (page_of p) q → stored q p ≡ stored q fresh_context
unfolding stored
stored_over q p b h =
    ap (λ (z : FloatContext). stored q z) b
    ∙ ap₂ (λ (x : List Segment) (y : List _). record { width = q.width; bands = x; count = length q.bands; boxes = y; box_count = length q.boxes; left_bottom = q.left_bottom; right_bottom = q.right_bottom; ceiling = q.ceiling; depth = q.depth; left_first = q.left_first; right_first = q.right_first })
    (front_over (page_of p).bands q.bands fresh_context.bands h.0)
    (front_over (page_of p).boxes q.boxes fresh_context.boxes h.1)

page_stored : (q : Page) (p : FloatContext) → page_of (stored q p) ≡ q
unfolding page_of stored front
page_stored q p = simp take-append_seam

blank_stored : (q : Page) (p : FloatContext) → Blank p → Holds (page_of p) q → Blank (stored q p)
blank_stored q p b h = stored_over q p b h ∙ sym (ap (λ (z : Page). stored z fresh_context) (page_stored q p))

blank_placed : (p : FloatContext) (c : Call) → Blank p → Blank (place_of p c).page
unfolding place_of
blank_placed p c b = go (place (page_of p) c).answer (place_more (page_of p) c)
  where
    go : (a : Result Position Refusal) → Holds (page_of p) (place (page_of p) c).page → Blank (placed_page a (place (page_of p) c).page p)
    go (Ok s) h = blank_stored (place (page_of p) c).page p b h
    go (Err n) h = b

blank_widened : (p : FloatContext) (w : Float) → Blank p → Blank (width_of p w).page
unfolding width_of
blank_widened p w b = go (width_check (page_of p).boxes (plus_zero w))
  where
    go : (d : Result ⊤ Refusal) → Blank (if_done d (stored (with_width (page_of p) (plus_zero w)) p) p)
    go (Ok _) = blank_stored (with_width (page_of p) (plus_zero w)) p b (le_refl _, le_refl _)
    go (Err n) = b

-- ---- and a run's
pub blank_fresh : Blank fresh_state.page
unfolding fresh_state fresh_context stored page_of front
blank_fresh = refl

pub blank_after : (s : State) (r : Record) → Blank s.page → Blank (step_of s r).after.page
unfolding step_of
blank_after s Record.Fresh b = blank_fresh
blank_after s (Record.Width w) b = blank_widened s.page w b
blank_after s (Record.Place side clear w h y l r) b = blank_placed s.page _ b
blank_after s (Record.Content y l r clear after) b = b
blank_after s (Record.Bfc y l r ml mr d clear after) b = b
blank_after s (Record.Start mode) b = b
blank_after s (Record.Add w side clear) b = b
blank_after s Record.Result b = b

pub blank_told : (s : State) (r : Record) {t : State} {o p : Out} → Tells (step_of s r) t o p → Blank s.page → Blank t.page
blank_told s r h b = subst⁻¹ (λ (x : State). Blank x.page) h.after (blank_after s r b)

pub blank_new : {s : State} → s ≡ fresh_state → Blank s.page
blank_new e = subst⁻¹ (λ (x : State). Blank x.page) e blank_fresh

-- ---- a fresh page where a blank one lies
refilled : {A : Type 0} (n m : ℕ) (d : A) → n ≤ m → replicate n d ++ drop n (replicate m d) ≡ replicate m d
refilled zero m d h = refl
refilled (suc n) zero d h = absurd (omega arith)
refilled (suc n) (suc m) d h = ap (λ (l : List _). d ∷ l) (refilled n m d (omega arith))

-- n places of an array of m are filled anew, and the others are blank: all are
module _ {A : Type 0} (xs : List A) (c m n : ℕ) (d : A) (len : length xs ≡ m) (blank : xs ≡ front (take c xs) (replicate m d)) (live : n ≡ min c m) where
  dead : drop n xs ≡ drop n (replicate m d)
  unfolding front
  dead = let k = length-take c xs in ap (drop n) blank ∙ drop-append-drop (length (take c xs)) (replicate m d) (take c xs) n (omega arith) refl

  pub all_blank : {e : A} {f : List A} → e ≡ d → f ≡ replicate (length (take n xs)) e → f ++ drop n xs ≡ replicate m d
  all_blank g h =
      ap₂ (λ (l r : List A). l ++ r) (h ∙ ap₂ (λ (k : ℕ) (x : A). replicate k x) (length-take-le n xs (omega arith)) g) dead
      ∙ refilled n m d (omega arith)

module _ (p : FloatContext) (b : Blank p) where
  pub bands_left : p.bands ≡ front (take p.count p.bands) fresh_context.bands
  unfolding stored page_of
  bands_left = ap (λ (x : FloatContext). x.bands) b

  pub boxes_left : p.boxes ≡ front (take p.box_count p.boxes) fresh_context.boxes
  unfolding stored page_of
  boxes_left = ap (λ (x : FloatContext). x.boxes) b
