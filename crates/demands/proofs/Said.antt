use Rattle.std.specs.Prelude.{Option, Some, None, Result, Ok, Err, ⊤}
-- From the invariants to the words of the promises.
use mathlib.Core.Path.{◌≡◌, refl, sym, ap, ◌∙◌, subst}
use Prim.Native.Nat.{ℕ, ◌≤◌, ◌<◌}
use native.Mathlib.Decide.{dec_le}
use native.Mathlib.Omega.{arith}
use mathlib.Core.Bool.{Bool, true, false, ◌&&◌, cond}
use mathlib.Core.List.{List, [], ◌∷◌, map}
use lib.Dec.{T, ltb}
use lib.Ieee.{Float, nan, inf, fin, binary32, lt, le, eq}
use lib.ListN.{length, get_or}
use Rattle.f32_laws.specs.Numbers.{larger, zero+, is64}
use Rattle.f32_laws.specs.Key.{Num}
use Rattle.f32_laws.proofs.Keys.{le→key, key→le, lt→key}
use Rattle.f32_laws.proofs.Larger.{larger_key, larger_num}
use Rattle.f32_laws.proofs.Is64.{at64_is64}
use Rattle.float.specs.declared.FloatDirection.{FloatDirection}
use Rattle.float.specs.declared.PlacedFloatedBox.{PlacedFloatedBox}
use Rattle.float.specs.declared.Refusal.{Refusal}
use Rattle.float.specs.declared.Segment.{Segment}
use Rattle.float.specs.Numbers.{Given, all_finite, all_allowed}
use Rattle.float.specs.Refuse.{side_of, check_of}
use Rattle.float.specs.Bands.{lead, has_float, box_on, none}
use Rattle.float.specs.Page.{Page}
use Rattle.float.specs.Place.{Call, cleaned, numbers, input_check, end_of}
use Rattle.float.specs.Slot.{recorded_on, innermost}
use Rattle.demands.specs.Runs.{Each, Pairs, Act, box, handed, Handed, F32, Whole64, after, page_in, Accepted, box_in, side_in, x_from, bottom, far_inset, high, inset_at, NoSmaller, EdgeToEdge, present, Names, Holds, StandsAt, Joins, unjoined, joins, joins_two, Bottom64, Page64}
use Rattle.demands.proofs.Laws.{k, Ins, top_low, zero_k, ins_zero, ins_val, larger_ins, sum_num}
use Rattle.demands.proofs.Chain.{Chain, chain_at, chain_last}
use Rattle.demands.proofs.Heights.{Grows, nothing, band_at, at_lead, at_ins, at_below, band_is}
use Rattle.demands.proofs.Input.{Known, known, cleaned_fits, BottomIs, lower_is}
use Rattle.demands.proofs.Lists.{each_map, each_both, each_at}
use Rattle.demands.proofs.Numbers.{Numbered, Named, unnamed, bare_numbered}
use Rattle.demands.proofs.Exact.{two, Q, q_zero, q_larger, sum_exact}
use Rattle.demands.proofs.Bands64.{Band64, band_at_lem}
use Rattle.demands.proofs.Apart.{Takes, Stands, Beside, Box64, Inv64, larger64}
use Rattle.demands.proofs.Deep.{Deep}
use Rattle.demands.proofs.Reached.{reached64}
use Rattle.demands.proofs.Edges.{Boxed}

-- ---- bands
pub edges : (x : Float) (l : List Segment) → Chain x l → EdgeToEdge x l
edges x [] c = tt
edges x (b ∷ bs) c = (c.0, key→le c.1.start.num c.1.end.num c.1.order, edges b.end bs c.2)

-- NaN lies in no band
at_nan : (r : FloatDirection) (l : List Segment) → inset_at r nan l ≡ zero+
unfolding inset_at lt
at_nan r [] = refl
at_nan r (b ∷ bs) = at_nan r bs

no_lower : (l m : List Segment) → Chain (inf true) l → Chain (inf true) m → Grows l m → (r : FloatDirection) (h : Float) → Num binary32 h → T (le (inset_at r h l) (inset_at r h m))
no_lower l m c d g r h n = key→le (at_ins (inf true) l r h c).num (at_ins (inf true) m r h d).num (omega (arith, (g h n).inset r, ap k (at_lead r h l), ap k (at_lead r h m)))

pub no_smaller : (l m : List Segment) → Chain (inf true) l → Chain (inf true) m → Grows l m → NoSmaller l m
no_smaller l m c d h r nan f = subst (λ (z : Float). T (le z (inset_at r nan m))) (sym (at_nan r l)) (subst (λ (z : Float). T (le zero+ z)) (sym (at_nan r m)) (key→le ins_zero.num ins_zero.num (omega arith)))
no_smaller l m c d h r (inf s) f = no_lower l m c d h r (inf s) (record { is = tt })
no_smaller l m c d h r (fin s n e) f = no_lower l m c d h r (fin s n e) (record { is = f })

-- a height at or below a number is no NaN
num_from : (h z : Float) → F32 h → T (le z h) → Num binary32 h
unfolding le lt eq
num_from nan nan f w = absurd w
num_from nan (inf s) f w = absurd w
num_from nan (fin s m e) f w = absurd w
num_from (inf s) z f w = record { is = tt }
num_from (fin s m e) z f w = record { is = f }

held_band : (l : List Segment) → Chain (inf true) l → (h : Float) (i : ℕ) → F32 h → i < length l → Holds (get_or l i none) h → band_at h l ≡ get_or l i none
held_band l c h i f o w =
    let b = chain_at (inf true) l i c o in
    let n = num_from h (get_or l i none).start f w.0 in
    band_is (inf true) l h i c n o (le→key b.start.num n w.0) (lt→key n b.end.num w.1)

pub held_inset : (l : List Segment) → Chain (inf true) l → (s : FloatDirection) (h : Float) (i : ℕ) → F32 h → i < length l → T (le (get_or l i none).start h) → T (lt h (get_or l i none).end) → inset_at s h l ≡ lead s (get_or l i none)
held_inset l c s h i f o u w = at_lead s h l ∙ ap (lead s) (held_band l c h i f o (u, w))

-- ---- the box that a band names
told : (p : Page) (i s : ℕ) (n : Option ℕ) → innermost p (Some i) s ≡ Ok n → recorded_on (side_of s) (get_or p.bands i none) ≡ n
unfolding innermost
told p i s n e = go (check_of (ltb s 2) []) e
  where
    go : (c : Result ⊤ Refusal) → ◌≡◌ {A = Result (Option ℕ) Refusal} (elim c [ Ok _ ↦ Ok (recorded_on (side_of s) (get_or p.bands i none)) | Err m ↦ Err m ]) (Ok n) → recorded_on (side_of s) (get_or p.bands i none) ≡ n
    go (Ok _) e = cc
    go (Err m) e = absurd (let z : ◌≡◌ {A = ℕ} 0 1 = cc in omega arith)

-- a read past the last band is of one with no float
module _ (p : Page) (g : List Accepted) (v : Named p g) (i s : ℕ) where
  abbrev band : Segment
  band = get_or p.bands i none

  band_numbered : Numbered g band
  band_numbered = each_at (Numbered g) p.bands i none (bare_numbered g nan nan nan nan) v.bands

  pub told_names : (n : ℕ) → innermost p (Some i) s ≡ Ok (Some n) → Names g (side_of s) band n
  told_names n e = band_numbered.names (side_of s) n (go (has_float (side_of s) band) (told p i s (Some n) e))
    where
      go : (t : Bool) → cond t (box_on (side_of s) band) None ≡ Some n → box_on (side_of s) band ≡ Some n
      go true e = e
      go false e = absurd (unnamed n e)

  pub told_unmarked : innermost p (Some i) s ≡ Ok None → has_float (side_of s) band ≡ false
  told_unmarked e = go (has_float (side_of s) band) (box_on (side_of s) band) (band_numbered.shown (side_of s)) (told p i s None e)
    where
      go : (t : Bool) (n : Option ℕ) → present n ≡ t → cond t n None ≡ None → t ≡ false
      go true n u e = sym u ∙ ap present e
      go false n u e = refl

-- ---- a check that passed
check_passed : (b : Bool) (gs : List Given) → check_of b gs ≡ Ok tt → T (all_finite gs) × T (all_allowed gs)
unfolding check_of
check_passed b gs e = go b (all_finite gs) (all_allowed gs) e
  where
    go : (b t u : Bool) → ◌≡◌ {A = Result ⊤ Refusal} (cond b (cond t (cond u (Ok tt) (Err Refusal.OutOfLimits)) (Err Refusal.NotFinite)) (Err Refusal.UnknownCode)) (Ok tt) → T t × T u
    go true true true e = (tt, tt)
    go true true false e = absurd (let z : ◌≡◌ {A = ℕ} 0 1 = cc in omega arith)
    go true false u e = absurd (let z : ◌≡◌ {A = ℕ} 0 1 = cc in omega arith)
    go false t u e = absurd (let z : ◌≡◌ {A = ℕ} 0 1 = cc in omega arith)

pub passed : (c : Call) → Each F32 (handed (box c)) → input_check (cleaned c) ≡ Ok tt → Each Known (numbers (cleaned c)) × T (all_allowed (numbers (cleaned c)))
passed c f e = let t = check_passed (ltb c.side 2 && ltb c.clear 4) (numbers (cleaned c)) e in (known (numbers (cleaned c)) (cleaned_fits c f) t.0 t.1, t.1)

-- ---- 64ths
said64 : (x : Float) → Q x → T (is64 x)
said64 x q = subst (λ (z : Float). T (is64 z)) (sym q.is) (at64_is64 q.n (omega (arith, q.high, two)))

bottom64 : (b : Option Float) → BottomIs Q b → Bottom64 b
bottom64 None q = tt
bottom64 (Some x) q = said64 x q

boxes64 : (g : List Accepted) → Each Box64 g → Each (λ (b : PlacedFloatedBox). T (is64 b.width) × T (is64 b.height) × T (is64 b.x_inset) × T (is64 b.y)) (map box_in g)
boxes64 [] h = tt
boxes64 (a ∷ g) h = ((said64 a.call.width h.0.width, said64 a.call.height h.0.height, said64 a.inset h.0.inset, said64 a.y h.0.y), boxes64 g h.1)

pub page64 : (p : Page) (g : List Accepted) → Inv64 p g → Deep p g → Page64 p
page64 p g v d = record {
  width = said64 p.width v.width;
  bands = each_map Band64 (λ b. T (is64 b.end) × T (is64 b.left) × T (is64 b.right)) p.bands (λ b q. (said64 b.end q.end, said64 b.left (q.inset FloatDirection.Left), said64 b.right (q.inset FloatDirection.Right))) v.bands;
  boxes = subst (Each (λ b. T (is64 b.width) × T (is64 b.height) × T (is64 b.x_inset) × T (is64 b.y))) (sym v.inv.boxes) (boxes64 g v.boxes);
  left_bottom = bottom64 p.left_bottom (v.bottom FloatDirection.Left);
  right_bottom = bottom64 p.right_bottom (v.bottom FloatDirection.Right);
  ceiling = bottom64 p.ceiling v.ceiling;
  depth = bottom64 p.depth (subst (BottomIs Q) (sym d.sides) (lower_is Q larger64 p.left_bottom p.right_bottom (v.bottom FloatDirection.Left) (v.bottom FloatDirection.Right)));
}

pub joins_ins : {r : FloatDirection} {l : List Segment} {x : Float} → Chain (inf true) l → Joins r l x → Ins x
joins_ins {r} {l} c unjoined = ins_zero
joins_ins {r} {l} c (joins i h) = (chain_at (inf true) l i c h).inset r
joins_ins {r} {l} c (joins_two p q) = larger_ins (joins_ins c p) (joins_ins c q)

pub joins64 : {r : FloatDirection} {l : List Segment} {x : Float} → Each Band64 l → Joins r l x → Q x
joins64 {r} {l} d unjoined = q_zero
joins64 {r} {l} d (joins i h) = (band_at_lem l i d h).inset r
joins64 {r} {l} d (joins_two p q) = q_larger (joins64 d p) (joins64 d q)

-- a box that has a height of a band is taken into it
module _ (l : List Segment) (c : Chain (inf true) l) (i : ℕ) (o : i < length l) (h : Float) (f : F32 h) (w : Holds (get_or l i none) h) where
  taken : (a : Accepted) → Box64 a × Stands l a → StandsAt a h → Takes (get_or l i none) a
  taken a (b, s) t =
      let n = num_from h (get_or l i none).start f w.0 in
      subst (λ (d : Segment). Takes d a) (held_band l c h i f o w) (s h n (le→key b.y'.num n t.0, lt→key n (sum_num b.y' b.height') t.1))

  pub taken_in : (a : Accepted) → Box64 a × Stands l a → StandsAt a h → T (le (far_inset a) (lead (side_in a) (get_or l i none)))
  taken_in a p t = key→le (sum_num (ins_val p.0.inset') p.0.width') ((chain_at (inf true) l i c o).inset (side_in a)).num (taken a p t).0

  pub taken_marked : (s : FloatDirection) → has_float s (get_or l i none) ≡ false → (a : Accepted) → Box64 a × Stands l a → side_in a ≡ s → StandsAt a h → ⊥
  taken_marked s e a p u t = subst T (ap (λ (r : FloatDirection). has_float r (get_or l i none)) u ∙ e) (taken a p t).1

-- the bands reach down to its bottom: from the last end on no band is marked
pub ends_in_bands : (l : List Segment) → Chain (inf true) l → (a : Accepted) → Box64 a × Stands l a → T (high a) → T (le (bottom a) (end_of l))
ends_in_bands l c a (b, s) t = go (dec_le (k (bottom a)) (k (end_of l)))
  where
    y : Num binary32 a.y
    y = b.y'.num

    z : Num binary32 (end_of l)
    z = (chain_last (inf true) l top_low c).num

    -- the lower of its top and the last end
    at : Float
    at = larger a.y (end_of l)

    inside : k (end_of l) < k (bottom a) → (k a.y ≤ k at) × (k at < k (bottom a))
    inside h = let m = larger_key y z in (omega arith, omega (arith, sum_exact b.y b.height, lt→key ins_zero.num b.height'.num t, zero_k))

    unmarked : (r : FloatDirection) → T (has_float r nothing) → ⊥
    unmarked FloatDirection.Left t = t
    unmarked FloatDirection.Right t = t

    go : Dec (k (bottom a) ≤ k (end_of l)) → T (le (bottom a) (end_of l))
    go (yes h) = key→le (sum_num b.y' b.height') z h
    go (no h) = absurd (unmarked (side_in a) (subst (λ (d : Segment). T (has_float (side_in a) d)) (at_below (inf true) l at c (larger_num y z) (λ o. omega (arith, larger_key y z))) (s at (larger_num y z) (inside (omega arith))).1))

-- of every two, by what is known of each
pairs_map : {A : Type 0} (P : A → Type 0) (R S : A → A → Type 0) (l : List A) → ((x y : A) → P x → P y → R x y → S x y) → Each P l → Pairs R l → Pairs S l
pairs_map P R S [] f h g = tt
pairs_map P R S (x ∷ l) f h g = (each_map (λ y. P y × R x y) (S x) l (λ y t. f x y h.0 t.0 t.1) (each_both P (R x) l h.1 g.0), pairs_map P R S l f h.1 g.1)

-- what follows of two boxes that are clear of each other, of every two accepted ones
module _ (os : List Act) (f : Handed F32 os) (s : Handed Whole64 os) where
  abbrev page : Page
  page = page_in (after os)

  boxed : Each (Boxed page.width) (after os).accepted
  boxed = let v = reached64 os f s in each_both Box64 (λ a. a.x ≡ x_from page.width a) (after os).accepted v.boxes v.inv.answers

  pub each_boxed : {S : Float → Accepted → Type 0} → ((w : Float) → Q w → Ins w → (a : Accepted) → Boxed w a → S w a) → Each (S page.width) (after os).accepted
  each_boxed {S} h = let v = reached64 os f s in each_map (Boxed page.width) (S page.width) (after os).accepted (h page.width v.width v.inv.width) boxed

  pub each_standing : {S : Accepted → Type 0} → ((a : Accepted) → Box64 a × Stands page.bands a → S a) → Each S (after os).accepted
  each_standing {S} h = let v = reached64 os f s in each_map (λ a. Box64 a × Stands page.bands a) S (after os).accepted h (each_both Box64 (Stands page.bands) (after os).accepted v.boxes v.stands)

  pub clear_pairs : {S : Float → Accepted → Accepted → Type 0} → ((w : Float) → Q w → Ins w → (a b : Accepted) → Boxed w a → Boxed w b → Beside w a b → S w a b) → Pairs (S page.width) (after os).accepted
  clear_pairs {S} h = let v = reached64 os f s in pairs_map (Boxed page.width) (Beside page.width) (S page.width) (after os).accepted (h page.width v.width v.inv.width) boxed v.beside
