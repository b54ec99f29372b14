-- The boxes of one side: laws of `of_side`, a box at a time.
use Rattle.std.proofs.Common.{◌≡◌, ℕ, suc, ◌+◌, ◌<◌, ◌≤◌, min, Bool, true, false, List, [], ◌∷◌, ◌++◌, length, get_or, take, set, replicate, sym, refl, ap, ◌∙◌, subst₂, append-nil, suc-le-suc, le_refl, add-one, arith, length-append, length-take-le, take_all, take-suc}
use denote.Enum.Bare.{sameb}
use lib.ListN.{length-replicate}
use Rattle.float.specs.contracts.FloatDirection.{the_type}
use Rattle.float.specs.declared.FloatContext.{FloatContext}
use Rattle.float.specs.declared.FloatDirection.{FloatDirection}
use Rattle.float.specs.declared.FloatList.{FloatList}
use Rattle.float.specs.declared.PlacedFloatedBox.{PlacedFloatedBox}
use Rattle.float.specs.Bands.{same_side}
use Rattle.float.specs.Page.{page_of, front, no_box, max_boxes}
use Rattle.float.specs.Slot.{of_side, list_of, floats_of}
use Rattle.float.proofs.Front.{front_nil, front_more, take_min}

-- a box, if its side is the one asked for
abbrev pub one : Bool → PlacedFloatedBox → List PlacedFloatedBox
one true b = b ∷ []
one false b = []

pub side_more : (d : FloatDirection) (l : List PlacedFloatedBox) (b : PlacedFloatedBox) → of_side d (l ++ b ∷ []) ≡ of_side d l ++ one (same_side d b.side) b
unfolding of_side
side_more d [] b = go (same_side d b.side)
  where
    go : (t : Bool) → elim t [ true ↦ b ∷ [] | false ↦ [] ] ≡ one t b
    go true = refl
    go false = refl
side_more d (x ∷ l) b = go (same_side d x.side) (side_more d l b)
  where
    go : (t : Bool) → of_side d (l ++ b ∷ []) ≡ of_side d l ++ one (same_side d b.side) b
        → elim t [ true ↦ x ∷ of_side d (l ++ b ∷ []) | false ↦ of_side d (l ++ b ∷ []) ] ≡ elim t [ true ↦ x ∷ of_side d l | false ↦ of_side d l ] ++ one (same_side d b.side) b
    go true e = ap (λ (r : List PlacedFloatedBox). x ∷ r) e
    go false e = e

pub side_length : (d : FloatDirection) (l : List PlacedFloatedBox) → length (of_side d l) ≤ length l
unfolding of_side
side_length d [] = le_refl 0
side_length d (x ∷ l) = go (same_side d x.side) (side_length d l)
  where
    go : (t : Bool) → length (of_side d l) ≤ length l → length {A = PlacedFloatedBox} (elim t [ true ↦ x ∷ of_side d l | false ↦ of_side d l ]) ≤ suc (length l)
    go true h = suc-le-suc h
    go false h = omega arith

-- the derived test
same : (s t : FloatDirection) → same_side t s ≡ sameb the_type s t
same FloatDirection.Left FloatDirection.Left = refl
same FloatDirection.Left FloatDirection.Right = refl
same FloatDirection.Right FloatDirection.Left = refl
same FloatDirection.Right FloatDirection.Right = refl

-- the first i boxes are looked at: `out` begins with those of the side d, and `count` is their number
pub record Picked (d : FloatDirection) (boxes : List PlacedFloatedBox) (i : ℕ) (out : List PlacedFloatedBox) (count : ℕ) : Type 0 where
  pub count_is : count ≡ length (of_side d (take i boxes))
  pub out_is : out ≡ front (of_side d (take i boxes)) (replicate max_boxes no_box)

module _ (d : FloatDirection) (boxes : List PlacedFloatedBox) where
  pub picked_none : (out : List PlacedFloatedBox) → out ≡ replicate max_boxes no_box → Picked d boxes 0 out 0
  unfolding of_side
  picked_none out e = record { count_is = refl; out_is = e ∙ sym (front_nil (replicate max_boxes no_box)) }

  module _ (i : ℕ) (out : List PlacedFloatedBox) (count : ℕ) (x : PlacedFloatedBox) (h : i < length boxes) where
    next : (t : Bool) → same_side d (get_or boxes i x).side ≡ t → of_side d (take (i + 1) boxes) ≡ of_side d (take i boxes) ++ one t (get_or boxes i x)
    next t e = rw add-one (ap (of_side d) (take-suc boxes i x h) ∙ side_more d (take i boxes) (get_or boxes i x) ∙ ap (λ (z : Bool). of_side d (take i boxes) ++ one z (get_or boxes i x)) e)

    pub count_low : Picked d boxes i out count → count ≤ i
    count_low p = omega (arith, p.count_is, side_length d (take i boxes), length-take-le i boxes (omega arith))

    pub picked_more : length boxes ≤ 64 → Picked d boxes i out count → same_side d (get_or boxes i x).side ≡ true → Picked d boxes (i + 1) (set out count (get_or boxes i x)) (count + 1)
    picked_more b p t = record {
      count_is = sym (ap length (next true t) ∙ length-append (of_side d (take i boxes)) (get_or boxes i x ∷ []) ∙ ap (λ (n : ℕ). n + 1) (sym p.count_is));
      out_is = ap (λ (n : ℕ). set out n (get_or boxes i x)) p.count_is ∙ ap (λ (l : List PlacedFloatedBox). set l (length (of_side d (take i boxes))) (get_or boxes i x)) p.out_is
          ∙ front_more (of_side d (take i boxes)) (replicate max_boxes no_box) (get_or boxes i x) (omega (arith, p.count_is, count_low p, length-replicate max_boxes no_box))
          ∙ ap (λ (l : List PlacedFloatedBox). front l (replicate max_boxes no_box)) (sym (next true t));
    }

    pub picked_same : Picked d boxes i out count → same_side d (get_or boxes i x).side ≡ false → Picked d boxes (i + 1) out count
    picked_same p t =
        let e : of_side d (take (i + 1) boxes) ≡ of_side d (take i boxes) = next false t ∙ append-nil (of_side d (take i boxes)) in
        record { count_is = p.count_is ∙ ap length (sym e); out_is = p.out_is ∙ ap (λ (l : List PlacedFloatedBox). front l (replicate max_boxes no_box)) (sym e) }

  -- the same as the loop has it, after either branch
  module _ (i : ℕ) (out : List PlacedFloatedBox) (count : ℕ) (x : PlacedFloatedBox) (h : i < length boxes) (b : length boxes ≤ 64) (p : Picked d boxes i out count) (r : Bool) (e : r ≡ sameb the_type (get_or boxes i x).side d) (out' : List PlacedFloatedBox) (count' : ℕ) where
    pub took : r ≡ true → out' ≡ set out count (get_or boxes i x) → count' ≡ count + 1 → (count' ≤ i + 1) × Picked d boxes (i + 1) out' count'
    took t u v =
        let q : Picked d boxes (i + 1) (set out count (get_or boxes i x)) (count + 1) = picked_more i out count x h b p (same (get_or boxes i x).side d ∙ sym e ∙ t) in
        (omega (arith, count_low i out count x h p), subst₂ (λ (o : List PlacedFloatedBox) (k : ℕ). Picked d boxes (i + 1) o k) (sym u) (sym v) q)

    pub left : r ≡ false → out' ≡ out → count' ≡ count → (count' ≤ i + 1) × Picked d boxes (i + 1) out' count'
    left t u v =
        let q : Picked d boxes (i + 1) out count = picked_same i out count x h p (same (get_or boxes i x).side d ∙ sym e ∙ t) in
        (omega (arith, count_low i out count x h p), subst₂ (λ (o : List PlacedFloatedBox) (k : ℕ). Picked d boxes (i + 1) o k) (sym u) (sym v) q)

  pub picked_all : (i : ℕ) (out : List PlacedFloatedBox) (count : ℕ) → length boxes ≤ i → Picked d boxes i out count → ◌≡◌ {A = FloatList} (record { boxes = out; count = count }) (list_of (of_side d boxes))
  picked_all i out count h p = cc (take_all i boxes h, p.count_is, p.out_is)

-- a page's list of one side, from the list of its live boxes
pub floats_are : (p : FloatContext) (d : FloatDirection) (n : ℕ) (r : FloatList) → length p.boxes ≡ 64 → n ≡ min p.box_count 64 → r ≡ list_of (of_side d (take n p.boxes)) → r ≡ floats_of d (page_of p)
unfolding floats_of page_of
floats_are p d n r h e f = f ∙ ap (λ (l : List PlacedFloatedBox). list_of (of_side d l)) (ap (λ (k : ℕ). take k p.boxes) e ∙ take_min p.boxes p.box_count 64 h)
