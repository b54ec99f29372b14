use Rattle.std.specs.Prelude.{Some, None}
-- The number beside a mark: each band keeps it through splits, added bands and marks, whatever the numbers are; so does every page that calls reach.
use mathlib.Core.Path.{◌≡◌, refl, sym, ap, ◌∙◌, subst}
use Prim.Native.Nat.{ℕ, suc}
use native.Mathlib.Omega.{arith}
use mathlib.Core.List.{List, [], ◌∷◌, ◌++◌}
use mathlib.Core.Option.{some}
use lib.Ieee.{Float, binary32, add, lt}
use lib.ListN.{length, length-append, get_elem?}
use Rattle.f32_laws.proofs.Tests.{both}
use Rattle.float.specs.declared.FloatDirection.{FloatDirection}
use Rattle.float.specs.declared.Segment.{Segment}
use Rattle.float.specs.declared.fit.Ask.{Ask}
use Rattle.float.specs.declared.search.Spot.{Spot}
use Rattle.float.specs.Bands.{lead, has_float, box_on, bare, spanning, marked, split_at, mark_all}
use Rattle.float.specs.Page.{Page, page_of, fresh_context, fresh}
use Rattle.float.specs.Place.{Call, cleaned, ask_of, spot_of, Made, end_of, gapped, walked, started_at, make, recorded, box_of, counted, x_of, place, set_width}
use Rattle.demands.specs.Runs.{Each, Accepted, last_inset, noted, side_in, far_inset, present, Names}
use Rattle.demands.proofs.Chain.{each_split, each_mark}
use Rattle.demands.proofs.Splits.{started_ways, make_ways}
use Rattle.demands.proofs.Ways.{place_ways, width_ways}
use Rattle.demands.proofs.Lists.{each_append, each_map, kth_stays, kth_last}
use Rattle.demands.proofs.Whole.{last_inset_lem}

-- a band on a page with this log: a number stands beside each mark and no other, and names its box
pub record Numbered (g : List Accepted) (b : Segment) : Type 0 where
  pub shown : (s : FloatDirection) → present (box_on s b) ≡ has_float s b
  pub names : (s : FloatDirection) (k : ℕ) → box_on s b ≡ Some k → Names g s b k

pub record Named (p : Page) (g : List Accepted) : Type 0 where
  pub count : length p.boxes ≡ length g
  pub bands : Each (Numbered g) p.bands

pub fresh_named : Named fresh []
unfolding fresh page_of fresh_context
fresh_named = record { count = refl; bands = tt }

-- ---- a band
names_as : (g h : List Accepted) (s : FloatDirection) (b d : Segment) (k : ℕ) → ((i : ℕ) (a : Accepted) → get_elem? g i ≡ some a → get_elem? h i ≡ some a) → lead s d ≡ lead s b → Names g s b k → Names h s d k
names_as g h s b d k f e n = record { named = n.named; kth = f _ n.named n.kth; side = n.side; inset = e ∙ n.inset }

pub unnamed : (k : ℕ) → None ≡ Some k → ⊥
unnamed k e = let z : ◌≡◌ {A = ℕ} 0 1 = cc in omega arith

module _ (g : List Accepted) where
  -- with no float
  pub bare_numbered : (x y l r : Float) → Numbered g (bare x y l r)
  bare_numbered x y l r = record {
    shown = λ s. elim s as (λ q. present (box_on q (bare x y l r)) ≡ has_float q (bare x y l r)) [ FloatDirection.Left ↦ refl | FloatDirection.Right ↦ refl ];
    names = λ s. elim s as (λ q. (k : ℕ) → box_on q (bare x y l r) ≡ Some k → Names g q (bare x y l r) k) [ FloatDirection.Left ↦ λ k e. absurd (unnamed k e) | FloatDirection.Right ↦ λ k e. absurd (unnamed k e) ];
  }

  -- from x to y
  part_numbered : (b : Segment) (x y : Float) → Numbered g b → Numbered g (spanning b x y)
  part_numbered b x y n = record { shown = n.shown; names = λ s k e. names_as g g s b (spanning b x y) k (λ i a h. h) refl (n.names s k e) }

  -- with one more in the log
  later : (a : Accepted) (b : Segment) → Numbered g b → Numbered (g ++ a ∷ []) b
  later a b n = record { shown = n.shown; names = λ s k e. names_as g (g ++ a ∷ []) s b b k (kth_stays g (a ∷ [])) refl (n.names s k e) }

  -- marked for that one
  marked_numbered : (a : Accepted) (b : Segment) → Numbered (g ++ a ∷ []) b → Numbered (g ++ a ∷ []) (marked (side_in a) (far_inset a) (length g) b)
  marked_numbered a b n = go (side_in a) refl
    where
      new : (k : ℕ) → Some (length g) ≡ Some k → get_elem? (g ++ a ∷ []) k ≡ some a
      new k e = let z : length g ≡ k = cc in subst (λ (j : ℕ). get_elem? (g ++ a ∷ []) j ≡ some a) z (kth_last g a)

      go : (r : FloatDirection) → side_in a ≡ r → Numbered (g ++ a ∷ []) (marked r (far_inset a) (length g) b)
      go FloatDirection.Left u = record {
        shown = λ s. elim s as (λ q. present (box_on q (marked FloatDirection.Left (far_inset a) (length g) b)) ≡ has_float q (marked FloatDirection.Left (far_inset a) (length g) b)) [ FloatDirection.Left ↦ refl | FloatDirection.Right ↦ n.shown FloatDirection.Right ];
        names = λ s. elim s as (λ q. (k : ℕ) → box_on q (marked FloatDirection.Left (far_inset a) (length g) b) ≡ Some k → Names (g ++ a ∷ []) q (marked FloatDirection.Left (far_inset a) (length g) b) k) [
          | FloatDirection.Left ↦ λ k e. record { named = a; kth = new k e; side = u; inset = refl }
          | FloatDirection.Right ↦ λ k e. names_as (g ++ a ∷ []) (g ++ a ∷ []) FloatDirection.Right b _ k (λ i x h. h) refl (n.names FloatDirection.Right k e)
        ];
      }
      go FloatDirection.Right u = record {
        shown = λ s. elim s as (λ q. present (box_on q (marked FloatDirection.Right (far_inset a) (length g) b)) ≡ has_float q (marked FloatDirection.Right (far_inset a) (length g) b)) [ FloatDirection.Left ↦ n.shown FloatDirection.Left | FloatDirection.Right ↦ refl ];
        names = λ s. elim s as (λ q. (k : ℕ) → box_on q (marked FloatDirection.Right (far_inset a) (length g) b) ≡ Some k → Names (g ++ a ∷ []) q (marked FloatDirection.Right (far_inset a) (length g) b) k) [
          | FloatDirection.Left ↦ λ k e. names_as (g ++ a ∷ []) (g ++ a ∷ []) FloatDirection.Left b _ k (λ i x h. h) refl (n.names FloatDirection.Left k e)
          | FloatDirection.Right ↦ λ k e. record { named = a; kth = new k e; side = u; inset = refl }
        ];
      }

  -- ---- the made bands
  split_numbered : (l : List Segment) (i : ℕ) (y : Float) → Each (Numbered g) l → Each (Numbered g) (split_at l i y)
  split_numbered l i y = each_split (Numbered g) y (λ b n. (part_numbered b b.start y n, part_numbered b y b.end n)) l i

  added : (l : List Segment) (x y u v : Float) → Each (Numbered g) l → Each (Numbered g) (l ++ bare x y u v ∷ [])
  added l x y u v h = each_append (Numbered g) l (bare x y u v) h (bare_numbered x y u v)

  module _ (a : Ask) where
    abbrev Kept : Made → Type 0
    Kept m = Each (Numbered g) m.bands

    started_numbered : (l : List Segment) (s e : ℕ) (y : Float) → Each (Numbered g) l → Kept (started_at a l s e y)
    started_numbered l s e y h = started_ways Kept a l s e y (λ o u. split_numbered l (walked l s b e) b h) (λ o. h) (λ o u. added l _ _ _ _ h) (λ o u. h)
      where
        b : Float
        b = add binary32 y a.height

    made_numbered : (l : List Segment) (p : Spot) → Each (Numbered g) l → Kept (make a l p)
    made_numbered l p h =
        make_ways Kept a l p
        (λ o. started_numbered l p.start p.end p.y h)
        (λ o u. started_numbered (split_at l p.start p.y) (suc p.start) (suc p.end) p.y (split_numbered l p.start p.y h))
        (λ o. added (gapped l (end_of l) p.y) _ _ _ _ (both (Each (Numbered g)) (lt (end_of l) p.y) (λ t. added l _ _ _ _ h) (λ t. h)))

-- ---- a placement
module _ (p : Page) (g : List Accepted) (c : Call) (v : Named p g) where
  abbrev entry : (x y i : Float) → Accepted
  entry x y i = record { call = c; x = x; y = y; inset = i }

  -- the box is counted, on a page whose bands know it
  counted_named : (q : Page) (a : Ask) (x y i : Float) → q.boxes ≡ p.boxes → Each (Numbered (g ++ entry x y i ∷ [])) q.bands → Named (counted q a i y) (g ++ entry x y (last_inset (counted q a i y)) ∷ [])
  counted_named q a x y i e h = subst (λ (t : Float). Named (counted q a i y) (g ++ entry x y t ∷ [])) (sym (last_inset_lem q a i y)) (record {
    count = omega (arith, v.count, ap length e, length-append q.boxes (box_of a i y ∷ []), length-append g (entry x y i ∷ []));
    bands = h;
  })

  -- and recorded
  recorded_named : (s : Spot) (m : Made) (x y : Float) → Each (Numbered g) m.bands → Each (Numbered (g ++ entry x y s.inset ∷ [])) (recorded p (ask_of p c) s.inset m).bands
  recorded_named s m x y h =
      let e = entry x y s.inset in
      let G = g ++ e ∷ [] in
      subst (λ (n : ℕ). Each (Numbered G) (mark_all (side_in e) (far_inset e) n m.bands m.start m.end)) (sym v.count)
      (each_mark (Numbered G) (side_in e) (far_inset e) (length g) (marked_numbered g e) m.bands m.start m.end (each_map (Numbered g) (Numbered G) m.bands (later g e) h))

pub place_named : (p : Page) (g : List Accepted) (c : Call) → Named p g → Named (place p c).page (noted (place p c).answer (cleaned c) (place p c).page g)
place_named p g c v =
    let d = cleaned c in
    let a = ask_of p d in
    let s = spot_of p d in
    let m = make a p.bands s in
    let x = x_of a s.inset in
    place_ways (λ r. Named r.page (noted r.answer d r.page g)) p c (λ n. v)
    (counted_named p g d v p a x s.y s.inset refl (each_map (Numbered g) _ p.bands (later g (entry p g d v x s.y s.inset)) v.bands))
    (counted_named p g d v (recorded p a s.inset m) a x m.y s.inset refl (recorded_named p g d v s m x m.y (made_numbered g a p.bands s v.bands)))

-- ---- the width
pub wide_named : (p : Page) (g : List Accepted) (w : Float) → Named p g → Named (set_width p w) g
wide_named p g w v = width_ways (λ q. Named q g) p w v (record { count = v.count; bands = v.bands })
