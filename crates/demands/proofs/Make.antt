-- Rules 6 and 7: what the bands are once the box's place is made for what the search found.
use mathlib.Core.Path.{◌≡◌, refl, sym, ap, ◌∙◌, subst}
use mathlib.Core.Logic.{◌⊎◌, inl, inr}
use Prim.Native.Nat.{ℕ, zero, suc, ◌+◌, ◌-◌, ◌≤◌, ◌<◌}
use native.Mathlib.Decide.{dec_le}
use native.Mathlib.Omega.{arith}
use mathlib.Core.Bool.{Bool, true, false, not, ◌&&◌, cond}
use mathlib.Core.List.{List, [], ◌∷◌, ◌++◌}
use lib.Dec.{T, ltb, ltb→lt}
use lib.Ieee.{Float, inf, binary32, add, lt, le}
use lib.ListN.{length, get_or, length-append, get_or-append}
use lib.Seq.{get_or-append_seam}
use Rattle.f32_laws.specs.Numbers.{larger, zero+}
use Rattle.f32_laws.proofs.Keys.{lt→key, nlt→key, le→key}
use Rattle.f32_laws.proofs.Larger.{larger_key}
use Rattle.float.specs.declared.FloatDirection.{FloatDirection}
use Rattle.float.specs.declared.Segment.{Segment}
use Rattle.float.specs.declared.fit.Ask.{Ask}
use Rattle.float.specs.declared.search.Spot.{Spot}
use Rattle.float.specs.Numbers.{in_reach}
use Rattle.float.specs.Bands.{on_side, other, lead, none, bare, split_at, mark_all}
use Rattle.float.specs.Place.{Made, seed, end_of, gapped, below_all, walked, started_at, make}
use Rattle.demands.specs.Runs.{StrictlyIn}
use Rattle.demands.proofs.Laws.{k, Val, Ins, Top, on_either, ins_zero, top_low, val_top, top_larger, sum_val, sum_grows}
use Rattle.demands.proofs.Chain.{Sound, Chain, chain_at, chain_next, chain_last, last_val, chain_append, last_append, chain_split, length_split, split_lead, split_start, split_upper, split_lower, split_end, last_is, old, old_le, old_gt, mark_in, mark_after, mark_trail, length_mark}
use Rattle.demands.proofs.Heights.{Grows, grows_refl, grows_trans, grows_append, grows_split}
use Rattle.demands.proofs.Splits.{started_ways, make_ways}
use Rattle.demands.proofs.Seek.{Falls, Asked, Count, Fit, Found}

-- ---- what marking does to the falling sides
module _ (r : FloatDirection) (v : Float) (num : ℕ) (l : List Segment) (F s e : ℕ) (f : F ≤ s) where
  flat : (z : length l ≤ suc e) → Falls r s (mark_all r v num l s e)
  flat z i j u w h =
      let n = length_mark r v num l s e in
      omega (arith, ap k (mark_in r v num l s e i u (omega arith) (omega arith)), ap k (mark_in r v num l s e j (omega arith) (omega arith) (omega arith)))

  others : Falls (other r) F l → Falls (other r) s (mark_all r v num l s e)
  others p i j u w h =
      let n = length_mark r v num l s e in
      omega (arith, ap k (mark_trail r v num l s e i), ap k (mark_trail r v num l s e j), p i j (omega arith) w (omega arith))

  same : Falls r F l → s < length l → k (lead r (get_or l s none)) ≤ k v → Falls r s (mark_all r v num l s e)
  same p o m i j u w h = go (dec_le i e) (dec_le j e)
    where
      len : j < length l
      len = omega (arith, length_mark r v num l s e)

      go : Dec (i ≤ e) → Dec (j ≤ e) → k (lead r (get_or (mark_all r v num l s e) j none)) ≤ k (lead r (get_or (mark_all r v num l s e) i none))
      go (yes a) (yes b) = omega (arith, len, ap k (mark_in r v num l s e i u a (omega (arith, len))), ap k (mark_in r v num l s e j (omega arith) b len))
      go (yes a) (no b) = omega (arith, ap k (mark_in r v num l s e i u a (omega (arith, len))), ap (λ (z : Segment). k (lead r z)) (mark_after r v num l s e j (omega arith)), p s j f (omega arith) len)
      go (no a) (yes b) = absurd (a (omega arith))
      go (no a) (no b) = omega (arith, ap (λ (z : Segment). k (lead r z)) (mark_after r v num l s e i (omega arith)), ap (λ (z : Segment). k (lead r z)) (mark_after r v num l s e j (omega arith)), p i j (omega arith) w len)

  falls_mark : Falls r F l ⊎ Falls (other r) F l → s < length l → k (lead r (get_or l s none)) ≤ k v → Falls r s (mark_all r v num l s e) ⊎ Falls (other r) s (mark_all r v num l s e)
  falls_mark (inl p) o m = inl (same p o m)
  falls_mark (inr p) o m = inr (others p)

-- ---- and a split
falls_split : (r : FloatDirection) (F : ℕ) (l : List Segment) (i : ℕ) (y : Float) → F ≤ i → i < length l → Falls r F l → Falls r F (split_at l i y)
falls_split r F l i y f h p a b u w g =
    let n = length_split l i y h in
    omega (arith, ap k (split_lead r l i y a), ap k (split_lead r l i y b), p (old i a) (old i b) (low a u) (mono (dec_le a i) (dec_le b i)) (high (dec_le b i)))
  where
    low : (a : ℕ) → F ≤ a → F ≤ old i a
    low a u = go (dec_le a i)
      where
        go : Dec (a ≤ i) → F ≤ old i a
        go (yes d) = omega (arith, old_le i a d)
        go (no d) = omega (arith, old_gt i a (omega arith))

    mono : Dec (a ≤ i) → Dec (b ≤ i) → old i a ≤ old i b
    mono (yes c) (yes d) = omega (arith, old_le i a c, old_le i b d)
    mono (yes c) (no d) = omega (arith, old_le i a c, old_gt i b (omega arith))
    mono (no c) (yes d) = absurd (c (omega arith))
    mono (no c) (no d) = omega (arith, old_gt i a (omega arith), old_gt i b (omega arith))

    high : Dec (b ≤ i) → old i b < length l
    high (yes d) = omega (arith, old_le i b d)
    high (no d) = omega (arith, length_split l i y h, old_gt i b (omega arith))

either_split : (r : FloatDirection) (F : ℕ) (l : List Segment) (i : ℕ) (y : Float) → F ≤ i → i < length l → Falls r F l ⊎ Falls (other r) F l → Falls r F (split_at l i y) ⊎ Falls (other r) F (split_at l i y)
either_split r F l i y f h (inl p) = inl (falls_split r F l i y f h p)
either_split r F l i y f h (inr p) = inr (falls_split (other r) F l i y f h p)

-- ---- the end walked back stays between the start and the end
pub walked_ok : (l : List Segment) (s : ℕ) (b : Float) (e : ℕ) → s ≤ e → (s ≤ walked l s b e) × (walked l s b e ≤ e) × ((walked l s b e ≡ e) ⊎ ((suc (walked l s b e) ≤ e) × T (le b (get_or l (suc (walked l s b e)) none).start)))
unfolding walked
walked_ok l s b zero h = (h, omega arith, inl refl)
walked_ok l s b (suc e) h = go (ltb s (suc e)) (le b (get_or l (suc e) none).start) refl (ltb→lt s (suc e)) (walked_ok l s b e)
  where
    W : ℕ → ℕ → Type 0
    W e w = (s ≤ w) × (w ≤ e) × ((w ≡ e) ⊎ ((suc w ≤ e) × T (le b (get_or l (suc w) none).start)))

    on : T (le b (get_or l (suc e) none).start) → W e (walked l s b e) → W (suc e) (walked l s b e)
    on u w = (w.0, omega (arith, w.1), step w.2)
      where
        step : (walked l s b e ≡ e) ⊎ ((suc (walked l s b e) ≤ e) × T (le b (get_or l (suc (walked l s b e)) none).start)) → (walked l s b e ≡ suc e) ⊎ ((suc (walked l s b e) ≤ suc e) × T (le b (get_or l (suc (walked l s b e)) none).start))
        step (inl x) = inr (omega arith, subst (λ (z : ℕ). T (le b (get_or l (suc z) none).start)) (sym x) u)
        step (inr x) = inr (omega arith, x.1)

    go : (t u : Bool) → le b (get_or l (suc e) none).start ≡ u → (T t → s < suc e) → (s ≤ e → W e (walked l s b e)) → W (suc e) (elim (t && u) [ true ↦ walked l s b e | false ↦ suc e ])
    go true true m f r = on (subst T (sym m) tt) (r (omega (arith, f tt)))
    go true false m f r = (h, omega arith, inl refl)
    go false u m f r = (h, omega arith, inl refl)

larger_is : (x y : Float) → larger x y ≡ cond (lt x y) y x
unfolding larger
larger_is x y = refl

-- what holds of both containing insets holds of an added band's
pub seed_has : (P : Float → Type 0) (a : Ask) (s e : Float) → P a.cb_lead → P a.cb_trail → (r : FloatDirection) → P (lead r (seed a s e))
seed_has P a s e p q r = on_either P r (on_either P a.side p q) (on_either P a.side q p)

-- ---- a made place: the bands m for the bands l, with the inset i to be recorded from band F on; on 64ths D says that the counted height is the way down
module _ (l : List Segment) (a : Ask) (F : ℕ) (i : Float) (D : Type 0) where
  pub record MadeOk (m : Made) : Type 0 where
    pub chain : Chain (inf true) m.bands
    pub grows : Grows l m.bands
    pub first : F ≤ m.start
    pub order : m.start ≤ m.end
    pub last : m.end < length m.bands
    pub top : k (get_or m.bands m.start none).start ≤ k m.y
    pub bottom : D → k (add binary32 m.y a.height) ≤ k (get_or m.bands m.end none).end
    pub covers : (j : ℕ) → m.start ≤ j → j ≤ m.end → j < length m.bands → k (lead a.side (get_or m.bands j none)) ≤ k i
    pub falls : (v : Float) (num : ℕ) → k i ≤ k v → Falls a.side m.start (mark_all a.side v num m.bands m.start m.end) ⊎ Falls (other a.side) m.start (mark_all a.side v num m.bands m.start m.end)

  seed_lead : (r : FloatDirection) (s e x y : Float) → lead r (bare s e (on_side r x y) (on_side r y x)) ≡ x
  seed_lead FloatDirection.Left s e x y = refl
  seed_lead FloatDirection.Right s e x y = refl

  module _ (q : Asked a) (n : k a.cb_lead ≤ k i) where
    seed_sound : {s e : Float} → Top s → Val e → k s ≤ k e → Sound (seed a s e)
    seed_sound {s} {e} p v h = record { start = p; end = v; inset = seed_has Ins a s e q.cb_lead q.cb_trail; order = h }

    seed_covers : (m : List Segment) (s e : Float) → k (lead a.side (get_or (m ++ seed a s e ∷ []) (length m) none)) ≤ k i
    seed_covers m s e = omega (arith, ap (λ (z : Segment). k (lead a.side z)) (get_or-append_seam m (seed a s e) [] none), ap k (seed_lead a.side s e a.cb_lead a.cb_trail))

    -- rule 6
    below_ok : (c : Chain (inf true) l) (y : Float) → F ≤ length l → Val y → T (in_reach (add binary32 (larger (end_of l) y) a.height)) → MadeOk (below_all a l (end_of l) y)
    below_ok c y f v b = record {
      chain = chain_append (inf true) G (seed a Y E) g.0 (sym g.1) new;
      grows = grows_trans l G (G ++ seed a Y E ∷ []) g.2 (grows_append (inf true) G (seed a Y E) g.0 new);
      first = omega (arith, g.3);
      order = omega arith;
      last = omega (arith, len);
      top = omega (arith, ap (λ (z : Segment). k z.start) (get_or-append_seam G (seed a Y E) [] none));
      bottom = λ d. omega (arith, ap (λ (z : Segment). k z.end) (get_or-append_seam G (seed a Y E) [] none));
      covers = λ j u w x. subst (λ (t : ℕ). k (lead a.side (get_or (G ++ seed a Y E ∷ []) t none)) ≤ k i) {x = length G} {y = j} (omega arith) (seed_covers G Y E);
      falls = λ v num h. inl (flat a.side v num (G ++ seed a Y E ∷ []) (length G) (length G) (length G) (omega arith) (omega (arith, len)));
    }
      where
        z : Float
        z = end_of l

        G : List Segment
        G = gapped l z y

        Y : Float
        Y = larger z y

        E : Float
        E = add binary32 Y a.height

        zt : Top z
        zt = chain_last (inf true) l top_low c

        yv : Val Y
        yv = top_larger zt v

        new : Sound (seed a Y E)
        new = seed_sound (val_top yv) (sum_val yv q.height b) (sum_grows yv q.height)

        go : (t : Bool) → (T t → k z < k y) → Chain (inf true) (cond t (l ++ bare z y zero+ zero+ ∷ []) l) × (end_of (cond t (l ++ bare z y zero+ zero+ ∷ []) l) ≡ cond t y z) × Grows l (cond t (l ++ bare z y zero+ zero+ ∷ []) l)
            × (length l ≤ length (cond t (l ++ bare z y zero+ zero+ ∷ []) l)) × (length (cond t (l ++ bare z y zero+ zero+ ∷ []) l) ≤ length l + 1)
        go true h =
            let s : Sound (bare z y zero+ zero+) = record { start = zt; end = v; inset = λ r. on_either Ins r ins_zero ins_zero; order = omega (arith, h tt) } in
            let n = length-append l (bare z y zero+ zero+ ∷ []) in
            (chain_append (inf true) l (bare z y zero+ zero+) c refl s, last_append (inf true) l (bare z y zero+ zero+), grows_append (inf true) l (bare z y zero+ zero+) c s, omega arith, omega arith)
        go false h = (c, refl, grows_refl l, omega arith, omega arith)

        g : Chain (inf true) G × (end_of G ≡ Y) × Grows l G × (length l ≤ length G) × (length G ≤ length l + 1)
        g = let x = go (lt z y) (lt→key zt.num v.num) in (x.0, x.1 ∙ sym (larger_is z y), x.2, x.3, x.4)

        len : length (G ++ seed a Y E ∷ []) ≡ length G + 1
        len = length-append G (seed a Y E ∷ [])

    -- rule 7 once the start is split
    module _ (c : Chain (inf true) l) (d : Falls a.side F l ⊎ Falls (other a.side) F l) (s e : ℕ) (y : Float) (f : F ≤ s) (h : s < length l) (o : s ≤ e) (u : e ≤ length l) (v : Val y) (tp : k (get_or l s none).start ≤ k y) (dp : D → e < length l → k (add binary32 y a.height) ≤ k (get_or l e none).end)
        (w : (j : ℕ) → s ≤ j → j ≤ e → j < length l → k (lead a.side (get_or l j none)) ≤ k i) (b : T (in_reach (add binary32 y a.height))) where
      bot : Val (add binary32 y a.height)
      bot = sum_val v q.height b

      abbrev bt : Float
      bt = add binary32 y a.height

      -- the end band t is split
      cut_ok : (t : ℕ) → s ≤ t → t ≤ e → e < length l → StrictlyIn (get_or l t none) bt → MadeOk (record { bands = split_at l t bt; start = s; end = t; y = y })
      cut_ok t p r x z =
          let g = chain_at (inf true) l t c (omega arith) in
          let lo = lt→key g.start.num bot.num z.0 in
          let hi = lt→key bot.num g.end.num z.1 in
          let len = length_split l t bt (omega arith) in
          record {
            chain = chain_split (inf true) l t bt c bot (omega arith) (omega arith);
            grows = grows_split (inf true) l t bt c bot (omega arith);
            first = f;
            order = p;
            last = omega arith;
            top = omega (arith, ap k (split_start l t bt s p));
            bottom = λ d. omega (arith, ap k (split_upper l t bt (omega arith)));
            covers = λ j m n x'. omega (arith, ap k (split_lead a.side l t bt j ∙ ap (λ (z : ℕ). lead a.side (get_or l z none)) (old_le t j n)), w j m (omega arith) (omega arith));
            falls = λ v num m. falls_mark a.side v num (split_at l t bt) F s t f (either_split a.side F l t bt (omega arith) (omega arith) d) (omega arith)
                (omega (arith, ap k (split_lead a.side l t bt s ∙ ap (λ (z : ℕ). lead a.side (get_or l z none)) (old_le t s p)), w s (omega arith) (omega arith) (omega arith)));
          }

      -- or left
      whole_ok : (t : ℕ) → s ≤ t → t ≤ e → (t ≡ e) ⊎ ((suc t ≤ e) × T (le bt (get_or l (suc t) none).start)) → e < length l → MadeOk (record { bands = l; start = s; end = t; y = y })
      whole_ok t p r wk x = record {
        chain = c;
        grows = grows_refl l;
        first = f;
        order = p;
        last = omega arith;
        top = tp;
        bottom = λ d. reach d wk;
        covers = λ j m n x. w j m (omega arith) x;
        falls = λ v num m. falls_mark a.side v num l F s t f d h (omega (arith, w s (omega arith) (omega arith) h));
      }
        where
          reach : D → (t ≡ e) ⊎ ((suc t ≤ e) × T (le bt (get_or l (suc t) none).start)) → k bt ≤ k (get_or l t none).end
          reach d (inl m) = subst (λ (z : ℕ). k bt ≤ k (get_or l z none).end) (sym m) (dp d x)
          reach d (inr m) = omega (arith, le→key bot.num (chain_at (inf true) l (suc t) c (omega (arith, m.0))).start.num m.1, ap k (chain_next (inf true) l t c (omega (arith, m.0))))

      -- running past the last: a band is added, or the bottom is not beyond it
      module _ (x : e ≡ length l) where
        abbrev z : Float
        z = end_of l

        zv : Val z
        zv = last_val (inf true) l c (omega arith)

        longer_ok : T (lt z bt) → MadeOk (record { bands = l ++ seed a z bt ∷ []; start = s; end = length l; y = y })
        longer_ok t =
            let g = seed_sound (val_top zv) bot (omega (arith, lt→key zv.num bot.num t)) in
            let len = length-append l (seed a z bt ∷ []) in
            record {
              chain = chain_append (inf true) l _ c refl g;
              grows = grows_append (inf true) l _ c g;
              first = f;
              order = omega arith;
              last = omega arith;
              top = omega (arith, ap (λ (z : Segment). k z.start) (get_or-append l (seed a z bt ∷ []) none s h));
              bottom = λ d. omega (arith, ap (λ (z : Segment). k z.end) (get_or-append_seam l (seed a z bt) [] none));
              covers = λ j m n p. up_to j m n (dec_le (length l) j);
              falls = λ v num m. inl (flat a.side v num (l ++ seed a z bt ∷ []) F s (length l) f (omega arith));
            }
          where
            up_to : (j : ℕ) → s ≤ j → j ≤ length l → Dec (length l ≤ j) → k (lead a.side (get_or (l ++ seed a z bt ∷ []) j none)) ≤ k i
            up_to j m n (yes p) = subst (λ (t : ℕ). k (lead a.side (get_or (l ++ seed a z bt ∷ []) t none)) ≤ k i) {x = length l} {y = j} (omega arith) (seed_covers l z bt)
            up_to j m n (no p) = omega (arith, ap (λ (z : Segment). k (lead a.side z)) (get_or-append l (seed a z bt ∷ []) none j (omega arith)), w j m (omega arith) (omega arith))

        short_ok : T (not (lt z bt)) → MadeOk (record { bands = l; start = s; end = length l - 1; y = y })
        short_ok t = record {
          chain = c;
          grows = grows_refl l;
          first = f;
          order = omega arith;
          last = omega arith;
          top = tp;
          bottom = λ d. omega (arith, nlt→key zv.num bot.num t, ap k (last_is (inf true) l (length l - 1) (omega arith)));
          covers = λ j m n p. w j m (omega arith) p;
          falls = λ v num m. inl (flat a.side v num l F s (length l - 1) f (omega arith));
        }

      started_ok : MadeOk (started_at a l s e y)
      started_ok =
          let t = walked l s bt e in
          let x = walked_ok l s bt e o in
          started_ways MadeOk a l s e y (cut_ok t x.0 x.1) (whole_ok t x.0 x.1 x.2) (λ j. longer_ok (omega arith)) (λ j. short_ok (omega arith))

pub started_y : (a : Ask) (m : List Segment) (s e : ℕ) (y : Float) → (started_at a m s e y).y ≡ y
started_y a m s e y = started_ways (λ r. r.y ≡ y) a m s e y (λ o u. refl) (λ o. refl) (λ o u. refl) (λ o u. refl)

-- ---- rules 6 and 7 together: from what the search found to the made place
module _ (l : List Segment) (a : Ask) (F : ℕ) (y0 : Float) (p : Spot) (c : Chain (inf true) l) (q : Asked a) (d : Falls a.side F l ⊎ Falls (other a.side) F l) (z : F ≤ length l) (H : Count l) (g : Found l a F y0 H p) (r : k a.cb_lead ≤ k p.inset) where
  -- on 64ths the counted height is enough: the box's bottom is above the end band's end
  abbrev Deep : Type 0
  Deep = p.end < length l → k (add binary32 p.y a.height) ≤ k (get_or l p.end none).end

  abbrev Closed : Made → Type 0
  Closed m = (Val m.y × (k p.y ≤ k m.y)) × (T (in_reach (add binary32 m.y a.height)) → MadeOk l a F p.inset Deep m)

  -- from a list that grows from l
  widen : (m : List Segment) (r : Made) (F' : ℕ) → F ≤ F' → Grows l m → MadeOk m a F' p.inset Deep r → MadeOk l a F p.inset Deep r
  widen m r F' f h o = record {
    chain = o.chain;
    grows = grows_trans l m r.bands h o.grows;
    first = omega (arith, o.first);
    order = o.order;
    last = o.last;
    top = o.top;
    bottom = o.bottom;
    covers = o.covers;
    falls = o.falls;
  }

  module _ (h : p.start < length l) (f : Fit l a F y0 H p) where
    unsplit : Closed (started_at a l p.start p.end p.y)
    unsplit = subst (λ (t : Float). (Val t × (k p.y ≤ k t)) × (T (in_reach (add binary32 t a.height)) → MadeOk l a F p.inset Deep (started_at a l p.start p.end p.y))) (sym (started_y a l p.start p.end p.y)) (
      (g.y, omega arith),
      λ b. widen l (started_at a l p.start p.end p.y) F (omega arith) (grows_refl l)
          (started_ok l a F p.inset Deep q r c d p.start p.end p.y g.first h g.order g.last g.y f.above (λ x t. x t) (λ j u w t. omega (arith, f.leads j u w t, f.placed)) b),
    )

    split : Closed (started_at a (split_at l p.start p.y) (suc p.start) (suc p.end) p.y)
    split = subst (λ (t : Float). (Val t × (k p.y ≤ k t)) × (T (in_reach (add binary32 t a.height)) → MadeOk l a F p.inset Deep (started_at a m (suc p.start) (suc p.end) p.y))) (sym (started_y a m (suc p.start) (suc p.end) p.y)) (
      (g.y, omega arith),
      λ b. widen m (started_at a m (suc p.start) (suc p.end) p.y) F (omega arith) (grows_split (inf true) l p.start p.y c g.y f.up_to)
          (started_ok m a F p.inset Deep q r (chain_split (inf true) l p.start p.y c g.y f.above f.up_to) (either_split a.side F l p.start p.y g.first h d) (suc p.start) (suc p.end) p.y (omega (arith, g.first)) (omega (arith, n)) (omega (arith, g.order)) (omega (arith, n, g.last)) g.y (omega (arith, ap k (split_lower l p.start p.y h))) (λ x t. omega (arith, ap k (split_end l p.start p.y p.end g.order), x (omega (arith, n))))
          (λ j u w t. let o = old_gt p.start j (omega arith) in omega (arith, ap k (split_lead a.side l p.start p.y j), f.placed, f.leads (old p.start j) (omega arith) (omega arith) (omega (arith, n)))) b),
    )
      where
        m : List Segment
        m = split_at l p.start p.y

        n : length m ≡ suc (length l)
        n = length_split l p.start p.y h

  pub make_ok : Closed (make a l p)
  make_ok =
      make_ways Closed a l p (λ h. unsplit h (g.fit h)) (λ h u. split h (g.fit h))
      (λ h. let t = chain_last (inf true) l top_low c in ((top_larger t g.y, omega (arith, larger_key t.num g.y.num)), λ b. below_ok l a F p.inset Deep q r c p.y z g.y b))
