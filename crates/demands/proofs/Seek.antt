-- What the search answers: the placed inset covers every band from the start to the end. A failed end is why: see `raises`.
use mathlib.Core.Path.{◌≡◌, refl, sym, ap, subst}
use mathlib.Core.Logic.{◌⊎◌, inl, inr}
use Prim.Native.Nat.{ℕ, zero, suc, ◌+◌, ◌-◌, ◌≤◌, ◌<◌, max}
use native.Mathlib.Nat.{not-suc-le-zero}
use native.Mathlib.Decide.{dec_le}
use native.Mathlib.Omega.{arith}
use mathlib.Core.Bool.{Bool, true, false, not, cond}
use mathlib.Core.List.{List}
use lib.Dec.{T, ltb, eqb, ltb→lt, nltb→le, eqb→eq, eqb_refl, T_not}
use lib.Ieee.{Float, inf, binary32, binary64, add, sub, le}
use lib.ListN.{length, get_or}
use Rattle.f32_laws.specs.Numbers.{larger, zero+}
use Rattle.f32_laws.proofs.Tests.{both}
use Rattle.f32_laws.proofs.Larger.{larger_key, larger_one}
use Rattle.float.specs.declared.FloatDirection.{FloatDirection}
use Rattle.float.specs.declared.Segment.{Segment}
use Rattle.float.specs.declared.fit.Ask.{Ask}
use Rattle.float.specs.declared.search.Reach.{Reach}
use Rattle.float.specs.declared.search.Spot.{Spot}
use Rattle.float.specs.Bands.{other, lead, none}
use Rattle.float.specs.Fit.{placed_at, fits}
use Rattle.float.specs.Search.{Try, State, at_start, at_end, Turn, spot, joined, opened, taller, give_up, high_turn, join_turn, end_turn, fit_turn, start_turn, turn, search_from}
use Rattle.demands.proofs.Laws.{k, Val, Ins, zero_k, ins_zero, larger_ins, larger_top, fits_down}
use Rattle.demands.proofs.Chain.{Chain, chain_at, chain_next}
use Rattle.demands.proofs.Turns.{Ordered, Keeps, search_has}

-- from band f on the insets of the side r do not rise
abbrev pub Falls : FloatDirection → ℕ → List Segment → Type 0
Falls r f l = (i j : ℕ) → f ≤ i → i ≤ j → j < length l → k (lead r (get_or l j none)) ≤ k (lead r (get_or l i none))

pub record Asked (a : Ask) : Type 0 where
  pub width : Ins a.width
  pub height : Ins a.height
  pub page : Ins a.page
  pub cb_lead : Ins a.cb_lead
  pub cb_trail : Ins a.cb_trail

-- What is known of the numbers of the search (Ok), and of the counted height z from y on to the end of band e, kept by opening a start, adding a band and passing one over.
-- Nothing need be known of it for demand 3 on any f32; on 64ths it says that z is no more than the way down.
pub record Count (l : List Segment) : Type 1 where
  pub Ok : Float → Type 0
  pub ok_zero : Ok zero+
  pub ok_lead : (r : FloatDirection) (i : ℕ) → i < length l → Ok (lead r (get_or l i none))
  pub ok_rise : (i : ℕ) (y : Float) → i < length l → Val y → Ok y → Ok (larger y (get_or l i none).start)
  pub Has : ℕ → Float → Float → Type 0
  pub open' : (s : ℕ) (y : Float) → s < length l → Val y → Ok y → k (get_or l s none).start ≤ k y → k y ≤ k (get_or l s none).end → Has s y (sub binary32 (get_or l s none).end y)
  pub next : (e : ℕ) (y z : Float) → suc e < length l → Has e y z → Has (suc e) y (add binary64 z (sub binary32 (get_or l (suc e) none).end (get_or l (suc e) none).start))
  pub skip : (e : ℕ) (y z : Float) → suc e < length l → Has e y z → Has (suc e) y z

abbrev pub no_count : (l : List Segment) → Count l
no_count l = record { Ok = λ y. Unit {0}; ok_zero = tt; ok_lead = λ r i h. tt; ok_rise = λ i y h v o. tt; Has = λ e y z. Unit {0}; open' = λ s y h v k a o. tt; next = λ e y z h p. tt; skip = λ e y z h p. tt }

module _ (l : List Segment) (a : Ask) (F : ℕ) (y0 : Float) (H : Count l) where
  -- what a found start and end keep
  pub record Fit (p : Spot) : Type 0 where
    pub above : k (get_or l p.start none).start ≤ k p.y
    pub up_to : k p.y ≤ k (get_or l p.start none).end
    pub jl : Float
    pub jt : Float
    pub lead_ins : Ins jl
    pub trail_ins : Ins jt
    pub lead_ok : H.Ok jl
    pub trail_ok : H.Ok jt
    pub room : T (fits a jl jt)
    pub placed : k p.inset ≡ max (k jl) (k a.cb_lead)
    pub leads : (i : ℕ) → p.start ≤ i → i ≤ p.end → i < length l → k (lead a.side (get_or l i none)) ≤ k jl
    pub trails : (i : ℕ) → p.start ≤ i → i ≤ p.end → i < length l → k (lead (other a.side) (get_or l i none)) ≤ k jt
    pub deep : p.end < length l → (z : Float) × H.Has p.end p.y z × T (le a.height z)

  pub record Found (p : Spot) : Type 0 where
    pub first : F ≤ p.start
    pub order : p.start ≤ p.end
    pub last : p.end ≤ length l
    pub y : Val p.y
    pub low : k y0 ≤ k p.y
    pub inset : Ins p.inset
    pub y_ok : H.Ok p.y
    pub inset_ok : H.Ok p.inset
    pub alone : length l ≤ p.start → p.inset ≡ a.cb_lead
    pub fit : p.start < length l → Fit p

  -- the bands from the start up to the end were passed over: on the side q none is above the end's
  abbrev Over : FloatDirection → ℕ → ℕ → Type 0
  Over q s e = (i : ℕ) → s ≤ i → i < e → (e < length l) × (k (lead q (get_or l i none)) ≤ k (lead q (get_or l e none)))

  abbrev Passed : ℕ → ℕ → Type 0
  Passed s e = (Falls a.side F l × Over (other a.side) s e) ⊎ (Falls (other a.side) F l × Over a.side s e)

  -- or they are joined already
  abbrev Held : FloatDirection → ℕ → ℕ → Float → Type 0
  Held q s e x = (i : ℕ) → s ≤ i → i < e → (k (lead q (get_or l i none)) ≤ k x) ⊎ ((e < length l) × (k (lead q (get_or l i none)) ≤ k (lead q (get_or l e none))))

  abbrev Taken : ℕ → ℕ → Reach → Type 0
  Taken s e j = (Falls a.side F l × Held (other a.side) s e j.trail) ⊎ (Falls (other a.side) F l × Held a.side s e j.lead)

  -- the height counted so far, before the end band's
  abbrev Tall : ℕ → ℕ → Float → Float → Type 0
  Tall s e y z = ((e ≡ s) × H.Has s y z) ⊎ ((d : ℕ) × (e ≡ suc d) × (s ≤ d) × H.Has d y z)

  record StartOk (s e : ℕ) (y : Float) : Type 0 where
    first : F ≤ s
    val : Val y
    ok : H.Ok y
    low : k y0 ≤ k y
    up_to : s < length l → k y ≤ k (get_or l s none).end
    passed : Passed s e

  record EndOk (s e : ℕ) (y : Float) (j : Reach) : Type 0 where
    first : F ≤ s
    order : s ≤ e
    last : e ≤ length l
    val : Val y
    ok : H.Ok y
    low : k y0 ≤ k y
    real : s < length l
    above : k (get_or l s none).start ≤ k y
    up_to : k y ≤ k (get_or l s none).end
    jl : Ins j.lead
    jt : Ins j.trail
    jl_ok : H.Ok j.lead
    jt_ok : H.Ok j.trail
    room : T (fits a j.lead j.trail)
    has_lead : k (lead a.side (get_or l s none)) ≤ k j.lead
    has_trail : k (lead (other a.side) (get_or l s none)) ≤ k j.trail
    taken : Taken s e j
    tall : Tall s e y j.height

  abbrev Good : State → Type 0
  Good (at_start t) = StartOk t.start t.end t.y
  Good (at_end t j) = EndOk t.start t.end t.y j

  abbrev Follow : Turn → Type 0
  Follow = Keeps l a Good Found

  larger_ok : {x y : Float} → H.Ok x → H.Ok y → H.Ok (larger x y)
  larger_ok {x} {y} p q = go (larger_one x y)
    where
      go : (larger x y ≡ x) ⊎ (larger x y ≡ y) → H.Ok (larger x y)
      go (inl e) = subst H.Ok (sym e) p
      go (inr e) = subst H.Ok (sym e) q

  module _ (c : Chain (inf true) l) (q : Asked a) (cb-ok : H.Ok a.cb_lead) where
    -- a band's insets
    ins : (r : FloatDirection) (i : ℕ) → i < length l → Ins (lead r (get_or l i none))
    ins r i h = (chain_at (inf true) l i c h).inset r

    -- what is passed over once the start is given up
    next_over : (r : FloatDirection) (s e : ℕ) → s ≤ e → Over r s e → Over r (suc s) (max e (suc s))
    next_over r s e h p i u v =
        let z : max e (suc s) ≡ e = omega arith in
        subst (λ (d : ℕ). (d < length l) × (k (lead r (get_or l i none)) ≤ k (lead r (get_or l d none)))) (sym z) (p i (omega arith) (omega arith))

    next_passed : (s e : ℕ) → s ≤ e → Passed s e → Passed (suc s) (max e (suc s))
    next_passed s e h (inl p) = inl (p.0, next_over (other a.side) s e h p.1)
    next_passed s e h (inr p) = inr (p.0, next_over a.side s e h p.1)

    give_up_lem : (t : Try) → F ≤ t.start → t.start ≤ t.end → Val t.y → H.Ok t.y → k y0 ≤ k t.y → k t.y ≤ k (get_or l t.start none).end → Passed t.start t.end → Follow (give_up t)
    give_up_lem t i o v v' w x p = record {
      first = omega arith;
      val = v;
      ok = v';
      low = w;
      up_to = λ (m : suc t.start < length l). omega (arith, ap k (chain_next (inf true) l t.start c m), (chain_at (inf true) l (suc t.start) c m).order);
      passed = next_passed t.start t.end o p;
    }

    module _ (s e : ℕ) (y : Float) (n : ℕ) (j : Reach) (g : EndOk s e y j) where
      abbrev here : Try
      here = record { start = s; end = e; y = y; steps = n }

      -- on the side r every band up to the end, the end's own left out, is covered by what covers the joined inset and the end's
      covered : (r : FloatDirection) (x0 x : Float) → Falls r F l ⊎ Held r s e x0 → k (lead r (get_or l s none)) ≤ k x0 → k x0 ≤ k x → (e < length l → k (lead r (get_or l e none)) ≤ k x) → (i : ℕ) → s ≤ i → i < e → i < length l → k (lead r (get_or l i none)) ≤ k x
      covered r x0 x d m h o i u v w = go d
        where
          go : Falls r F l ⊎ Held r s e x0 → k (lead r (get_or l i none)) ≤ k x
          go (inl p) = omega (arith, p s i g.first u w)
          go (inr p) = on (p i u v)
            where
              on : (k (lead r (get_or l i none)) ≤ k x0) ⊎ ((e < length l) × (k (lead r (get_or l i none)) ≤ k (lead r (get_or l e none)))) → k (lead r (get_or l i none)) ≤ k x
              on (inl m) = omega arith
              on (inr m) = omega (arith, o m.0)

      covered' : (r : FloatDirection) (x0 x : Float) → Falls r F l ⊎ Held r s e x0 → k (lead r (get_or l s none)) ≤ k x0 → k x0 ≤ k x → (e < length l → k (lead r (get_or l e none)) ≤ k x) → (i : ℕ) → s ≤ i → i ≤ e → i < length l → k (lead r (get_or l i none)) ≤ k x
      covered' r x0 x d m h o i u v w = go (dec_le e i)
        where
          go : Dec (e ≤ i) → k (lead r (get_or l i none)) ≤ k x
          go (yes t) = subst (λ (b : ℕ). b < length l → k (lead r (get_or l b none)) ≤ k x) (omega arith) o w
          go (no t) = covered r x0 x d m h o i u (omega arith) w

      of_lead : Taken s e j → Falls a.side F l ⊎ Held a.side s e j.lead
      of_lead (inl p) = inl p.0
      of_lead (inr p) = inr p.1

      of_trail : Taken s e j → Falls (other a.side) F l ⊎ Held (other a.side) s e j.trail
      of_trail (inl p) = inr p.1
      of_trail (inr p) = inl p.0

      found : (xl xt : Float) → Ins xl → Ins xt → H.Ok xl → H.Ok xt → T (fits a xl xt) → k j.lead ≤ k xl → k j.trail ≤ k xt → (e < length l → k (lead a.side (get_or l e none)) ≤ k xl) → (e < length l → k (lead (other a.side) (get_or l e none)) ≤ k xt)
          → (e < length l → (z : Float) × H.Has e y z × T (le a.height z)) → Found (spot here (placed_at a xl))
      unfolding placed_at
      found xl xt v v' w w' t h h' o o' deep = let m = larger_key v.num q.cb_lead.num in record {
        first = g.first;
        order = g.order;
        last = g.last;
        y = g.val;
        low = g.low;
        inset = larger_ins v q.cb_lead;
        y_ok = g.ok;
        inset_ok = larger_ok w cb-ok;
        alone = λ o. absurd (not-suc-le-zero {n = 0} (omega (arith, g.real)));
        fit = λ u. record {
          above = g.above;
          up_to = g.up_to;
          jl = xl;
          jt = xt;
          lead_ins = v;
          trail_ins = v';
          lead_ok = w;
          trail_ok = w';
          room = t;
          placed = m;
          leads = covered' a.side j.lead xl (of_lead g.taken) g.has_lead h o;
          trails = covered' (other a.side) j.trail xt (of_trail g.taken) g.has_trail h' o';
          deep = deep;
        };
      }

      module _ (h : e < length l) where
        abbrev j' : Reach
        j' = joined a.side j (get_or l e none)

        lead' : Ins j'.lead
        unfolding joined
        lead' = larger_ins g.jl (ins a.side e h)

        trail' : Ins j'.trail
        unfolding joined
        trail' = larger_ins g.jt (ins (other a.side) e h)

        lead_ok' : H.Ok j'.lead
        unfolding joined
        lead_ok' = larger_ok g.jl_ok (H.ok_lead a.side e h)

        trail_ok' : H.Ok j'.trail
        unfolding joined
        trail_ok' = larger_ok g.jt_ok (H.ok_lead (other a.side) e h)

        lead_is : k j'.lead ≡ max (k j.lead) (k (lead a.side (get_or l e none)))
        unfolding joined
        lead_is = larger_key g.jl.num (ins a.side e h).num

        trail_is : k j'.trail ≡ max (k j.trail) (k (lead (other a.side) (get_or l e none)))
        unfolding joined
        trail_is = larger_key g.jt.num (ins (other a.side) e h).num

        -- the end does not fit: it raised one of the two insets
        raises : T (not (fits a j'.lead j'.trail)) → k (lead a.side (get_or l e none)) ≤ k j.lead → k (lead (other a.side) (get_or l e none)) ≤ k j.trail → ⊥
        raises t m o = T_not (fits a j'.lead j'.trail) t (fits_down a q.width q.page q.cb_lead q.cb_trail lead' trail' g.jl g.jt (omega (arith, lead_is)) (omega (arith, trail_is)) g.room)

        over : (r : FloatDirection) (x : Float) → (k (lead r (get_or l e none)) ≤ k x → ⊥) → Held r s e x → Over r s e
        over r x w p i u v = (h, on (p i u v))
          where
            on : (k (lead r (get_or l i none)) ≤ k x) ⊎ ((e < length l) × (k (lead r (get_or l i none)) ≤ k (lead r (get_or l e none)))) → k (lead r (get_or l i none)) ≤ k (lead r (get_or l e none))
            on (inl m) = omega arith
            on (inr m) = m.1

        failed : T (not (fits a j'.lead j'.trail)) → Passed s e
        failed t = go g.taken
          where
            go : Taken s e j → Passed s e
            go (inl p) = let m = p.0 s e g.first g.order h in inl (p.0, over (other a.side) j.trail (λ o. raises t (omega (arith, g.has_lead)) o) p.1)
            go (inr p) = let m = p.0 s e g.first g.order h in inr (p.0, over a.side j.lead (λ o. raises t o (omega (arith, g.has_trail))) p.1)

        -- the end band's height is counted
        higher : H.Has e y (taller j' (get_or l e none) (eqb e s)).height
        unfolding taller joined
        higher = go (eqb e s) (eqb→eq e s) (λ t o. T_not (eqb e s) t (subst (λ (z : ℕ). T (eqb e z)) o (eqb_refl e))) g.tall
          where
            go : (t : Bool) → (T t → e ≡ s) → (T (not t) → e ≡ s → ⊥) → Tall s e y j.height → H.Has e y (cond t j.height (add binary64 j.height (sub binary32 (get_or l e none).end (get_or l e none).start)))
            go true m m' (inl p) = subst (λ (z : ℕ). H.Has z y j.height) (sym p.0) p.1
            go true m m' (inr p) = absurd (not-suc-le-zero {n = 0} (omega (arith, m tt, p.1, p.2)))
            go false m m' (inl p) = absurd (m' tt p.0)
            go false m m' (inr p) = subst (λ (z : ℕ). H.Has z y (add binary64 j.height (sub binary32 (get_or l z none).end (get_or l z none).start))) (sym p.1) (H.next p.0 y j.height (subst (λ (z : ℕ). z < length l) p.1 h) p.3)

        held : (r : FloatDirection) (x0 x : Float) → Held r s e x0 → k x0 ≤ k x → k (lead r (get_or l e none)) ≤ k x → Held r s (suc e) x
        held r x0 x p m o i u v = inl (go (dec_le e i))
          where
            on : (k (lead r (get_or l i none)) ≤ k x0) ⊎ ((e < length l) × (k (lead r (get_or l i none)) ≤ k (lead r (get_or l e none)))) → k (lead r (get_or l i none)) ≤ k x
            on (inl d) = omega arith
            on (inr d) = omega arith

            go : Dec (e ≤ i) → k (lead r (get_or l i none)) ≤ k x
            go (yes d) = subst (λ (b : ℕ). k (lead r (get_or l b none)) ≤ k x) {x = e} {y = i} (omega arith) o
            go (no d) = on (p i u (omega arith))

        went : T (fits a j'.lead j'.trail) → (z : Float) → H.Has e y z → EndOk s (suc e) y (record { lead = j'.lead; trail = j'.trail; height = z })
        went t z d = record {
          first = g.first;
          order = omega (arith, g.order);
          last = h;
          val = g.val;
          ok = g.ok;
          low = g.low;
          real = g.real;
          above = g.above;
          up_to = g.up_to;
          jl = lead';
          jt = trail';
          jl_ok = lead_ok';
          jt_ok = trail_ok';
          room = t;
          has_lead = omega (arith, lead_is, g.has_lead);
          has_trail = omega (arith, trail_is, g.has_trail);
          taken = go g.taken;
          tall = inr (e, refl, g.order, d);
        }
          where
            go : Taken s e j → Taken s (suc e) (record { lead = j'.lead; trail = j'.trail; height = z })
            go (inl p) = inl (p.0, held (other a.side) j.trail j'.trail p.1 (omega (arith, trail_is)) (omega (arith, trail_is)))
            go (inr p) = inr (p.0, held a.side j.lead j'.lead p.1 (omega (arith, lead_is)) (omega (arith, lead_is)))

      end_ok : Follow (end_turn l a here j)
      unfolding end_turn join_turn high_turn taller
      end_ok =
          both Follow (ltb e (length l))
          (λ t. let h = ltb→lt e (length l) t in
          both Follow (fits a (j' h).lead (j' h).trail)
          (λ u. both Follow (le a.height (taller (j' h) (get_or l e none) (eqb e s)).height)
          (λ v. found (j' h).lead (j' h).trail (lead' h) (trail' h) (lead_ok' h) (trail_ok' h) u (omega (arith, lead_is h)) (omega (arith, trail_is h)) (λ o. omega (arith, lead_is h)) (λ o. omega (arith, trail_is h)) (λ o. (_, higher h, v)))
          (λ v. went h u _ (higher h)))
          (λ u. give_up_lem here g.first g.order g.val g.ok g.low g.up_to (failed h u)))
          (λ t. let h = nltb→le e (length l) t in
          found j.lead j.trail g.jl g.jt g.jl_ok g.jt_ok g.room (omega arith) (omega arith) (λ o. absurd (not-suc-le-zero {n = 0} (omega arith))) (λ o. absurd (not-suc-le-zero {n = 0} (omega arith))) (λ o. absurd (not-suc-le-zero {n = 0} (omega arith))))

    -- the bands between the start and an end that stayed behind are passed over
    skipped : (s d : ℕ) (y z : Float) → s + d < length l → H.Has s y z → H.Has (s + d) y z
    skipped s zero y z h p = subst (λ (i : ℕ). H.Has i y z) {x = s} {y = s + 0} (omega arith) p
    skipped s (suc d) y z h p =
        let e : s + suc d ≡ suc (s + d) = omega arith in
        subst (λ (i : ℕ). H.Has i y z) (sym e) (H.skip (s + d) y z (omega arith) (skipped s d y z (omega arith) p))

    -- a start band that fits
    opened_ok : (s e : ℕ) (y : Float) → s ≤ e → e ≤ length l → StartOk s e y → (h : s < length l) → T (fits a (lead a.side (get_or l s none)) (lead (other a.side) (get_or l s none)))
        → EndOk s e (larger y (get_or l s none).start) (opened a.side (get_or l s none) (larger y (get_or l s none).start))
    unfolding joined
    opened_ok s e y o o' g h t =
        let b = chain_at (inf true) l s c h in
        let m = larger_key g.val.num b.start.num in
        let u = larger_key ins_zero.num (ins a.side s h).num in
        let v = larger_key ins_zero.num (ins (other a.side) s h).num in
        let w = larger_top g.val b.start in
        record {
          first = g.first;
          order = o;
          last = o';
          val = w;
          ok = H.ok_rise s y h g.val g.ok;
          low = omega (arith, g.low);
          real = h;
          above = omega arith;
          up_to = omega (arith, g.up_to h, b.order);
          jl = larger_ins ins_zero (ins a.side s h);
          jt = larger_ins ins_zero (ins (other a.side) s h);
          jl_ok = larger_ok H.ok_zero (H.ok_lead a.side s h);
          jt_ok = larger_ok H.ok_zero (H.ok_lead (other a.side) s h);
          room = fits_down a q.width q.page q.cb_lead q.cb_trail (larger_ins ins_zero (ins a.side s h)) (larger_ins ins_zero (ins (other a.side) s h)) (ins a.side s h) (ins (other a.side) s h) (omega (arith, zero_k, (ins a.side s h).low)) (omega (arith, zero_k, (ins (other a.side) s h).low)) t;
          has_lead = omega arith;
          has_trail = omega arith;
          taken = on g.passed;
          tall = up (dec_le e s) (H.open' s (larger y (get_or l s none).start) h w (H.ok_rise s y h g.val g.ok) (omega arith) (omega (arith, g.up_to h, b.order)));
        }
      where
        on : Passed s e → Taken s e (opened a.side (get_or l s none) (larger y (get_or l s none).start))
        on (inl p) = inl (p.0, λ i u v. inr (p.1 i u v))
        on (inr p) = inr (p.0, λ i u v. inr (p.1 i u v))

        up : {z : Float} → Dec (e ≤ s) → H.Has s (larger y (get_or l s none).start) z → Tall s e (larger y (get_or l s none).start) z
        up {z} (yes d) p = inl (omega arith, p)
        up {z} (no d) p = inr (s + (e - suc s), omega arith, omega arith, skipped s (e - suc s) (larger y (get_or l s none).start) z (omega arith) p)

    turn_ok : (st : State) → Ordered l a st → Good st → Follow (turn l a st)
    unfolding start_turn fit_turn
    turn_ok (at_start t) o g =
        let s = t.start in
        let z = larger t.y (get_or l s none).start in
        both Follow (ltb s (length l))
        (λ r. let h = ltb→lt s (length l) r in
        both Follow (fits a (lead a.side (get_or l s none)) (lead (other a.side) (get_or l s none)))
        (λ u. end_ok s t.end z t.steps (opened a.side (get_or l s none) z) (opened_ok s t.end t.y o.0 o.1 g h u))
        (λ u. give_up_lem t g.first o.0 g.val g.ok g.low (g.up_to h) g.passed))
        (λ r. let h = nltb→le s (length l) r in record {
          first = g.first;
          order = o.0;
          last = o.1;
          y = g.val;
          low = g.low;
          inset = q.cb_lead;
          y_ok = g.ok;
          inset_ok = cb-ok;
          alone = λ o. refl;
          fit = λ o. absurd (not-suc-le-zero {n = 0} (omega arith));
        })
    turn_ok (at_end t j) o g = end_ok t.start t.end t.y t.steps j g

    -- from a first band whose end is at or below y0
    pub search_law : (s : ℕ) → F ≤ s → s ≤ length l → Val y0 → H.Ok y0 → (s < length l → k y0 ≤ k (get_or l s none).end) → Falls a.side F l ⊎ Falls (other a.side) F l → Found (search_from l a s y0)
    search_law s h i v v' e d = search_has l a Good Found turn_ok s y0 i (record {
      first = h;
      val = v;
      ok = v';
      low = omega arith;
      up_to = e;
      passed = go d;
    })
      where
        go : Falls a.side F l ⊎ Falls (other a.side) F l → Passed s s
        go (inl p) = inl (p, λ i u w. absurd (not-suc-le-zero {n = 0} (omega arith)))
        go (inr p) = inr (p, λ i u w. absurd (not-suc-le-zero {n = 0} (omega arith)))
