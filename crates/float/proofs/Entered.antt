-- What `enter` answers: a box of no height with a plan that changes nothing, any other with the plan of rules 6 and 7; the plan's y and count decide refusals 6 and 7, and its bands and numbers are those of the rules.
use Rattle.std.proofs.Common.{◌≡◌, ℕ, ◌-◌, ◌<◌, ◌≤◌, min, Bool, true, false, leb, List, length, get_or, take, set, sym, refl, ap, ◌∙◌, subst, arith, length-take-le, ext_get_or, le-leb, leb-false, leb-true, Result, Ok, Err}
use native.Mathlib.Decide.{dec_le}
use borrow.Author.Tests.{lt-leb}
use lib.Count.{count_trailing_zeros}
use lib.Ieee.{Float, inf, binary32, add, eq, of_bits, of_fields}
use Rattle.f32_laws.specs.Numbers.{zero+}
use Rattle.float.specs.declared.Head.{Head}
use Rattle.float.specs.declared.Placed.{Placed}
use Rattle.float.specs.declared.PlacedFloatedBox.{PlacedFloatedBox}
use Rattle.float.specs.declared.Refusal.{Refusal}
use Rattle.float.specs.declared.Segment.{Segment}
use Rattle.float.specs.declared.fit.Ask.{Ask}
use Rattle.float.specs.declared.hold.Admission.{Admission}
use Rattle.float.specs.declared.hold.Entry.{Entry}
use Rattle.float.specs.declared.plan.Plan.{Plan}
use Rattle.float.specs.declared.search.Spot.{Spot}
use Rattle.float.specs.Bands.{none, last_end, first_below}
use Rattle.float.specs.Head.{page_with}
use Rattle.float.specs.Hold.{sought_in, head_after, entered_as, entered_of, Admitted, WalkedBack, Enters}
use Rattle.float.specs.Page.{page_of}
use Rattle.float.specs.Place.{Call, Made, end_of, walked, make, near, box_of, x_of, flat, high, put, held, place_of}
use Rattle.float.specs.Plan.{still_plan, plan_from, source, shaped, Tab}
use Rattle.float.specs.Search.{search_from}
use Rattle.float.proofs.Holding.{looked_order}
use Rattle.float.proofs.Make.{walk_between}
use Rattle.float.proofs.Planned.{Recorded, code_recorded}
use Rattle.float.proofs.Settled.{live_bands, flat_far, flat_settled, high_far, high_full, high_settled}

-- the literal 0.0
zero_bits : of_bits binary32 0 ≡ zero+
unfolding zero+ of_bits of_fields count_trailing_zeros
zero_bits = refl

-- an array of which no place was written
tab_none : (f : ℕ → Segment → Segment) (g : ℕ → ℕ) (l m : List Segment) (lo : ℕ) → Tab f g l m lo lo → m ≡ l
tab_none f g l m lo t = ext_get_or none m l t.long (λ i h. at i (dec_le lo i))
  where
    at : (i : ℕ) → Dec (lo ≤ i) → get_or m i none ≡ get_or l i none
    at i (yes h) = t.above i h
    at i (no h) = t.below i (omega arith)

module _ (h : Head) (bs : List Segment) (xs : List PlacedFloatedBox) (a : Ask) (s : Spot) where
  -- the plan p gives what the placement r is
  record Right (p : Plan) (r : Placed) : Type 0 where
    far : near a s.inset p.y ≡ false → r ≡ record { answer = Err Refusal.TooFar; page = page_with h bs xs }
    full : near a s.inset p.y ≡ true → 96 < p.count → r ≡ record { answer = Err Refusal.BandsFull; page = page_with h bs xs }
    room : p.count ≤ 96 → (p.low ≤ p.high) × (p.high ≤ 96)
    done : near a s.inset p.y ≡ true → p.count ≤ 96 → (q : List Segment) → Tab (shaped a p) (source p) bs q p.low p.high → r ≡ record { answer = Ok (record { x = x_of a s.inset; y = p.y; steps = s.steps }); page = page_with (head_after h a p) q (set xs h.box_count (box_of a s.inset p.y)) }

  enters : (c : Call) (p : Plan) (r : Placed) → place_of (page_with h bs xs) c ≡ r → h.box_count < 64 → Right p r → Enters bs xs h c a (entered_of h a s p)
  unfolding entered_of
  enters c p r e few w = go (near a s.inset p.y) (leb p.count 96) refl refl
    where
      go : (t u : Bool) → near a s.inset p.y ≡ t → leb p.count 96 ≡ u → Enters bs xs h c a (entered_as h a s p t u)
      go false u et eu = e ∙ w.far et
      go true false et eu = e ∙ w.full et (leb-false p.count 96 eu)
      go true true et eu =
          let k = leb-true p.count 96 eu in
          let o = w.room k in
          record { room = (o.0, o.1, few); accepted = λ q t. e ∙ w.done et k q t }

module _ (h : Head) (adm : Admission) (s : Spot) (n : ℕ) (en : n ≡ min adm.n 96) (c : Call) (bs : List Segment) (xs : List PlacedFloatedBox) (bands : length bs ≡ 96) (boxes : length xs ≡ 64) (admitted : Admitted h c adm) (es : s ≡ sought_in bs adm) where
  n_is : adm.n ≡ n
  n_is = omega (arith, admitted.few)

  live : n ≡ min h.count 96
  live = sym n_is ∙ admitted.live

  few : h.box_count < 64
  few = admitted.boxes

  put_is : place_of (page_with h bs xs) c ≡ held (page_with h bs xs) (put (page_of (page_with h bs xs)) adm.ask s)
  put_is = admitted.passed bs xs bands boxes ∙ ap (λ (v : Spot). held (page_with h bs xs) (put (page_of (page_with h bs xs)) adm.ask v)) (sym es)

  height_is : (t : Bool) → eq adm.ask.height (of_bits binary32 0) ≡ t → eq adm.ask.height zero+ ≡ t
  height_is t e = ap (eq adm.ask.height) (sym zero_bits) ∙ e

  flat_is : eq adm.ask.height (of_bits binary32 0) ≡ true → held (page_with h bs xs) (put (page_of (page_with h bs xs)) adm.ask s) ≡ held (page_with h bs xs) (flat (page_of (page_with h bs xs)) adm.ask s)
  unfolding put
  flat_is o = let t = height_is true o in simp (put, t)

  pub enters_flat : eq adm.ask.height (of_bits binary32 0) ≡ true → (p : Plan) → p ≡ still_plan n s → (r : Result Entry Refusal) → r ≡ entered_of h adm.ask s p → Enters bs xs h c adm.ask r
  enters_flat o p ep r er =
      subst (λ (v : Result Entry Refusal). Enters bs xs h c adm.ask v) (sym (er ∙ ap (entered_of h adm.ask s) ep))
      (enters h bs xs adm.ask s c (still_plan n s) _ (put_is ∙ flat_is o) few
      (record {
        far = flat_far h bs xs bands boxes n live few adm.ask s;
        full = λ t u. absurd (omega arith);
        room = λ u. (omega arith, omega arith);
        done = λ t u q v. flat_settled h bs xs bands boxes n live few adm.ask s t (still_plan n s) refl refl refl ∙ ap (λ (b : List Segment). record { answer = Ok (record { x = x_of adm.ask s.inset; y = s.y; steps = s.steps }); page = page_with (head_after h adm.ask (still_plan n s)) b (set xs h.box_count (box_of adm.ask s.inset s.y)) }) (sym (tab_none _ _ bs q 0 v));
      }))

  -- with a height: last, first and end are the bands that were read, i the end walked back
  module _ (o : eq adm.ask.height (of_bits binary32 0) ≡ false) (last first end : Segment) (z : Float) (ez : (l : List Segment) → n ≤ length l → last ≡ get_or l (n - 1) none → z ≡ last_end (inf true) (take n l)) (e i : ℕ) (ei : i ≡ min e 95)
      (back : WalkedBack (take adm.n bs) adm.ask s e) (el : last ≡ get_or bs (adm.n - min adm.n 1) none) (ef : first ≡ get_or bs (min s.start 95) none) (ee : end ≡ get_or bs (min e 95) none) (num : ℕ) (en' : num ≡ min h.box_count 63) (p : Plan) (ep : p ≡ plan_from n z adm.ask s num i first end) where
    most : n ≤ 96
    most = omega arith

    len : length (take n bs) ≡ n
    len = length-take-le n bs (omega arith)

    order : (s.start ≤ s.end) × (s.end ≤ n)
    order =
        let w = looked_order (take n bs) adm.ask adm.first adm.y s (subst (λ (k : ℕ). s ≡ search_from (take k bs) adm.ask (first_below (take k bs) adm.first adm.y) adm.y) n_is es) in
        (w.0, omega (arith, len, w.1))

    last_is : z ≡ end_of (take n bs)
    last_is = ez bs (omega arith) (el ∙ ap (λ (k : ℕ). get_or bs k none) (omega (arith, n_is)))

    end_is : s.end < n → i ≡ walked (take n bs) s.start (add binary32 s.y adm.ask.height) s.end
    end_is k =
        let b = subst (λ (k : ℕ). WalkedBack (take k bs) adm.ask s e) n_is back in
        let v = b.inside (omega (arith, len)) in
        let w = walk_between (take n bs) s.start (add binary32 s.y adm.ask.height) s.end order.0 in
        omega arith

    start_at : s.start < n → first ≡ get_or bs s.start none
    start_at k = ef ∙ ap (λ (j : ℕ). get_or bs j none) (omega arith)

    end_at : s.end < n → end ≡ get_or bs i none
    end_at k = ee ∙ ap (λ (j : ℕ). get_or bs j none) (sym ei)

    abbrev M : Made
    M = make adm.ask (take n bs) s

    high_is : held (page_with h bs xs) (put (page_of (page_with h bs xs)) adm.ask s) ≡ held (page_with h bs xs) (high (page_of (page_with h bs xs)) adm.ask s M)
    unfolding put page_of
    high_is =
        let t = height_is false o in
        let l = live_bands h bs xs bands boxes n live few adm.ask s in
        simp (put, t, l)

    -- a page that takes a box has a place for it
    number_is : num ≡ h.box_count
    number_is = omega (arith, few)

    made : Recorded adm.ask bs n s h.box_count p
    made = code_recorded adm.ask bs n s h.box_count bands most order.0 order.1 z last_is i end_is first end start_at end_at p (ep ∙ ap (λ (k : ℕ). plan_from n z adm.ask s k i first end) number_is)

    near_is : (t : Bool) → near adm.ask s.inset p.y ≡ t → near adm.ask s.inset M.y ≡ t
    near_is t u = ap (near adm.ask s.inset) made.y ∙ u

    right : Right h bs xs adm.ask s p (held (page_with h bs xs) (high (page_of (page_with h bs xs)) adm.ask s M))
    right = record {
      far = λ t. high_far h bs xs bands boxes n live few adm.ask s M (near_is false t);
      full = λ t u. high_full h bs xs bands boxes n live few adm.ask s M (near_is true t) (lt-leb (length M.bands) 96 (omega (arith, made.count)));
      room = made.room;
      done = λ t u q v.
          high_settled h bs xs bands boxes n live few adm.ask s M (near_is true t) (le-leb (length M.bands) 96 (omega (arith, made.count))) p made.count made.start made.y
          ∙ ap (λ (b : List Segment). record { answer = Ok (record { x = x_of adm.ask s.inset; y = p.y; steps = s.steps }); page = page_with (head_after h adm.ask p) b (set xs h.box_count (box_of adm.ask s.inset p.y)) }) (sym (made.bands u q v));
    }

    pub enters_high : (r : Result Entry Refusal) → r ≡ entered_of h adm.ask s p → Enters bs xs h c adm.ask r
    enters_high r er = subst (λ (v : Result Entry Refusal). Enters bs xs h c adm.ask v) (sym er) (enters h bs xs adm.ask s c p _ (put_is ∙ high_is) few right)
