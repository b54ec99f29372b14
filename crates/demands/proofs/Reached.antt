-- Every page that a run reaches keeps the invariant, and no inset falls on the way: one call after the other.
use mathlib.Core.Path.{sym, subst}
use mathlib.Core.List.{List, [], ◌∷◌}
use lib.Ieee.{Float}
use Rattle.float.specs.Page.{Page, fresh}
use Rattle.float.specs.Place.{Call, cleaned, place, place_of, set_width}
use Rattle.demands.specs.Runs.{Each, Act, new_page, width, box, Accepted, Run, noted, started, next, run, page_in, bands_in, Stays, handed, Handed, F32, Whole64}
use Rattle.demands.proofs.Heights.{Grows, grows_refl, grows_trans}
use Rattle.demands.proofs.Lists.{each_both, each_of}
use Rattle.demands.proofs.Whole.{Inv, fresh_inv, place_ok, wide_ok, Sunk, fresh_sunk, wide_sunk}
use Rattle.demands.proofs.Numbers.{Named, fresh_named, place_named, wide_named}
use Rattle.demands.proofs.Upright.{Upright, fresh_upright, place_upright, wide_upright}
use Rattle.demands.proofs.Deep.{Deep, fresh_deep, place_deep, wide_deep, Sinks}
use Rattle.demands.proofs.Ways.{width_ways}
use Rattle.demands.proofs.Structs.{page_fresh, page_placed, page_widened}
use Rattle.demands.proofs.Apart.{Inv64}
use Rattle.demands.proofs.Whole64.{place64, wide64, fresh64}

-- what each call keeps, a run keeps
run_keeps : (P : Run → Type 0) (A : Act → Type 0) → ((r : Run) (o : Act) → P r → A o → P (next r o)) → (r : Run) (os : List Act) → P r → Each A os → P (run r os)
unfolding run
run_keeps P A f r [] p h = p
run_keeps P A f r (o ∷ os) p h = run_keeps P A f (next r o) os (f r o p h.0) h.1

-- on the struct as on the page
module _ (P : Page → List Accepted → Type 0) where
  abbrev pub In : Run → Type 0
  In r = P (page_in r) r.accepted

  in_placed : (r : Run) (c : Call) → P (place (page_in r) c).page (noted (place (page_in r) c).answer (cleaned c) (place (page_in r) c).page r.accepted) → In (next r (box c))
  unfolding place_of
  in_placed r c h = subst (λ (q : Page). P q (noted (place (page_in r) c).answer (cleaned c) q r.accepted)) (sym (page_placed r.struct c)) h

  in_started : P fresh [] → In started
  in_started h = subst (λ (q : Page). P q []) (sym page_fresh) h

  in_widened : (r : Run) (w : Float) → P (set_width (page_in r) w) r.accepted → In (next r (width w))
  in_widened r w h = subst (λ (q : Page). P q r.accepted) (sym (page_widened r.struct w)) h

-- ---- any numbers
next_named : (r : Run) (o : Act) → In Named r → Unit {0} → In Named (next r o)
next_named r new_page v u = in_started Named fresh_named
next_named r (width w) v u = in_widened Named r w (wide_named (page_in r) r.accepted w v)
next_named r (box c) v u = in_placed Named r c (place_named (page_in r) r.accepted c v)

pub named : (os : List Act) → In Named (run started os)
named os = run_keeps (In Named) (λ o. Unit {0}) next_named started os (in_started Named fresh_named) (each_of (λ o. Unit {0}) os (λ o. tt))

-- ---- any f32
next_inv : (r : Run) (o : Act) → In Inv r → Each F32 (handed o) → In Inv (next r o)
next_inv r new_page v f = in_started Inv fresh_inv
next_inv r (width w) v f = in_widened Inv r w (wide_ok (page_in r) r.accepted w v f.0).0
next_inv r (box c) v f = in_placed Inv r c (place_ok (page_in r) r.accepted c v f).inv

next_grows : (r : Run) (o : Act) → In Inv r → Each F32 (handed o) → Stays o → Grows (bands_in r) (bands_in (next r o))
next_grows r new_page v f s = absurd s
next_grows r (width w) v f s = in_widened (λ q l. Grows (bands_in r) q.bands) r w (subst (Grows (bands_in r)) (sym (wide_ok (page_in r) r.accepted w v f.0).1) (grows_refl (bands_in r)))
next_grows r (box c) v f s = in_placed (λ q l. Grows (bands_in r) q.bands) r c (place_ok (page_in r) r.accepted c v f).grows

pub reached : (os : List Act) → Handed F32 os → In Inv (run started os)
reached os f = run_keeps (In Inv) (λ o. Each F32 (handed o)) next_inv started os (in_started Inv fresh_inv) f

abbrev Low : Page → List Accepted → Type 0
Low q g = Inv q g × Sunk q

next_low : (r : Run) (o : Act) → In Low r → Each F32 (handed o) → In Low (next r o)
next_low r new_page v f = in_started Low (fresh_inv, fresh_sunk)
next_low r (width w) v f = in_widened Low r w ((wide_ok (page_in r) r.accepted w v.0 f.0).0, wide_sunk (page_in r) w v.1)
next_low r (box c) v f = in_placed Low r c (let s = place_ok (page_in r) r.accepted c v.0 f in (s.inv, s.sunk v.1))

pub sunk : (os : List Act) → Handed F32 os → Sunk (page_in (run started os))
sunk os f = (run_keeps (In Low) (λ o. Each F32 (handed o)) next_low started os (in_started Low (fresh_inv, fresh_sunk)) f).1

-- with no minus zero, and with its depth
abbrev Stood : Page → List Accepted → Type 0
Stood q g = Inv q g × Upright q × Deep q g

fresh_stood : Stood fresh []
fresh_stood = (fresh_inv, fresh_upright, fresh_deep)

next_stood : (r : Run) (o : Act) → In Stood r → Each F32 (handed o) → In Stood (next r o)
next_stood r new_page v f = in_started Stood fresh_stood
next_stood r (width w) v f = in_widened Stood r w ((wide_ok (page_in r) r.accepted w v.0 f.0).0, wide_upright (page_in r) w v.1, wide_deep (page_in r) r.accepted w v.2)
next_stood r (box c) v f = in_placed Stood r c ((place_ok (page_in r) r.accepted c v.0 f).inv, place_upright (page_in r) c v.1 f, (place_deep (page_in r) r.accepted c v.0 v.1 v.2 f).0)

stood : (os : List Act) → Handed F32 os → In Stood (run started os)
stood os f = run_keeps (In Stood) (λ o. Each F32 (handed o)) next_stood started os (in_started Stood fresh_stood) f

pub upright : (os : List Act) → Handed F32 os → Upright (page_in (run started os))
upright os f = (stood os f).1

pub deep : (os : List Act) → Handed F32 os → In Deep (run started os)
deep os f = (stood os f).2

-- the depth never falls
next_sinks : (r : Run) (o : Act) → In Stood r → Each F32 (handed o) → Stays o → Sinks (page_in r).depth (page_in (next r o)).depth
next_sinks r new_page v f s = absurd s
next_sinks r (width w) v f s = in_widened (λ q l. Sinks (page_in r).depth q.depth) r w (width_ways (λ q. Sinks (page_in r).depth q.depth) (page_in r) w (λ x h. h) (λ x h. h))
next_sinks r (box c) v f s = in_placed (λ q l. Sinks (page_in r).depth q.depth) r c (place_deep (page_in r) r.accepted c v.0 v.1 v.2 f).1

pub sinking : (os more : List Act) → Handed F32 os → Handed F32 more → Each Stays more → In Deep (run (run started os) more) × Sinks (page_in (run started os)).depth (page_in (run (run started os) more)).depth
sinking os more f g s =
    let r = run started os in
    let w = run_keeps (λ t. In Stood t × Sinks (page_in r).depth (page_in t).depth) (λ o. Each F32 (handed o) × Stays o)
    (λ t o p h. (next_stood t o p.0 h.0, λ x i. next_sinks t o p.0 h.0 h.1 x (p.1 x i)))
    r more (stood os f, λ x h. h) (each_both (λ o. Each F32 (handed o)) Stays more g s) in
    (w.0.2, w.1)

pub grown : (r : Run) (os : List Act) → In Inv r → Handed F32 os → Each Stays os → In Inv (run r os) × Grows (bands_in r) (bands_in (run r os))
grown r os v f s =
    run_keeps (λ t. In Inv t × Grows (bands_in r) (bands_in t)) (λ o. Each F32 (handed o) × Stays o)
    (λ t o p h. (next_inv t o p.0 h.0, grows_trans (bands_in r) (bands_in t) (bands_in (next t o)) p.1 (next_grows t o p.0 h.0 h.1)))
    r os (v, grows_refl (bands_in r)) (each_both (λ o. Each F32 (handed o)) Stays os f s)

-- ---- whole 64ths
next64 : (r : Run) (o : Act) → In Inv64 r → Each F32 (handed o) × Each Whole64 (handed o) → In Inv64 (next r o)
next64 r new_page v f = in_started Inv64 fresh64
next64 r (width w) v f = in_widened Inv64 r w (wide64 (page_in r) r.accepted w v f.0.0 f.1.0)
next64 r (box c) v f = in_placed Inv64 r c (place64 (page_in r) r.accepted c v f.0 f.1)

pub reached64 : (os : List Act) → Handed F32 os → Handed Whole64 os → In Inv64 (run started os)
reached64 os f s = run_keeps (In Inv64) (λ o. Each F32 (handed o) × Each Whole64 (handed o)) next64 started os (in_started Inv64 fresh64) (each_both (λ o. Each F32 (handed o)) (λ o. Each Whole64 (handed o)) os f s)
