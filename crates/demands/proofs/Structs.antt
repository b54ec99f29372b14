use Rattle.std.specs.Prelude.{Result, Ok, Err, ⊤}
-- The struct holds the page that was stored in it, so a call on structs is the call on pages; and a refusal hands back the page.
use mathlib.Core.Path.{◌≡◌, refl}
use lib.Ieee.{Float}
use lib.Seq.{take-append_seam}
use Rattle.float.specs.declared.FloatContext.{FloatContext}
use Rattle.float.specs.Numbers.{plus_zero}
use Rattle.float.specs.Page.{Page, fresh, page_of, front, stored, fresh_context}
use Rattle.float.specs.Place.{Call, PlaceResult, place, placed_page, place_of, width_check, with_width, if_done, set_width, width_of}
use Rattle.demands.proofs.Ways.{place_ways}
use Rattle.float.specs.declared.Refusal.{Refusal}
use Rattle.float.specs.declared.Position.{Position}

-- tape has this law too (Same.antt): this crate cites no proof of float's, for it judges definitions where those proofs are gone (tools/definitions.py)
page_stored : (q : Page) (p : FloatContext) → page_of (stored q p) ≡ q
unfolding page_of stored front
page_stored q p = simp take-append_seam

pub page_fresh : page_of fresh_context ≡ fresh
unfolding fresh
page_fresh = refl

-- ---- a refused placement leaves the page
abbrev Left : Page → PlaceResult → Type 0
Left p r = elim r.answer [ Ok s ↦ Unit {0} | Err n ↦ r.page ≡ p ]

refused_left : (p : Page) (c : Call) → Left p (place p c)
refused_left p c = place_ways (Left p) p c (λ n. refl) tt tt

pub page_placed : (p : FloatContext) (c : Call) → page_of (place_of p c).page ≡ (place (page_of p) c).page
unfolding place_of
page_placed p c = go (place (page_of p) c).answer (place (page_of p) c).page (refused_left (page_of p) c)
  where
    go : (a : Result Position Refusal) (q : Page) → Left (page_of p) (record { answer = a; page = q }) → page_of (placed_page a q p) ≡ q
    go (Ok s) q h = page_stored q p
    go (Err n) q h = rw h

pub page_widened : (p : FloatContext) (w : Float) → page_of (width_of p w).page ≡ set_width (page_of p) w
unfolding width_of set_width
page_widened p w = go (width_check (page_of p).boxes (plus_zero w))
  where
    go : (d : Result ⊤ Refusal) → page_of (if_done d (stored (with_width (page_of p) (plus_zero w)) p) p) ≡ if_done d (with_width (page_of p) (plus_zero w)) (page_of p)
    go (Ok _) = page_stored (with_width (page_of p) (plus_zero w)) p
    go (Err n) = refl
