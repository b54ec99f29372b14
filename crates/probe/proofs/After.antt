-- The page and the height after some boxes: after none, and after one more.
use Prim.Native.Nat.{ℕ, ◌+◌}
use mathlib.Core.Path.{◌≡◌, ◌∙◌, refl, sym, ap}
use native.Mathlib.Numerals.{add-one}
use lib.Ieee.{Float, binary32, add, of_bits}
use Rattle.f32_laws.specs.Numbers.{zero+}
use Rattle.float.specs.declared.FloatContext.{FloatContext}
use Rattle.float.specs.declared.Placed.{Placed}
use Rattle.float.specs.Page.{fresh_context}
use Rattle.float.specs.Place.{Call, place_of, width_of}
use Rattle.probe.specs.Kept.{page_after, top_after}

-- a box of which nothing else is asked
abbrev pub box : ℕ → Float → Float → Float → Call
box s w h y = record { side = s; clear = 0; width = w; height = h; min_y = y; left = of_bits binary32 0; right = of_bits binary32 0 }

pub first : (wide : Float) (s : ℕ) (w h step : Float) {p : FloatContext} → p ≡ (width_of fresh_context wide).page → p ≡ page_after wide s w h step 0
unfolding page_after
first wide s w h step e = e

pub first_top : (step : Float) → of_bits binary32 0 ≡ top_after step 0
unfolding top_after zero+ of_bits
first_top step = refl

pub next : (wide : Float) (s : ℕ) (w h step : Float) (i : ℕ) {p : FloatContext} {y : Float} {r : Placed} → p ≡ page_after wide s w h step i → y ≡ top_after step i → r ≡ place_of p (box s w h y) → r.page ≡ page_after wide s w h step (i + 1)
unfolding page_after zero+ of_bits
next wide s w h step i e f g = ap (λ r. r.page) (g ∙ (λ j. place_of (e j) (box s w h (f j)))) ∙ sym (ap (page_after wide s w h step) (add-one i))

pub next_top : (step : Float) (i : ℕ) {y : Float} → y ≡ top_after step i → add binary32 y step ≡ top_after step (i + 1)
unfolding top_after
next_top step i e = ap (λ y. add binary32 y step) e ∙ sym (ap (top_after step) (add-one i))
