-- From what its leaves answer to the definition of the width; and a placement on a page from that on its three parts.
use Rattle.std.proofs.Common.{◌≡◌, ℕ, ◌<◌, ◌≤◌, min, true, [], ◌∷◌, length, take, sym, ◌∙◌, arith, length-take, ne_eqb, Result, Ok, Err}
use Rattle.std.specs.Prelude.{⊤}
use lib.Ieee.{Float}
use Rattle.float.specs.declared.FloatContext.{FloatContext}
use Rattle.float.specs.declared.Head.{Head}
use Rattle.float.specs.declared.Refusal.{Refusal}
use Rattle.float.specs.declared.Widened.{Widened}
use Rattle.float.specs.Numbers.{size, plus_zero}
use Rattle.float.specs.Page.{page_of, front, stored}
use Rattle.float.specs.Head.{head_of, page_with}
use Rattle.float.specs.Place.{Call, width_check, with_width, width_of, place_of}
use Rattle.float.specs.declared.Placed.{Placed}
use Rattle.float.specs.declared.Position.{Position}
use Rattle.float.specs.Refuse.{check_of}
use Rattle.float.proofs.Front.{front_live}

-- ---- the width
module _ (p : FloatContext) (w v : Float) (k : Result ⊤ Refusal) (f : v ≡ plus_zero w) (g : k ≡ check_of true (size v ∷ [])) where
  pub width_refused : (n : Refusal) → k ≡ Err n → ◌≡◌ {A = Widened} (record { answer = Err n; page = p }) (width_of p w)
  unfolding width_of width_check
  width_refused n e = simp (sym f, width_check, sym g, e)

  pub width_fixed : length p.boxes ≡ 64 → k ≡ Ok tt → 0 < p.box_count → ◌≡◌ {A = Widened} (record { answer = Err Refusal.WidthFixed; page = p }) (width_of p w)
  unfolding width_of width_check page_of
  width_fixed h e b = simp (sym f, width_check, sym g, e, ne_eqb (length (take p.box_count p.boxes)) 0 (λ z. omega (arith, length-take p.box_count p.boxes)))

  pub width_set : (n : ℕ) → length p.bands ≡ 96 → k ≡ Ok tt → p.box_count ≤ 0 → n ≡ min p.count 96
      → ◌≡◌ {A = Widened} (record { answer = Ok tt; page = record { width = v; bands = p.bands; count = n; boxes = p.boxes; box_count = p.box_count; left_bottom = p.left_bottom; right_bottom = p.right_bottom; ceiling = p.ceiling; depth = p.depth; left_first = p.left_first; right_first = p.right_first } }) (width_of p w)
  unfolding width_of width_check page_of stored
  width_set n h e b m =
      let z : p.box_count ≡ 0 = omega arith in
      let d : width_check (page_of p).boxes v ≡ Ok tt = simp (z, width_check, sym g, e) in
      let c : n ≡ length (take p.count p.bands) = omega (arith, length-take p.count p.bands) in
      let l : p.box_count ≡ length (take p.box_count p.boxes) = omega (arith, length-take p.box_count p.boxes) in
      let t : front (take p.count p.bands) p.bands ≡ p.bands = front_live p.count p.bands in
      let u : front (take p.box_count p.boxes) p.boxes ≡ p.boxes = front_live p.box_count p.boxes in
      ◌∙◌ {b = record { answer = Ok tt; page = stored (with_width (page_of p) v) p }} (cc) (simp (sym f, d))

-- ---- a placement on the page is that on its three parts
pub place_held : (p : FloatContext) (c : Call) {h : Head} {s : Position} {q r : FloatContext} → h ≡ head_of p → place_of (page_with h p.bands p.boxes) c ≡ record { answer = Ok s; page = r } → q ≡ r → ◌≡◌ {A = Placed} (record { answer = Ok s; page = q }) (place_of p c)
place_held p c e g f = cc (e, g, f)
