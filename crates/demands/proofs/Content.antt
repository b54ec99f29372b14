use Rattle.std.specs.Prelude.{None, Result, Ok, Err}
-- A content question with no containing inset answers the insets of its own height: its search finds the band that `inset_at` reads, and no start is below the height.
use mathlib.Core.Path.{◌≡◌, refl, sym, ap₂, ◌∙◌, subst}
use Prim.Native.Nat.{ℕ, ◌≤◌, ◌<◌}
use native.Mathlib.Nat.{not-suc-le-zero}
use native.Mathlib.Omega.{arith}
use mathlib.Core.Bool.{true}
use mathlib.Core.List.{List, [], ◌∷◌}
use lib.Dec.{ltb, ltb→lt, nltb→le, T_not}
use lib.Ieee.{Float, inf, binary32, sub, lt}
use lib.ListN.{length, get_or}
use Rattle.f32_laws.specs.Numbers.{larger, zero+}
use Rattle.f32_laws.specs.Key.{Num}
use Rattle.f32_laws.proofs.Tests.{both}
use Rattle.f32_laws.proofs.Keys.{lt→key, zero_fin}
use Rattle.float.specs.declared.Clear.{Clear}
use Rattle.float.specs.declared.FloatDirection.{FloatDirection}
use Rattle.float.specs.declared.Segment.{Segment}
use Rattle.float.specs.declared.slot.Insets.{Insets}
use Rattle.float.specs.declared.slot.Sought.{Sought}
use Rattle.float.specs.Numbers.{Given, size, offset, plus_zero}
use Rattle.float.specs.Bands.{lead, none, first_below}
use Rattle.float.specs.Page.{Page}
use Rattle.float.specs.Clear.{raise_to, cleared}
use Rattle.float.specs.Slot.{active, seek, content_slot, content}
use Rattle.demands.specs.Runs.{F32, inset_at, content_at, Between}
use Rattle.demands.proofs.Laws.{k, Val, ins_zero, zero_k}
use Rattle.demands.proofs.Chain.{Chain, chain_at}
use Rattle.demands.proofs.Heights.{at_is}
use Rattle.demands.proofs.First.{first_end, first_start, first_none}
use Rattle.demands.proofs.Input.{known, check_both, plus_fits}
use Rattle.demands.proofs.Upright.{plus_zero_lem}
use Rattle.float.specs.declared.Refusal.{Refusal}
use Rattle.float.specs.declared.ContentSlot.{ContentSlot}

-- the larger of a number and one that is no larger
larger_first : {x y : Float} → Num binary32 x → Num binary32 y → k y ≤ k x → larger x y ≡ x
unfolding larger
larger_first {x} {y} p q h = both (λ (z : Float). z ≡ x) (lt x y) (λ t. absurd (not-suc-le-zero {n = 0} (omega (arith, lt→key p q t)))) (λ t. refl)

-- the same inset on both sides
abbrev both_sides : Float → Insets
both_sides x = record { left = x; right = x }

-- ---- the slot
module _ (p : Page) (c : Chain (inf true) p.bands) (y : Float) (v : Val y) where
  abbrev l : List Segment
  l = p.bands

  abbrev i : ℕ
  i = first_below l 0 y

  -- the band's inset, raised to the containing 0
  own : (s : FloatDirection) → i < length l → larger (lead s (get_or l i none)) zero+ ≡ inset_at s y l
  own s h =
      let b = chain_at (inf true) l i c h in
      larger_first (b.inset s).num ins_zero.num (omega (arith, zero_k, (b.inset s).low))
      ∙ sym (at_is (inf true) l y i s c v.num h (first_start (inf true) l y c v.num (omega arith) h) (lt→key v.num b.end.num (first_end l 0 y h)))

  slot_told : Between p y (content_slot p (both_sides zero+) (seek p Clear.None None y))
  unfolding content_slot seek active cleared raise_to
  slot_told =
      both P (ltb i (length l))
      (λ t. both P (ltb i (length l)) (λ u. there (ltb→lt i (length l) u)) (λ u. absurd (T_not (ltb i (length l)) u t)))
      (λ t. let o = nltb→le i (length l) t in record { at = refl; left = sym (first_none FloatDirection.Left l y o); room = ap₂ less (sym (first_none FloatDirection.Left l y o)) (sym (first_none FloatDirection.Right l y o)) })
    where
      P : Sought → Type 0
      P q = Between p y (content_slot p (both_sides zero+) q)

      less : Float → Float → Float
      less a b = sub binary32 (sub binary32 p.width a) b

      there : i < length l → P (Sought.At i y)
      there h = record {
        at = larger_first v.num (chain_at (inf true) l i c h).start.num (first_start (inf true) l y c v.num (omega arith) h);
        left = own FloatDirection.Left h;
        room = ap₂ less (own FloatDirection.Left h) (own FloatDirection.Right h);
      }

-- ---- the answer
abbrev pub Answers : Page → Float → Result ContentSlot Refusal → Type 0
Answers p y (Ok s) = Between p y s
Answers p y (Err n) = Unit {0}

zero_fits : F32 zero+
unfolding zero+
zero_fits = (zero_fin binary32).is

pub content_told : (p : Page) (h : Float) → Chain (inf true) p.bands → F32 h → Answers p (plus_zero h) (content p (content_at h))
unfolding content
content_told p h c f =
    check_both (Answers p (plus_zero h)) true gs
    (λ t u. subst (λ (z : Float). Between p (plus_zero h) (content_slot p (both_sides z) (seek p Clear.None None (plus_zero h)))) (sym plus_zero_lem) (slot_told p c (plus_zero h) (known gs (plus_fits h f, (plus_fits zero+ zero_fits, (plus_fits zero+ zero_fits, tt))) t u).0))
    (λ n o. tt)
  where
    gs : List Given
    gs = offset (plus_zero h) ∷ size (plus_zero zero+) ∷ size (plus_zero zero+) ∷ []
