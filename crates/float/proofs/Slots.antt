-- Laws of the slots: the slot by where the search lands.
use Rattle.std.proofs.Common.{◌≡◌, ℕ, ◌+◌, min, get_or, ap, ◌∙◌, ap₂, arith, Option, Some, None}
use lib.Ieee.{Float}
use Rattle.f32_laws.specs.Numbers.{larger}
use Rattle.float.specs.declared.BfcSlot.{BfcSlot}
use Rattle.float.specs.declared.ContentSlot.{ContentSlot}
use Rattle.float.specs.declared.Direction.{Direction}
use Rattle.float.specs.declared.Segment.{Segment}
use Rattle.float.specs.declared.bfc.BfcBoxes.{BfcBoxes}
use Rattle.float.specs.declared.bfc.BfcInsets.{BfcInsets}
use Rattle.float.specs.declared.slot.Insets.{Insets}
use Rattle.float.specs.declared.slot.Sought.{Sought}
use Rattle.float.specs.Bands.{none, last_end}
use Rattle.float.specs.Page.{Page, max_bands}
use Rattle.float.specs.Slot.{from, beside_band, content_at, content_slot, beside_both, beside_none, bfc_at, bfc_slot}

-- ---- the slots: s is where the search landed, y its height, v the slot's y

module _ (p : Page) {s : Sought} {y : Float} where
  module _ (cb : Insets) {o : ContentSlot} where
    pub content_quiet : s ≡ Sought.Quiet y → o ≡ content_at p None y cb → o ≡ content_slot p cb s
    unfolding content_slot
    content_quiet es eo = rw es eo

    pub content_past : s ≡ Sought.Past y → o ≡ content_at p None y cb → o ≡ content_slot p cb s
    unfolding content_slot
    content_past es eo = rw es eo

    pub content_at_lem : {i : ℕ} {b : Segment} {v : Float} {k : Insets} → s ≡ Sought.At i y → ((i : ℕ) (y : Float) → s ≡ Sought.At i y → b ≡ get_or p.bands i none) → v ≡ larger y b.start → k ≡ beside_band b cb → o ≡ content_at p (Some i) v k → o ≡ content_slot p cb s
    unfolding content_slot
    content_at_lem {i} es read ev ek eo = rw (es, ← read i y es) (eo ∙ ap₂ (content_at p (Some i)) ev ek)

  module _ (d : Direction) (k : BfcInsets) {o : BfcSlot} {a : BfcBoxes} where
    pub bfc_quiet : s ≡ Sought.Quiet y → a ≡ beside_none k → o ≡ bfc_at p None y a → o ≡ bfc_slot p d k s
    unfolding bfc_slot
    bfc_quiet es ea eo = rw es (eo ∙ ap (bfc_at p None y) ea)

    pub bfc_past : {e v : Float} → s ≡ Sought.Past y → ((y : Float) → s ≡ Sought.Past y → e ≡ last_end y p.bands) → v ≡ larger y e → a ≡ beside_none k → o ≡ bfc_at p None v a → o ≡ bfc_slot p d k s
    unfolding bfc_slot
    bfc_past es read ev ea eo = rw (es, ← read y es) (eo ∙ ap₂ (bfc_at p None) ev ea)

    pub bfc_at_lem : {i : ℕ} {b : Segment} {v : Float} → s ≡ Sought.At i y → ((i : ℕ) (y : Float) → s ≡ Sought.At i y → b ≡ get_or p.bands i none) → v ≡ larger y b.start → a ≡ beside_both d b k → o ≡ bfc_at p (Some i) v a → o ≡ bfc_slot p d k s
    unfolding bfc_slot
    bfc_at_lem {i} es read ev ea eo = rw (es, ← read i y es) (eo ∙ ap₂ (bfc_at p (Some i)) ev ea)
