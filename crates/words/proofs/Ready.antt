-- The numbers of a text that passed the check, by their limits.
use mathlib.Core.Path.{◌≡◌, refl, ap, subst}
use mathlib.Core.List.{List, [], ◌∷◌, ◌++◌, map}
use lib.Ieee.{Float}
use Rattle.float.specs.Numbers.{plus_zero, Given, size, offset, value}
use Rattle.demands.specs.Runs.{Each, F32}
use Rattle.demands.proofs.Laws.{Val, Ins}
use Rattle.demands.proofs.Input.{Known, known, plus_fits}
use Rattle.demands.proofs.Tested.{plus}
use Rattle.words.specs.Text.{Text, cleaned, numbers}
use Rattle.words.specs.Refused.{Figures}
use Rattle.words.proofs.Checked.{Passed}

-- the first top and the line height
pub record Ready (t : Text) : Type 0 where
  pub top : Val t.min_y
  pub height : Ins t.height

each_after : {A : Type 0} (P : A → Type 0) (l m : List A) → Each P (l ++ m) → Each P m
each_after P [] m h = h
each_after P (x ∷ l) m h = each_after P l m h.1

pub ready : (t : Text) → Figures F32 t → Passed t → Ready t
ready t f p = let n = each_after Known (map size t.widths) _ (known (numbers t) f p.finite p.allowed) in record { top = n.1.1.0; height = n.1.0 }

-- ---- minus zero
plus_widths : (ws : List Float) (l : List Given) → map plus (map size ws ++ l) ≡ map size (map plus_zero ws) ++ map plus l
plus_widths [] l = refl
plus_widths (w ∷ ws) l = ap (λ (m : List Given). size (plus_zero w) ∷ m) (plus_widths ws l)

-- the numbers of a cleaned text
pub plus_numbers : (t : Text) → map plus (numbers t) ≡ numbers (cleaned t)
plus_numbers t = plus_widths t.widths _

each_plus : (gs : List Given) → Each (λ g. F32 (value g)) gs → Each (λ g. F32 (value g)) (map plus gs)
each_plus [] f = tt
each_plus (size x ∷ gs) f = (plus_fits x f.0, each_plus gs f.1)
each_plus (offset x ∷ gs) f = (plus_fits x f.0, each_plus gs f.1)

pub cleaned_fit : (t : Text) → Figures F32 t → Figures F32 (cleaned t)
cleaned_fit t f = subst (Each (λ g. F32 (value g))) (plus_numbers t) (each_plus (numbers t) f)
