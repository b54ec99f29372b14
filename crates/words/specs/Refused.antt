-- The refusals of a text, row by row, and their order (4/14). Definitions only.
use Rattle.std.specs.Prelude.{◌<◌, ◌≡◌, ◌⊎◌, List, [], ◌∷◌, T, Float, length}
use Rattle.std.specs.Float.Ieee.{eq}
use Rattle.f32_laws.specs.Numbers.{zero+}
use Rattle.float.specs.declared.Segment.{Segment}
use Rattle.float.specs.Numbers.{value}
use Rattle.demands.specs.Runs.{Each, Any}
use Rattle.demands.specs.Rows.{NotFinite, Outside}
use Rattle.words.specs.declared.TextRefusal.{TextRefusal}
use Rattle.words.specs.Text.{Text, cleaned, numbers}
use Rattle.words.specs.Lines.{Told, lines, refused}
use Rattle.words.specs.Layout.{PassesFar}

-- P holds of every number of a text
abbrev pub Figures : (Float → Type 0) → Text → Type 0
Figures P t = Each (λ g. P (value g)) (numbers t)

-- the table: what a text is refused for on a page of the width w with the bands l
abbrev pub AppliesTo : Float → List Segment → Text → TextRefusal → Type 0
AppliesTo w l t TextRefusal.NotFinite = Any NotFinite (numbers t)
AppliesTo w l t TextRefusal.OutOfLimits = Any Outside (numbers t)
AppliesTo w l t TextRefusal.TooManyWords = 512 < length t.widths
AppliesTo w l t TextRefusal.NoLineHeight = T (eq t.height zero+)
AppliesTo w l t TextRefusal.TooFar = PassesFar w l (cleaned t)

-- the order in which they are given: 2, 3, 9, 10, 6
abbrev pub order : List TextRefusal
order = TextRefusal.NotFinite ∷ TextRefusal.OutOfLimits ∷ TextRefusal.TooManyWords ∷ TextRefusal.NoLineHeight ∷ TextRefusal.TooFar ∷ []

-- n is the first in the list that A holds of
abbrev pub First : (TextRefusal → Type 0) → List TextRefusal → TextRefusal → Type 0
First A [] n = ⊥
First A (m ∷ ms) n = ((n ≡ m) × A m) ⊎ (¬ A m × First A ms n)

-- lines are answered, and no refusal
abbrev pub AreLines : Told → Type 0
AreLines (lines xs) = Unit {0}
AreLines (refused n) = ⊥
