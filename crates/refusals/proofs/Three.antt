-- Rows 1 to 3: the check of a call's codes and numbers gives the lowest of them that applies.
use Rattle.std.specs.Prelude.{Option, Result, Ok, Err, ⊤}
use Prim.Native.Nat.{ℕ}
use native.Mathlib.Omega.{arith}
use mathlib.Core.Bool.{Bool, true, ◌&&◌}
use mathlib.Core.List.{List, [], ◌∷◌, map}
use lib.Dec.{ltb}
use Rattle.float.specs.declared.Refusal.{Refusal}
use Rattle.float.specs.Refuse.{number_of, check_of}
use Rattle.float.specs.Page.{Page}
use Rattle.demands.specs.Runs.{Any}
use Rattle.demands.specs.Rows.{NotFinite, Outside}
use Rattle.demands.proofs.Tested.{Fails, never, and_also, and_last, not_below, plus, finite_all, inside_all}
use Rattle.refusals.specs.Numbered.{Asked, handed, Unknown, Applies, unknown_code, not_finite, out_of_limits}
use Rattle.refusals.proofs.Outcome.{Says, Outcome, Free, gap, tested}
use Rattle.float.specs.declared.FloatIntrinsicWidthCalculator.{FloatIntrinsicWidthCalculator}

-- ---- codes
abbrev pub all_known : List (ℕ × ℕ) → Bool
all_known [] = true
all_known (c ∷ []) = ltb c.0 c.1
all_known (c ∷ d ∷ cs) = ltb c.0 c.1 && all_known (d ∷ cs)

known_all : (cs : List (ℕ × ℕ)) → Fails (Any Unknown cs) (all_known cs)
known_all [] = never
known_all (c ∷ []) = and_last (not_below c.0 c.1)
known_all (c ∷ d ∷ cs) = and_also (not_below c.0 c.1) (known_all (d ∷ cs))

-- ---- the check
module _ {p : Page} {q : Option FloatIntrinsicWidthCalculator} where
  row_1 : {a : Asked} → Applies p q a 1 → Any Unknown (handed a).codes
  row_1 (unknown_code h) = h

  row_2 : {a : Asked} → Applies p q a 2 → Any NotFinite (handed a).numbers
  row_2 (not_finite h) = h

  row_3 : {a : Asked} → Applies p q a 3 → Any Outside (handed a).numbers
  row_3 (out_of_limits h) = h

  row_0 : {a : Asked} → ¬ Applies p q a 0
  row_0 h = elim h [ ]

module _ (p : Page) (q : Option FloatIntrinsicWidthCalculator) (a : Asked) where
  pub from_1 : Free (Applies p q a) 1
  from_1 = gap 0 row_0 (λ m l. absurd (omega arith))

  pub checked : (R : Result ⊤ Refusal → ℕ → Type 0) → ((n : Refusal) → Says (R (Err n)) (number_of n)) → (Free (Applies p q a) 4 → Outcome (R (Ok tt)) (Applies p q a)) → Outcome (R (check_of (all_known (handed a).codes) (map plus (handed a).numbers))) (Applies p q a)
  unfolding check_of
  checked R s k =
      tested R 1 (known_all (handed a).codes) unknown_code row_1 from_1 (s Refusal.UnknownCode)
      (λ t f. tested R 2 (finite_all (handed a).numbers) not_finite row_2 f (s Refusal.NotFinite)
      (λ t f. tested R 3 (inside_all (handed a).numbers t) out_of_limits row_3 f (s Refusal.OutOfLimits)
      (λ t f. k f)))
