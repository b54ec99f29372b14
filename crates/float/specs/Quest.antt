-- The two slot questions in two phases, for a holder that keeps its page in three parts: what is looked for, and what was found. No promise to a reader names them. Definitions only.
use Rattle.std.specs.Prelude.{◌≡◌, ℕ, ◌≤◌, min, cond, List, [], take, nat_lt, Float, Option, Result, Ok, Err, IfOk}
use Rattle.float.specs.declared.Clear.{Clear}
use Rattle.float.specs.declared.Head.{Head}
use Rattle.float.specs.declared.Segment.{Segment}
use Rattle.float.specs.declared.ask.Quest.{Quest}
use Rattle.float.specs.declared.slot.Sought.{Sought}
use Rattle.float.specs.Refuse.{clear_of}
use Rattle.float.specs.Bands.{first_below}
use Rattle.float.specs.Page.{Page, page_of, max_bands}
use Rattle.float.specs.Head.{page_with}
use Rattle.float.specs.Clear.{raise_to, cleared}
use Rattle.float.specs.Slot.{from, ContentCall, content_cleaned, content_check, BfcCall, bfc_cleaned, bfc_check}
use Rattle.float.specs.declared.Refusal.{Refusal}

-- what is looked for, y being min_y: of the first n bands, from `from` on, the first that ends below `above`. Clearing reads no band, so a page with none serves
abbrev pub quest_of : Head → Clear → Option ℕ → Float → Quest
quest_of h c after y = record {
  n = min h.count max_bands;
  from = min (from after) (min h.count max_bands);
  above = raise_to y (cleared (page_of (page_with h [] [])) c);
  y = y;
}

abbrev pub content_sought : Head → ContentCall → Result Quest Refusal
content_sought h c = elim (content_check c) [ Ok _ ↦ Ok (quest_of h (clear_of c.clear) c.after c.min_y) | Err n ↦ Err n ]

unfoldable pub content_quest : Head → ContentCall → Result Quest Refusal
content_quest h c = content_sought h (content_cleaned c)

abbrev pub bfc_sought : Head → BfcCall → Result Quest Refusal
bfc_sought h c = elim (bfc_check c) [ Ok _ ↦ Ok (quest_of h (clear_of c.clear) c.after c.min_y) | Err n ↦ Err n ]

unfoldable pub bfc_quest : Head → BfcCall → Result Quest Refusal
bfc_quest h c = bfc_sought h (bfc_cleaned c)

-- r is what is to be looked for, q, for a question: few enough bands, or the refusal that the question gives on any page
pub record Asks {A : Type 0} (question : Page → Result A Refusal) (q r : Result Quest Refusal) : Type 0 where
  pub is : r ≡ q
  pub live : IfOk r (λ k. (k.n ≤ 96) × (k.from ≤ k.n))
  pub refused : (n : Refusal) → r ≡ Err n → (p : Page) → question p ≡ Err n

-- what was found among the bands bs: the band i, n where there is none; then k, the first that ends below min_y
pub record Found (bs : List Segment) (q : Quest) (i k : ℕ) : Type 0 where
  pub at : i ≡ first_below (take q.n bs) q.from q.above
  pub lower : i ≡ q.n → k ≡ first_below (take q.n bs) 0 q.y

-- where the search lands then: a band that was found is below min_y too
abbrev pub landing : Quest → ℕ → ℕ → Sought
landing q i k = cond (nat_lt i q.n) (Sought.At i q.above) (cond (nat_lt k q.n) (Sought.Past q.above) (Sought.Quiet q.y))
