-- A run sees of a struct only the page that it holds: states that differ in dead places alone print the same lines, and leave such states.
use Rattle.std.specs.Prelude.{Option, Some, None, Result, Ok, Err, ⊤}
use Prim.Native.Nat.{ℕ, zero, suc, ◌+◌}
use mathlib.Core.Path.{◌≡◌, refl, sym, ap, ◌∙◌}
use mathlib.Core.List.{List, [], ◌∷◌, ◌++◌}
use lib.Ieee.{Float}
use lib.ListN.{drop}
use lib.Seq.{take-append_seam}
use Rattle.float.specs.declared.FloatContext.{FloatContext}
use Rattle.float.specs.Numbers.{plus_zero}
use Rattle.float.specs.Page.{Page, page_of, front, stored}
use Rattle.float.specs.Place.{Call, place, placed_page, place_of, if_done, width_check, with_width, width_of}
use Rattle.tape.specs.declared.record.Record.{Record}
use Rattle.tape.specs.declared.step.State.{State}
use Rattle.tape.specs.Bytes.{decimal, row}
use Rattle.tape.specs.Record.{body_len, read_of}
use Rattle.tape.specs.Tape.{step_of, run, runs}
use Rattle.float.specs.declared.Refusal.{Refusal}
use Rattle.float.specs.declared.Position.{Position}

-- two states that hold the same page: dead places of the arrays may differ
pub record SameState (s t : State) : Type 0 where
  pub page : page_of s.page ≡ page_of t.page
  pub calculator : s.calculator ≡ t.calculator

page_stored : (q : Page) (p : FloatContext) → page_of (stored q p) ≡ q
unfolding page_of stored front
page_stored q p = simp take-append_seam

module _ (p t : FloatContext) (e : page_of p ≡ page_of t) where
  placed_same : (a : Result Position Refusal) (q : Page) → page_of (placed_page a q p) ≡ page_of (placed_page a q t)
  placed_same (Ok s) q = page_stored q p ∙ sym (page_stored q t)
  placed_same (Err n) q = e

  answer_same : (c : Call) → (place_of p c).answer ≡ (place_of t c).answer
  unfolding place_of
  answer_same c = ap (λ (q : Page). (place q c).answer) e

  place_same : (c : Call) → page_of (place_of p c).page ≡ page_of (place_of t c).page
  unfolding place_of
  place_same c = placed_same (place (page_of p) c).answer (place (page_of p) c).page ∙ ap (λ (q : Page). page_of (placed_page (place q c).answer (place q c).page t)) e

  done_same : (d : Result ⊤ Refusal) (q : Page) → page_of (if_done d (stored q p) p) ≡ page_of (if_done d (stored q t) t)
  done_same (Ok _) q = page_stored q p ∙ sym (page_stored q t)
  done_same (Err n) q = e

  widened_same : (w : Float) → (width_of p w).answer ≡ (width_of t w).answer
  unfolding width_of
  widened_same w = ap (λ (q : Page). width_check q.boxes (plus_zero w)) e

  width_same : (w : Float) → page_of (width_of p w).page ≡ page_of (width_of t w).page
  unfolding width_of
  width_same w = done_same (width_check (page_of p).boxes (plus_zero w)) (with_width (page_of p) (plus_zero w)) ∙ ap (λ (q : Page). page_of (if_done (width_check q.boxes (plus_zero w)) (stored (with_width q (plus_zero w)) t) t)) e

pub same_refl : (s : State) → SameState s s
same_refl s = record { page = refl; calculator = refl }

-- one record prints the same line, and leaves such states
module _ (s t : State) (h : SameState s t) where
  line_same : (r : Record) → (step_of s r).line ≡ (step_of t r).line
  unfolding step_of
  line_same Record.Fresh = refl
  line_same (Record.Width w) = rw (widened_same s.page t.page h.page w)
  line_same (Record.Place side clear w k y l r) = rw (answer_same s.page t.page h.page _)
  line_same (Record.Content y l r clear after) = rw h.page
  line_same (Record.Bfc y l r ml mr d clear after) = rw h.page
  line_same (Record.Start mode) = rw h.calculator
  line_same (Record.Add w side clear) = rw h.calculator
  line_same Record.Result = rw h.calculator

  step_same : (r : Record) → SameState (step_of s r).after (step_of t r).after
  unfolding step_of
  step_same Record.Fresh = same_refl _
  step_same (Record.Width w) = record { page = width_same s.page t.page h.page w; calculator = h.calculator }
  step_same (Record.Place side clear w k y l r) = record { page = place_same s.page t.page h.page _; calculator = h.calculator }
  step_same (Record.Content y l r clear after) = h
  step_same (Record.Bfc y l r ml mr d clear after) = h
  step_same (Record.Start mode) = record { page = h.page; calculator = rw h.calculator }
  step_same (Record.Add w side clear) = record { page = h.page; calculator = rw h.calculator }
  step_same Record.Result = h

pub run_same : (f i : ℕ) (b : List ℕ) {s t : State} → SameState s t → run f i b s ≡ run f i b t
unfolding run
run_same zero i b h = refl
run_same (suc f) i [] h = refl
run_same (suc f) i (k ∷ b) {s} {t} h = go (λ r. run_same f (suc (i + body_len k)) (drop (body_len k) b) (step_same s t h r)) (read_of k b)
  where
    go : ((r : Record) → run f (suc (i + body_len k)) (drop (body_len k) b) (step_of s r).after ≡ run f (suc (i + body_len k)) (drop (body_len k) b) (step_of t r).after)
        → (x : Option Record)
        → ◌≡◌ {A = List ℕ}
        (elim x [ Some r ↦ (step_of s r).line ++ run f (suc (i + body_len k)) (drop (body_len k) b) (step_of s r).after | None ↦ row 84 (decimal i ∷ []) ])
        (elim x [ Some r ↦ (step_of t r).line ++ run f (suc (i + body_len k)) (drop (body_len k) b) (step_of t r).after | None ↦ row 84 (decimal i ∷ []) ])
    go g (Some r) =
        ap (λ (l : List ℕ). l ++ run f (suc (i + body_len k)) (drop (body_len k) b) (step_of s r).after) (line_same s t h r)
        ∙ ap (λ (l : List ℕ). (step_of t r).line ++ l) (g r)
    go g None = refl

pub runs_same : (f : ℕ) (b : List ℕ) {s t : State} → SameState s t → SameState (runs f b s) (runs f b t)
unfolding runs
runs_same zero b h = h
runs_same (suc f) [] h = h
runs_same (suc f) (k ∷ b) {s} {t} h = go (λ r. runs_same f (drop (body_len k) b) (step_same s t h r)) (read_of k b)
  where
    go : ((r : Record) → SameState (runs f (drop (body_len k) b) (step_of s r).after) (runs f (drop (body_len k) b) (step_of t r).after))
        → (x : Option Record)
        → SameState (elim x [ Some r ↦ runs f (drop (body_len k) b) (step_of s r).after | None ↦ s ]) (elim x [ Some r ↦ runs f (drop (body_len k) b) (step_of t r).after | None ↦ t ])
    go g (Some r) = g r
    go g None = h
