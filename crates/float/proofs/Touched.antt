-- Which box stands innermost in a band: the band is one of the live ones, or there is none.
use Rattle.std.proofs.Common.{◌≡◌, ℕ, ◌<◌, min, List, length, get_or, take, sym, ap, ◌∙◌, arith, length-take, get_or-take, nat_lt, [], Option, Some, None, Result}
use Rattle.float.specs.declared.FloatDirection.{FloatDirection}
use Rattle.float.specs.declared.Refusal.{Refusal}
use Rattle.float.specs.declared.Segment.{Segment}
use Rattle.float.specs.Bands.{none}
use Rattle.float.specs.Page.{Page}
use Rattle.float.proofs.Judged.{Told}
use Rattle.float.specs.Slot.{recorded_on, innermost_on, innermost}

-- n is the number of live bands; b is the band k, if there is such a one; d is what was read, and m what stands in the band on that side
module _ (p : Page) (bs : List Segment) (long : length bs ≡ 96) (c n k : ℕ) (live : p.bands ≡ take c bs) (en : n ≡ min c 96) (b : Segment) (eb : b ≡ get_or bs (min k 95) none) where
  pub found_in : (d : FloatDirection) (m : Option ℕ) → ((l : List Segment) → length l ≡ n → (k < n → b ≡ get_or l k none) → m ≡ recorded_on d (get_or l k none)) → m ≡ innermost_on d p.bands (Some k)
  found_in d m em =
      let len = length-take c bs in
      let at = em (take c bs) (omega arith) (λ w. eb ∙ ap (λ (i : ℕ). get_or bs i none) (omega arith) ∙ sym (get_or-take c bs k none (omega arith))) in
      at ∙ ap (λ (l : List Segment). recorded_on d (get_or l k none)) (sym live)

-- no band is asked for
pub none_told : (p : Page) (s : ℕ) {b : Option ℕ} {r : Result (Option ℕ) Refusal} → b ≡ None → r ≡ Told (nat_lt s 2) [] None → r ≡ innermost p b s
unfolding innermost
none_told p s {b} {r} eb e = e ∙ sym (ap (λ (k : Option ℕ). innermost p k s) eb)
