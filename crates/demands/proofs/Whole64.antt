-- A call in whole 64ths on a page in whole 64ths leaves such a page, from the fresh one on.
use mathlib.Core.Path.{◌≡◌, sym, ap, ◌∙◌}
use Prim.Native.Nat.{◌+◌, ◌*◌, ◌≤◌}
use native.Mathlib.Nat.{not-suc-le-zero}
use native.Mathlib.Omega.{arith}
use mathlib.Core.Bool.{◌&&◌}
use mathlib.Core.List.{List, [], ◌∷◌, map}
use lib.IntN.{pos}
use lib.Dec.{T, ltb, lit≤}
use lib.Ieee.{Float, binary32, le}
use lib.Ieee.Fits.{and_i, and_l, and_r}
use lib.ListN.{length}
use Rattle.f32_laws.specs.Numbers.{zero+, is64}
use Rattle.f32_laws.specs.Key.{mag}
use Rattle.f32_laws.specs.Sixty.{g64, mid, half}
use Rattle.f32_laws.proofs.Tests.{both}
use Rattle.f32_laws.proofs.Keys.{le→key, key→le}
use Rattle.f32_laws.proofs.Index64.{at64_key}
use Rattle.f32_laws.proofs.Is64.{of64}
use Rattle.float.specs.Numbers.{most, least, plus_zero, within, Given, size, offset, value, allowed, all_allowed}
use Rattle.float.specs.Refuse.{side_of}
use Rattle.float.specs.Page.{Page, page_of, fresh_context, fresh, max_boxes}
use Rattle.float.specs.Place.{Call, cleaned, numbers, PlaceResult, lowest, ask_of, spot_of, admitted, checked, place, with_width, if_done, set_width}
use Rattle.demands.specs.Runs.{Each, Accepted, box_in, noted, box, handed, F32, Whole64}
use Rattle.demands.proofs.Laws.{k, B, Ins, on_either}
use Rattle.demands.proofs.Input.{most_num, least_num, Known, known, check_both, plus_fits, cleaned_fits, asked, BottomIs, lowest_is}
use Rattle.demands.proofs.Whole.{Inv, fresh_inv, Step, spot_ok, spot_leads, place_ok, width_both, wide_ok}
use Rattle.demands.proofs.Exact.{g, Q, q_zero, cancel, Ask64}
use Rattle.demands.proofs.Bands64.{count64}
use Rattle.demands.proofs.Apart.{Inv64, larger64, put64}

-- ---- numbers handed in
most_mag : mag binary32 1 (pos 16) ≤ half * g
unfolding mag half g64
most_mag = lit≤ tt

q_of : (x : Float) → F32 x → T (is64 x) → B ≤ k x + half * g → k x ≤ B + half * g → Q x
q_of x f t lo hi =
    let o = of64 x f t in
    let e = ap (λ (z : Float). k z + mid * g) o.is ∙ at64_key o.index o.bound in
    record { n = o.index; is = o.is; low = cancel mid (o.index + half) (omega arith); high = cancel o.index (mid + half) (omega arith) }

known_one64 : (d : Given) → F32 (value d) → (T (within least most (value d)) → T (is64 (value d))) → T (allowed d) → Known d → Q (value d)
unfolding within
known_one64 (size x) f t w n = q_of x f (t (and_i (le least x) (le x most) (key→le least_num n.num (omega (arith, n.low))) (and_r (le zero+ x) (le x most) w))) (omega (arith, n.low)) (omega (arith, most_mag, le→key n.num most_num (and_r (le zero+ x) (le x most) w)))
known_one64 (offset x) f t w n = q_of x f (t w) (omega (arith, most_mag, le→key least_num n.num (and_l (le least x) (le x most) w))) (omega (arith, most_mag, le→key n.num most_num (and_r (le least x) (le x most) w)))

pub known64 : (ds : List Given) → Each (λ d. F32 (value d)) ds → Each (λ d. T (within least most (value d)) → T (is64 (value d))) ds → T (all_allowed ds) → Each Known ds → Each (λ d. Q (value d)) ds
unfolding all_allowed
known64 [] f t w n = tt
known64 (d ∷ ds) f t w n = (known_one64 d f.0 t.0 (and_l (allowed d) (all_allowed ds) w) n.0, known64 ds f.1 t.1 (and_r (allowed d) (all_allowed ds) w) n.1)

-- ---- a placement
module _ (p : Page) (l : List Accepted) (c : Call) (v : Inv64 p l) (n : Each Known (numbers c)) (q : Each (λ d. Q (value d)) (numbers c)) where
  pub ask64 : Ask64 (ask_of p c)
  ask64 = record {
    asked = asked p c v.inv.width n;
    width = q.0;
    height = q.1.0;
    page = v.width;
    cb_lead = on_either Q (side_of c.side) q.1.1.1.0 q.1.1.1.1.0;
    cb_trail = on_either Q (side_of c.side) q.1.1.1.1.0 q.1.1.1.0;
  }

  admitted64 : Step p l c (admitted p c) → Inv64 (admitted p c).page (noted (admitted p c).answer c (admitted p c).page l)
  unfolding admitted
  admitted64 =
      both (λ (r : PlaceResult). Step p l c r → Inv64 r.page (noted r.answer c r.page l)) (ltb (length p.boxes) max_boxes)
      (λ w. put64 p l c v ask64 (lowest p c) (spot_of p c) (spot_ok p l c v.inv n (count64 p.bands v.inv.chain v.bands) ask64.cb_lead (lowest_is Q larger64 p c q.1.1.0 v.ceiling v.bottom)) (spot_leads p l c v.inv n))
      (λ w st. v)

pub place64 : (p : Page) (l : List Accepted) (c : Call) → Inv64 p l → Each F32 (handed (box c)) → Each Whole64 (handed (box c)) → Inv64 (place p c).page (noted (place p c).answer (cleaned c) (place p c).page l)
unfolding place checked
place64 p l c v f s = go (place_ok p l c v.inv f)
  where
    d : Call
    d = cleaned c

    go : Step p l d (place p c) → Inv64 (place p c).page (noted (place p c).answer d (place p c).page l)
    go = check_both (λ (r : PlaceResult). Step p l d r → Inv64 r.page (noted r.answer d r.page l)) (ltb c.side 2 && ltb c.clear 4) (numbers d)
        (λ t u. let n = known (numbers d) (cleaned_fits c f) t u in admitted64 p l d v n (known64 (numbers d) (cleaned_fits c f) s u n))
        (λ n o st. v)

-- ---- the width
pub wide64 : (p : Page) (l : List Accepted) (w : Float) → Inv64 p l → F32 w → Whole64 w → Inv64 (set_width p w) l
unfolding set_width
wide64 p l w v f s =
    width_both (λ d. Inv (if_done d (with_width p (plus_zero w)) p) l → Inv64 (if_done d (with_width p (plus_zero w)) p) l) p.boxes (plus_zero w) (plus_fits w f)
    (λ i t n. go l v (ap length (sym v.inv.boxes) ∙ n) i t)
    (λ n i. v) (wide_ok p l w v.inv f).0
  where
    go : (l : List Accepted) → Inv64 p l → length (map box_in l) ≡ 0 → Ins (plus_zero w) → T (all_allowed (size (plus_zero w) ∷ [])) → Inv (with_width p (plus_zero w)) l → Inv64 (with_width p (plus_zero w)) l
    go [] v e i t u = record {
      inv = u;
      width = (known64 (size (plus_zero w) ∷ []) (plus_fits w f, tt) (s, tt) t (i, tt)).0;
      bands = v.bands;
      bottom = v.bottom;
      ceiling = v.ceiling;
      boxes = tt;
      stands = tt;
      beside = tt;
    }
    go (a ∷ l) v e i t u = absurd (not-suc-le-zero {n = 0} (omega arith))

pub fresh64 : Inv64 fresh []
unfolding fresh page_of fresh_context
fresh64 = record {
  inv = fresh_inv;
  width = q_zero;
  bands = tt;
  bottom = λ r. on_either (BottomIs Q) r tt tt;
  ceiling = tt;
  boxes = tt;
  stands = tt;
  beside = tt;
}
