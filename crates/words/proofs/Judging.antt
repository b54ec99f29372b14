-- The refusals before any line: widths judged one at a time, then with the other numbers.
use Rattle.std.specs.Prelude.{Result, Ok, Err, ⊤}
use Prim.Native.Nat.{ℕ, ◌+◌, ◌-◌, ◌<◌, ◌≤◌}
use mathlib.Core.Path.{◌≡◌, refl, sym, ap, ap₂, ◌∙◌}
use mathlib.Core.Bool.{Bool, ◌&&◌, cond, and-true, and_assoc}
use mathlib.Core.List.{List, [], ◌∷◌, ◌++◌, map}
use native.Mathlib.Numerals.{add-one}
use native.Mathlib.Omega.{arith}
use lib.Dec.{leb}
use lib.Ieee.{Float, nan, eq}
use lib.ListN.{length, take, drop, get_or, length-drop, length-map, drop_of_length-le}
use lib.Seq.{take_all, drop-cons}
use Rattle.f32_laws.specs.Numbers.{zero+}
use Rattle.float.specs.Numbers.{Given, size, offset, value, plus_zero, finite, within, most, allowed, all_finite, all_allowed}
use Rattle.words.specs.declared.TextRefusal.{TextRefusal}
use Rattle.words.specs.declared.check.Judged.{Judged}
use Rattle.words.specs.Laid.{Judges}
use Rattle.words.specs.Text.{Text, check_of}

-- the rest of a list: one and those after it
pub rest_here : {A : Type 0} (l : List A) (i : ℕ) (d : A) → i < length l → drop i l ≡ get_or l i d ∷ drop (i + 1) l
rest_here l i d h = drop-cons l i d h ∙ ap (λ n. get_or l i d ∷ drop n l) (sym (add-one i))

-- a part that goes to the end of a slice, as the machine has it
pub part_is : {A : Type 0} (n : ℕ) (l : List A) → take (length l - n) (drop n l) ≡ drop n l
part_is n l = take_all (length l - n) (drop n l) (omega (arith, length-drop n l))

pub part_few : {A : Type 0} (n : ℕ) (l : List A) → length (take (length l - n) (drop n l)) ≤ length l
part_few n l = omega (arith, ap length (part_is n l), length-drop n l)

-- ---- the widths

abbrev sizes : List Float → List Given
sizes ws = map size (map plus_zero ws)

-- the loop's invariant: all are finite if f says so and those from i on are; of the limits likewise
pub record Judging (ws : List Float) (f a : Bool) (i : ℕ) : Type 0 where
  pub within : i ≤ length ws
  pub finite : all_finite (sizes ws) ≡ (f && all_finite (sizes (drop i ws)))
  pub allowed : all_allowed (sizes ws) ≡ (a && all_allowed (sizes (drop i ws)))

module _ {ws : List Float} {f a : Bool} {i : ℕ} (s : Judging ws f a i) where
  pub judge_goes : i < length ws → (w : Float) (g b : Bool) → w ≡ plus_zero (get_or ws i nan) → g ≡ finite w → b ≡ within zero+ most w → Judging ws (f && g) (a && b) (i + 1)
  unfolding all_finite all_allowed
  judge_goes h w g b p q r =
      let e = ap sizes (rest_here ws i nan h) in
      record {
        within = omega (arith, h);
        finite = s.finite ∙ ap (λ l. f && all_finite l) e ∙ ap (λ x. f && (x && all_finite (sizes (drop (i + 1) ws)))) (sym (q ∙ ap finite p)) ∙ sym (and_assoc f g (all_finite (sizes (drop (i + 1) ws))));
        allowed = s.allowed ∙ ap (λ l. a && all_allowed l) e ∙ ap (λ x. a && (x && all_allowed (sizes (drop (i + 1) ws)))) (sym (r ∙ ap (within zero+ most) p)) ∙ sym (and_assoc a b (all_allowed (sizes (drop (i + 1) ws))));
      }

pub judge_ends : {ws : List Float} {f a : Bool} {i : ℕ} → Judging ws f a i → length ws ≤ i → Judges (map plus_zero ws) (length ws) (record { finite = f; allowed = a })
unfolding all_finite all_allowed
judge_ends {ws} {f} {a} {i} s h =
    let e = ap sizes (drop_of_length-le ws h) in
    record {
      count = sym (length-map ws plus_zero);
      finite = sym (s.finite ∙ ap (λ l. f && all_finite l) e ∙ and-true f);
      allowed = sym (s.allowed ∙ ap (λ l. a && all_allowed l) e ∙ and-true a);
    }

-- ---- the other numbers

pub finite_join : (gs hs : List Given) → all_finite (gs ++ hs) ≡ (all_finite gs && all_finite hs)
unfolding all_finite
finite_join [] hs = refl
finite_join (g ∷ gs) hs = ap (λ x. finite (value g) && x) (finite_join gs hs) ∙ sym (and_assoc (finite (value g)) (all_finite gs) (all_finite hs))

pub allowed_join : (gs hs : List Given) → all_allowed (gs ++ hs) ≡ (all_allowed gs && all_allowed hs)
unfolding all_allowed
allowed_join [] hs = refl
allowed_join (g ∷ gs) hs = ap (λ x. allowed g && x) (allowed_join gs hs) ∙ sym (and_assoc (allowed g) (all_allowed gs) (all_allowed hs))

-- f and a tell of all of the numbers
pub record Tells (gs : List Given) (f a : Bool) : Type 0 where
  pub finite : f ≡ all_finite gs
  pub allowed : a ≡ all_allowed gs

pub one : {g : Given} {f a : Bool} → f ≡ finite (value g) → a ≡ allowed g → Tells (g ∷ []) f a
unfolding all_finite all_allowed
one {g} p q = record { finite = p ∙ sym (and-true (finite (value g))); allowed = q ∙ sym (and-true (allowed g)) }

pub more : {g : Given} {gs : List Given} {f a f' a' : Bool} → f ≡ finite (value g) → a ≡ allowed g → Tells gs f' a' → Tells (g ∷ gs) (f && f') (a && a')
unfolding all_finite all_allowed
more p q r = record { finite = ap₂ (λ x y. x && y) p r.finite; allowed = ap₂ (λ x y. x && y) q r.allowed }

pub checked : (t : Text) {n : ℕ} {w : Judged} {f a : Bool} {v : Result ⊤ TextRefusal} → Judges t.widths n w → Tells (size t.gap ∷ size t.height ∷ offset t.min_y ∷ size t.left ∷ size t.right ∷ []) f a
    → v ≡ cond (w.finite && f) (cond (w.allowed && a) (cond (leb n 512) (cond (eq t.height zero+) (Err TextRefusal.NoLineHeight) (Ok tt)) (Err TextRefusal.TooManyWords)) (Err TextRefusal.OutOfLimits)) (Err TextRefusal.NotFinite)
    → v ≡ check_of t
unfolding check_of
checked t {n} {w} {f} {a} {v} j s e =
    let five = size t.gap ∷ size t.height ∷ offset t.min_y ∷ size t.left ∷ size t.right ∷ [] in
    let p = ap₂ (λ x y. x && y) j.finite s.finite ∙ sym (finite_join (map size t.widths) five) in
    let q = ap₂ (λ x y. x && y) j.allowed s.allowed ∙ sym (allowed_join (map size t.widths) five) in
    e ∙ rw (p, q, j.count) refl
