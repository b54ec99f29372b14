use Rattle.std.specs.Prelude.{Ok, Err}
-- Bands as numbers: of each four numbers their band, which is what is read of them all; and bands laid, and read back. By going down both lists.
use Prim.Native.Nat.{ℕ, zero, suc, ◌+◌, ◌-◌, ◌*◌, ◌/◌, ◌<◌, ◌≤◌}
use mathlib.Core.Path.{◌≡◌, refl, sym, ap, ap₂, ◌∙◌}
use mathlib.Core.Bool.{true, false, cond}
use mathlib.Core.List.{List, [], ◌∷◌, ◌++◌, map}
use native.Mathlib.Numerals.{add-one, unary_clauses}
use native.Mathlib.Omega.{arith}
use denote.Laws.{Is}
use denote.Struct.Declared.{row}
use mir.Val.{Val}
use Rattle.std.specs.Simd.{first_chunks}
use lib.Ieee.{Float, nan, lt}
use lib.ListN.{length, take, drop, get_or, length-map}
use lib.Seq.{take_all, take-suc}
use Rattle.f32_laws.specs.Numbers.{larger}
use Rattle.float.specs.declared.FloatContext.{FloatContext}
use Rattle.float.specs.declared.Segment.{Segment}
use Rattle.float.specs.Bands.{none, bare, last_end}
use Rattle.float.specs.Page.{page_of}
use Rattle.float.specs.contracts.FloatContext.{the_type}
use Rattle.words.specs.declared.TextRefusal.{TextRefusal}
use Rattle.words.specs.declared.beside.Span.{Span}
use Rattle.words.specs.Text.{Text, cleaned, check_of}
use Rattle.words.specs.Lines.{bottom_at, touches, joined, span_over, span_at, next_start, moved_to, Turn, too_far, moves, takes, turn_at, Told, refused, before, set_from, set_all, set_on, set_words}
use Rattle.words.specs.Laid.{laid, read, bands_of}

-- ---- the bands of each four numbers

-- those that are read
pub bands_read : (xs : List Float) → bands_of (first_chunks 4 (length xs / 4) xs) ≡ read xs
unfolding read
bands_read [] = refl
bands_read (a ∷ []) = refl
bands_read (a ∷ b ∷ []) = refl
bands_read (a ∷ b ∷ c ∷ []) = refl
bands_read (a ∷ b ∷ c ∷ d ∷ xs) = let e : length (a ∷ b ∷ c ∷ d ∷ xs) / 4 ≡ suc (length xs / 4) = omega arith in ap (λ n. bands_of (first_chunks 4 n (a ∷ b ∷ c ∷ d ∷ xs))) e ∙ ap (λ l. bare a b c d ∷ l) (bands_read xs)

-- the last band's end, or none
pub end_none : (y : Float) (cs : List (List Float)) → length cs < 1 → y ≡ last_end y (bands_of cs)
unfolding last_end
end_none y [] h = refl
end_none y (c ∷ cs) h = absurd (omega (arith, h))

pub end_last : (y : Float) (cs : List (List Float)) → 1 ≤ length cs → get_or (get_or cs (length cs - 1) []) 1 nan ≡ last_end y (bands_of cs)
unfolding last_end
end_last y [] h = absurd (omega (arith, h))
end_last y (c ∷ []) h = refl
end_last y (c ∷ d ∷ cs) h = simp unary_clauses (simp unary_clauses at (end_last (get_or c 1 nan) (d ∷ cs) (omega arith)))

-- ---- bands laid and read back: a line sees no more of a band than its four numbers

bared : Segment → Segment
bared s = bare s.start s.end s.left s.right

read_laid : (l : List Segment) → read (laid l) ≡ map bared l
unfolding laid read bared
read_laid [] = refl
read_laid (s ∷ l) = ap (λ m. bare s.start s.end s.left s.right ∷ m) (read_laid l)

span_bared : (y b : Float) (e : Span) (l : List Segment) → span_over y b e (map bared l) ≡ span_over y b e l
unfolding span_over bared
span_bared y b e [] = refl
span_bared y b e (s ∷ l) = span_bared y b (cond (touches y b s) (joined e s) e) l

next_bared : (y z : Float) (l : List Segment) → next_start y z (map bared l) ≡ next_start y z l
unfolding next_start bared
next_bared y z [] = refl
next_bared y z (s ∷ l) = ap (λ x. elim (lt y s.start) [ true ↦ s.start | false ↦ x ]) (next_bared y z l)

last_bared : (x : Float) (l : List Segment) → last_end x (map bared l) ≡ last_end x l
unfolding last_end bared
last_bared x [] = refl
last_bared x (s ∷ l) = last_bared s.end l

module _ (w : Float) (l : List Segment) (t : Text) where
  turn_bared : (y v : Float) (vs : List Float) → turn_at w (map bared l) t y v vs ≡ turn_at w l t y v vs
  unfolding turn_at span_at moved_to
  turn_bared y v vs = rw (span_bared y (bottom_at t y) (record { left = t.left; right = t.right; beside = false }) l, last_bared y l, next_bared y (larger y (last_end y l)) l) refl

  from_bared : (f k : ℕ) (y : Float) (vs : List Float) → set_from f w (map bared l) t k y vs ≡ set_from f w l t k y vs
  unfolding set_from
  from_bared zero k y [] = refl
  from_bared zero k y (v ∷ vs) = refl
  from_bared (suc f) k y [] = refl
  from_bared (suc f) k y (v ∷ vs) = ap (turned (map bared l)) (turn_bared y v vs) ∙ go (turn_at w l t y v vs) (from_bared f)
    where
      turned : List Segment → Turn → Told
      turned m u = elim u [ too_far ↦ refused TextRefusal.TooFar | moves z ↦ set_from f w m t k z (v ∷ vs) | takes x n ↦ before (record { x = x; y = y; first = k; count = suc n }) (set_from f w m t (k + suc n) (bottom_at t y) (drop n vs)) ]

      go : (u : Turn) → ((k : ℕ) (y : Float) (vs : List Float) → set_from f w (map bared l) t k y vs ≡ set_from f w l t k y vs) → turned (map bared l) u ≡ turned l u
      go too_far h = refl
      go (moves z) h = h k z (v ∷ vs)
      go (takes x n) h = ap (before (record { x = x; y = y; first = k; count = suc n })) (h (k + suc n) (bottom_at t y) (drop n vs))

pub set_laid : (w : Float) (l : List Segment) (t : Text) → set_on w (read (laid l)) t ≡ set_on w l t
unfolding set_on
set_laid w l t = ap (λ m. set_on w m t) (read_laid l) ∙ ap (λ r. elim (check_of (cleaned t)) [ Ok _ ↦ r | Err n ↦ refused n ]) all
  where
    c : Text
    c = cleaned t

    all : set_all w (map bared l) c ≡ set_all w l c
    all = from_bared w l c (length (map bared l) + length c.widths) 0 c.min_y c.widths ∙ ap (λ n. set_from (n + length c.widths) w l c 0 c.min_y c.widths) (length-map l bared)

-- ---- laying one after the other

laid_one : (l : List Segment) (s : Segment) → laid (l ++ s ∷ []) ≡ laid l ++ s.start ∷ s.end ∷ s.left ∷ s.right ∷ []
unfolding laid
laid_one [] s = refl
laid_one (x ∷ l) s = ap (λ m. x.start ∷ x.end ∷ x.left ∷ x.right ∷ m) (laid_one l s)

-- the numbers of the first i of these bands lie at the front
pub record Lays (bs : List Segment) (xs : List Float) (i : ℕ) : Type 0 where
  pub front : take (4 * i) xs ≡ laid (take i bs)

pub lays_none : (bs : List Segment) (xs : List Float) → Lays bs xs 0
unfolding laid
lays_none bs xs = record { front = refl }

pub lays_one : {bs : List Segment} {xs : List Float} {i : ℕ} → Lays bs xs i → i < length bs → (ys : List Float) (s : Segment) → s ≡ get_or bs i none → take (4 * suc i) ys ≡ take (4 * i) xs ++ s.start ∷ s.end ∷ s.left ∷ s.right ∷ [] → Lays bs ys (i + 1)
lays_one {bs} {xs} {i} h k ys s e p =
    record { front = ap (λ n. take (4 * n) ys) (add-one i) ∙ p ∙ ap₂ (λ a b. a ++ b.start ∷ b.end ∷ b.left ∷ b.right ∷ []) h.front e ∙ sym (laid_one (take i bs) (get_or bs i none)) ∙ ap laid (sym (take-suc bs i none k)) ∙ ap (λ n. laid (take n bs)) (sym (add-one i)) }

-- ---- a page's bands

-- the array that the machine holds has 96 places
pub bands_96 : (p : FloatContext) (v : List Val) → Is (row the_type) p v → length p.bands ≡ 96
bands_96 p v g = g.1.1.1.0.1.0.1

-- a page's live bands are all laid
pub set_page : (p : FloatContext) (l : List Segment) (xs : List Float) (i : ℕ) (t : Text) → l ≡ take p.count p.bands → length l ≤ i → i ≤ length l → Lays l xs i → set_on p.width (read (take (4 * length l) xs)) t ≡ set_words (page_of p) t
unfolding page_of set_words
set_page p l xs i t e h k lays =
    let m : take (4 * length l) xs ≡ laid l = ap (λ j. take (4 * j) xs) (omega (arith, h, k)) ∙ lays.front ∙ ap laid (take_all i l h) in
    ap (λ l. set_on p.width (read l) t) m ∙ set_laid p.width l t ∙ ap (λ l. set_on p.width l t) e
