-- The lines set so far and those that the rest will give are the definition's.
use Rattle.std.specs.Prelude.{Result, Ok, Err}
use Prim.Native.Nat.{ℕ, zero, suc, ◌+◌, ◌-◌, ◌≤◌, ◌<◌}
use mathlib.Core.Path.{◌≡◌, refl, sym, ap, ap₂, ◌∙◌, subst}
use mathlib.Core.Bool.{Bool, true, false, not, ◌||◌, cond, true≢false, or-true}
use mathlib.Core.List.{List, [], ◌∷◌, ◌++◌, append_assoc, append-nil, map}
use native.Mathlib.Numerals.{add-one}
use native.Mathlib.Omega.{arith}
use lib.Dec.{T, eqb, eqb→eq}
use lib.Ieee.{Float, binary32, le, fits}
use lib.Ieee.Fits.{and_l, and_r}
use lib.ListN.{length, drop, set, replicate, length-append, length-drop, length-replicate, length-map}
use lib.Seq.{drop-cons, set-append_seam}
use Rattle.float.specs.declared.Segment.{Segment}
use Rattle.float.specs.Numbers.{size, offset, most, plus_zero, finite, within, allowed, all_finite, all_allowed, in_reach}
use Rattle.float.specs.Page.{front}
use Rattle.f32_laws.specs.Key.{Fin}
use Rattle.f32_laws.specs.Numbers.{zero+}
use Rattle.demands.proofs.Laws.{val_fin, ins_fin}
use Rattle.demands.proofs.Input.{known_one}
use Rattle.words.specs.declared.Line.{Line}
use Rattle.words.specs.declared.Lines.{Lines}
use Rattle.words.specs.declared.TextRefusal.{TextRefusal}
use Rattle.words.specs.declared.beside.Span.{Span}
use Rattle.words.specs.Text.{Text, cleaned, max_words, check_of}
use Rattle.words.specs.Lines.{bottom_at, span_at, room_of, first_fits, more, moved_to, too_far, moves, takes, turn_at, Told, lines, refused, before, set_from, set_all, set_on, answered, no_line, no_lines}
use Rattle.words.specs.Laid.{taken}
use Rattle.words.proofs.Checked.{passed}
use Rattle.words.proofs.Setting.{by_turn}
use Rattle.std.proofs.lemmas.List.{drop-map}
use Rattle.words.proofs.Judging.{finite_join, allowed_join}

-- ---- lines before others

abbrev onto : List Line → Told → Told
onto xs (lines ys) = lines (xs ++ ys)
onto xs (refused n) = refused n

onto_nil : (r : Told) → r ≡ onto [] r
onto_nil (lines xs) = refl
onto_nil (refused n) = refl

onto_one : (xs : List Line) (x : Line) (r : Told) → onto xs (before x r) ≡ onto (xs ++ x ∷ []) r
onto_one xs x (lines ys) = ap lines (sym (append_assoc xs (x ∷ []) ys))
onto_one xs x (refused n) = refl

-- ---- one more at the front of the array

front_more : (l a : List Line) (x : Line) → length l < length a → set (front l a) (length l) x ≡ front (l ++ x ∷ []) a
unfolding front
front_more l a x h =
    ap (λ r. set (l ++ r) (length l) x) (drop-cons a (length l) no_line h)
    ∙ set-append_seam l _ _ x
    ∙ sym (append_assoc l (x ∷ []) (drop (suc (length l)) a))
    ∙ ap (λ n. l ++ x ∷ [] ++ drop n a) (sym (length-append l (x ∷ []) ∙ add-one (length l)))

-- ---- what a turn is, by what the code finds

far_turn : (w : Float) (bs : List Segment) (t : Text) (y v : Float) (vs : List Float) → in_reach (bottom_at t y) ≡ false → turn_at w bs t y v vs ≡ too_far
unfolding turn_at
far_turn w bs t y v vs r = rw r refl

module _ (w : Float) (bs : List Segment) (t : Text) (y : Float) (e : Span) (same : e ≡ span_at bs t y) where
  module _ (reach : in_reach (bottom_at t y) ≡ true) (v : Float) (vs : List Float) where
    moves_turn : 0 ≡ taken e (room_of w e) t.gap (v ∷ vs) → turn_at w bs t y v vs ≡ moves (moved_to bs y)
    unfolding turn_at taken
    moves_turn h = rw (reach, sym same) (go (first_fits e (room_of w e) v) h)
      where
        go : (b : Bool) → 0 ≡ cond b (suc (more (room_of w e) t.gap v vs)) 0 → cond b (takes e.left (more (room_of w e) t.gap v vs)) (moves (moved_to bs y)) ≡ moves (moved_to bs y)
        go true h = absurd (omega (arith, h))
        go false h = refl

    takes_turn : (n : ℕ) → suc n ≡ taken e (room_of w e) t.gap (v ∷ vs) → turn_at w bs t y v vs ≡ takes e.left n
    unfolding turn_at taken
    takes_turn n h = rw (reach, sym same) (go (first_fits e (room_of w e) v) h)
      where
        go : (b : Bool) → suc n ≡ cond b (suc (more (room_of w e) t.gap v vs)) 0 → cond b (takes e.left (more (room_of w e) t.gap v vs)) (moves (moved_to bs y)) ≡ takes e.left n
        go true h = ap (takes e.left) (omega (arith, h))
        go false h = absurd (omega (arith, h))

-- ---- the loop's invariant

pub record Going (w : Float) (bs : List Segment) (t : Text) (array : List Line) (count first : ℕ) (y : Float) (rest : List Float) (turns : ℕ) : Type 0 where
  pub done : List Line
  pub holds : array ≡ front done (replicate max_words no_line)
  pub number : count ≡ length done
  pub few : count ≤ first
  pub words : first + length rest ≡ length t.widths
  pub most : length t.widths ≤ max_words
  pub same : set_all w bs t ≡ onto done (set_from turns w bs t first y (map plus_zero rest))

pub going_starts : (w : Float) (bs : List Segment) (t : Text) (ws : List Float) {s : Lines} {n : ℕ} → t.widths ≡ map plus_zero ws → length t.widths ≤ max_words → s ≡ no_lines → n ≡ length bs → Going w bs t s.lines s.count 0 t.min_y ws (n + length ws)
unfolding front
going_starts w bs t ws e h p q =
    let k : length t.widths ≡ length ws = ap length e ∙ length-map ws plus_zero in
    record { done = []; holds = ap (λ s. s.lines) p; number = ap (λ s. s.count) p; few = omega (arith, ap (λ s. s.count) p); words = omega (arith, k); most = h; same = onto_nil (set_all w bs t) ∙ ap (λ l. onto [] (set_from (length bs + length t.widths) w bs t 0 t.min_y l)) e ∙ ap (λ n. onto [] (set_from n w bs t 0 t.min_y (map plus_zero ws))) (ap₂ ◌+◌ (sym q) k) }

none_left : (f : ℕ) (w : Float) (bs : List Segment) (t : Text) (k : ℕ) (y : Float) (l : List Float) → length l ≤ 0 → set_from f w bs t k y (map plus_zero l) ≡ lines []
unfolding set_from
none_left zero w bs t k y [] h = refl
none_left (suc f) w bs t k y [] h = refl
none_left zero w bs t k y (x ∷ l) h = absurd (omega (arith, h))
none_left (suc f) w bs t k y (x ∷ l) h = absurd (omega (arith, h))

or_false : (a : Bool) → (a || false) ≡ true → T a
or_false true e = tt
or_false false e = absurd (true≢false (sym e))

-- a line too far, or no turn left
out : (f : ℕ) (w : Float) (bs : List Segment) (t : Text) (k : ℕ) (y : Float) (l : List Float) → 0 < length l → (b : Bool) → b ≡ in_reach (bottom_at t y) → (eqb f 0 || not b) ≡ true → set_from f w bs t k y (map plus_zero l) ≡ refused TextRefusal.TooFar
unfolding set_from
out f w bs t k y [] h b e r = absurd (omega (arith, h))
out zero w bs t k y (x ∷ l) h b e r = refl
out (suc f) w bs t k y (x ∷ l) h true e r = absurd (omega (arith, eqb→eq (suc f) 0 (or_false (eqb (suc f) 0) r)))
out (suc f) w bs t k y (x ∷ l) h false e r = by_turn w bs t f k y (plus_zero x) (map plus_zero l) too_far (far_turn w bs t y (plus_zero x) (map plus_zero l) (sym e))

module _ {w : Float} {bs : List Segment} {t : Text} {array : List Line} {count first : ℕ} {y : Float} {rest : List Float} {turns : ℕ} (g : Going w bs t array count first y rest turns) where
  -- the array has a place for one more line
  pub going_room : 0 < length rest → count < 512
  going_room h = omega (arith, h, g.few, g.words, g.most)

  -- no words are left
  pub going_done : length rest ≤ 0 → ◌≡◌ {A = Result Lines TextRefusal} (Ok (record { lines = array; count = count })) (answered (set_all w bs t))
  unfolding answered
  going_done h = rw (g.holds, g.number) (sym (ap answered (g.same ∙ ap (onto g.done) (none_left turns w bs t first y rest h) ∙ ap lines (append-nil g.done))))

  -- no line at all
  pub going_far : 0 < length rest → (b : Bool) → b ≡ in_reach (bottom_at t y) → (eqb turns 0 || not b) ≡ true → set_all w bs t ≡ refused TextRefusal.TooFar
  going_far h b e r = g.same ∙ ap (onto g.done) (out turns w bs t first y rest h b e r)

  module _ (e : Span) (same : e ≡ span_at bs t y) (reach : in_reach (bottom_at t y) ≡ true) (n : ℕ) (some : 0 < length rest) (has : n ≡ taken e (room_of w e) t.gap (map plus_zero rest)) where
    -- the line moves down
    pub going_moves : 0 < turns → n ≡ 0 → (z : Float) → z ≡ moved_to bs y → Going w bs t array count first z rest (turns - 1)
    going_moves p q z m = record { done = g.done; holds = g.holds; number = g.number; few = g.few; words = g.words; most = g.most; same = g.same ∙ ap (onto g.done) (step turns rest p some has) }
      where
        step : (f : ℕ) (l : List Float) → 0 < f → 0 < length l → n ≡ taken e (room_of w e) t.gap (map plus_zero l) → set_from f w bs t first y (map plus_zero l) ≡ set_from (f - 1) w bs t first z (map plus_zero l)
        step zero l p s h = absurd (omega (arith, p))
        step (suc f) [] p s h = absurd (omega (arith, s))
        step (suc f) (v ∷ vs) p s h = by_turn w bs t f first y (plus_zero v) (map plus_zero vs) (moves z) (moves_turn w bs t y e same reach (plus_zero v) (map plus_zero vs) (sym q ∙ h) ∙ ap moves (sym m)) ∙ ap (λ k. set_from k w bs t first z (plus_zero v ∷ map plus_zero vs)) (omega arith)

    -- the line is set
    pub going_takes : 0 < turns → 0 < n → n ≤ length rest → Going w bs t (set array count (record { x = e.left; y = y; first = first; count = n })) (count + 1) (first + n) (bottom_at t y) (drop n rest) (turns - 1)
    going_takes p q k =
        let line : Line = record { x = e.left; y = y; first = first; count = n } in
        let r = going_room some in
        record {
          done = g.done ++ line ∷ [];
          holds = ap₂ (λ a i. set a i line) g.holds g.number ∙ front_more g.done (replicate max_words no_line) line (subst (λ m. length g.done < m) (sym (length-replicate max_words no_line)) (omega (arith, r, g.number)));
          number = ap (λ m. m + 1) g.number ∙ sym (length-append g.done (line ∷ []));
          few = omega (arith, q, g.few);
          words = omega (arith, k, g.words, length-drop n rest);
          most = g.most;
          same = g.same ∙ ap (onto g.done) (step turns rest n p some q has) ∙ onto_one g.done line (set_from (turns - 1) w bs t (first + n) (bottom_at t y) (map plus_zero (drop n rest)));
        }
      where
        step : (f : ℕ) (l : List Float) (n : ℕ) → 0 < f → 0 < length l → 0 < n → n ≡ taken e (room_of w e) t.gap (map plus_zero l) → set_from f w bs t first y (map plus_zero l) ≡ before (record { x = e.left; y = y; first = first; count = n }) (set_from (f - 1) w bs t (first + n) (bottom_at t y) (map plus_zero (drop n l)))
        step zero l n p s q h = absurd (omega (arith, p))
        step (suc f) [] n p s q h = absurd (omega (arith, s))
        step (suc f) (v ∷ vs) zero p s q h = absurd (omega (arith, q))
        step (suc f) (v ∷ vs) (suc n) p s q h =
            by_turn w bs t f first y (plus_zero v) (map plus_zero vs) (takes e.left n) (takes_turn w bs t y e same reach (plus_zero v) (map plus_zero vs) n h)
            ∙ ap₂ (λ k l. before (record { x = e.left; y = y; first = first; count = suc n }) (set_from k w bs t (first + suc n) (bottom_at t y) l)) (omega arith) (drop-map plus_zero n vs)

pub going_rest : {w : Float} {bs : List Segment} {t : Text} {a : List Line} {k f n : ℕ} {y : Float} {l m : List Float} → Going w bs t a k f y l n → l ≡ m → Going w bs t a k f y m n
going_rest {w} {bs} {t} {a} {k} {f} {n} {y} g e = subst (λ r. Going w bs t a k f y r n) e g

-- a turn is left, and the line is in reach
pub goes : (turns : ℕ) (b r : Bool) → b ≡ r → (eqb turns 0 || not b) ≡ false → (0 < turns) × (r ≡ true)
goes zero b r e h = absurd (true≢false h)
goes (suc n) true r e h = (omega arith, sym e)
goes (suc n) false r e h = absurd (true≢false (sym (or-true (eqb (suc n) 0)) ∙ h))

-- what the check lets through
pub record Sound (t : Text) : Type 0 where
  pub few : length t.widths ≤ max_words
  pub top : Fin binary32 t.min_y
  pub height : Fin binary32 t.height
  pub up : T (le zero+ t.height)

pub sound : (t : Text) → check_of t ≡ Ok tt → fits binary32 t.height ≡ true → fits binary32 t.min_y ≡ true → Sound t
unfolding all_finite all_allowed within
sound t c f g =
    let p = passed t c in
    let five = size t.gap ∷ size t.height ∷ offset t.min_y ∷ size t.left ∷ size t.right ∷ [] in
    let u = and_r (all_finite (map size t.widths)) (all_finite five) (subst T (finite_join (map size t.widths) five) p.finite) in
    let v = and_r (all_allowed (map size t.widths)) (all_allowed five) (subst T (allowed_join (map size t.widths) five) p.allowed) in
    let u₁ = and_r (finite t.gap) _ u in
    let v₁ = and_r (allowed (size t.gap)) _ v in
    let h = known_one (size t.height) (subst T (sym f) tt) (and_l (finite t.height) _ u₁) (and_l (allowed (size t.height)) _ v₁) in
    let m = known_one (offset t.min_y) (subst T (sym g) tt) (and_l (finite t.min_y) _ (and_r (finite t.height) _ u₁)) (and_l (allowed (offset t.min_y)) _ (and_r (allowed (size t.height)) _ v₁)) in
    record { few = p.few; top = val_fin m; height = ins_fin h; up = and_l (le zero+ t.height) (le t.height most) (and_l (allowed (size t.height)) _ v₁) }

-- ---- the check decides

pub on_passed : (w : Float) (ls bs : List Segment) (t u : Text) → ls ≡ bs → u ≡ cleaned t → check_of u ≡ Ok tt → set_all w ls u ≡ set_on w bs t
unfolding set_on
on_passed w ls bs t u h e p = ap₂ (set_all w) h e ∙ ap (λ c. elim c [ Ok _ ↦ set_all w bs (cleaned t) | Err n ↦ refused n ]) (sym (ap check_of (sym e) ∙ p))

pub on_refused : (w : Float) (bs : List Segment) (t u : Text) (n : TextRefusal) → u ≡ cleaned t → check_of u ≡ Err n → refused n ≡ set_on w bs t
unfolding set_on
on_refused w bs t u n e p = ap (λ c. elim c [ Ok _ ↦ set_all w bs (cleaned t) | Err n ↦ refused n ]) (sym (ap check_of (sym e) ∙ p))

-- a text whose numbers were cleaned one by one
pub cleaned_is : (t : Text) {g h y l r : Float} → g ≡ plus_zero t.gap → h ≡ plus_zero t.height → y ≡ plus_zero t.min_y → l ≡ plus_zero t.left → r ≡ plus_zero t.right → ◌≡◌ {A = Text} (record { widths = map plus_zero t.widths; gap = g; height = h; min_y = y; left = l; right = r }) (cleaned t)
cleaned_is t a b c d e = rw (a, b, c, d, e) refl
