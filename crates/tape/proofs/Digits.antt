-- Digits put from the back, and how many decimals a number has.
use Prim.Native.Nat.{ℕ, zero, suc, ◌+◌, ◌-◌, ◌*◌, ◌/◌, ◌%◌, ◌^◌, ◌≤◌, ◌<◌}
use mathlib.Core.Bool.{Bool, true, false}
use mathlib.Core.Path.{◌≡◌, refl, sym, ap, ◌∙◌}
use mathlib.Core.List.{List, [], ◌∷◌, ◌++◌, append_assoc}
use native.Mathlib.Nat.{add-zero, add-suc, sub-zero, pow-suc}
use native.Mathlib.Omega.{arith}
use borrow.Author.Tests.{lt-ltb, le-ltb, ltb-true, ltb-false}
use lib.Dec.{ltb}
use lib.ListN.{length, take, drop, set, length-append, length-set}
use lib.Seq.{take-add, take-take, take-set-le, drop-set-lt, drop-cons, get_or-set_same}
use Rattle.tape.specs.Bytes.{digit, digits, decimals}
use Rattle.tape.specs.Put.{Put}

pub length_digits : (b k n : ℕ) → length (digits b k n) ≡ k
unfolding digits
length_digits b zero n = refl
length_digits b (suc k) n = length-append (digits b k (n / b)) (digit (n % b) ∷ []) ∙ (let e = length_digits b k (n / b) in omega arith)

-- of k digits of n, to be put at p into l₀, those from the i-th on stand in l; those before it are the digits of m
pub record Filling (b k n p i m : ℕ) (l₀ l : List ℕ) : Type 0 where
  pub long : length l ≡ length l₀
  pub kept : take (p + i) l ≡ take (p + i) l₀
  pub past : drop (p + k) l ≡ drop (p + k) l₀
  pub rest : digits b k n ≡ digits b i m ++ take (k - i) (drop (p + i) l)

-- the place q is put, where the list is long enough
placed : (l : List ℕ) (q d : ℕ) → q < length l → drop q (set l q d) ≡ d ∷ drop (suc q) l
placed l q d h =
    drop-cons (set l q d) q 0 (let e = length-set l q d in omega arith)
    ∙ ap (λ (x : ℕ). x ∷ drop (suc q) (set l q d)) (get_or-set_same l q d 0 h)
    ∙ ap (λ (x : List ℕ). d ∷ x) (drop-set-lt (suc q) l q d (omega arith))

tail : (l : List ℕ) (p k j d : ℕ) → j < k → p + k ≤ length l → take (k - j) (drop (p + j) (set l (p + j) d)) ≡ d ∷ take (k - suc j) (drop (p + suc j) l)
tail l p k j d h r =
    ap (λ (x : List ℕ). take (k - j) x) (placed l (p + j) d (omega arith))
    ∙ ap (λ (x : ℕ). take x (d ∷ drop (suc (p + j)) l)) (let e : k - j ≡ suc (k - suc j) = omega arith in e)
    ∙ ap (λ (x : ℕ). d ∷ take (k - suc j) (drop x l)) (sym (add-suc p j))

pub filling_more : (b k n p j m : ℕ) (l₀ l : List ℕ) (d : ℕ) → j < k → p + k ≤ length l₀ → d ≡ digit (m % b) → Filling b k n p (suc j) m l₀ l → Filling b k n p j (m / b) l₀ (set l (p + j) d)
unfolding digits
filling_more b k n p j m l₀ l d h r e f = record {
  long = length-set l (p + j) d ∙ f.long;
  kept =
      take-set-le (p + j) l (p + j) d (omega arith)
      ∙ sym (shorter l)
      ∙ ap (take (p + j)) f.kept
      ∙ shorter l₀;
  past = drop-set-lt (p + k) l (p + j) d (omega arith) ∙ f.past;
  rest =
      f.rest
      ∙ append_assoc (digits b j (m / b)) (digit (m % b) ∷ []) (take (k - suc j) (drop (p + suc j) l))
      ∙ ap (λ (x : ℕ). digits b j (m / b) ++ x ∷ take (k - suc j) (drop (p + suc j) l)) (sym e)
      ∙ ap (λ (x : List ℕ). digits b j (m / b) ++ x) (sym (tail l p k j d h (let g = f.long in omega arith)));
}
  where
    shorter : (x : List ℕ) → take (p + j) (take (p + suc j) x) ≡ take (p + j) x
    shorter x = take-take (p + j) (p + suc j) x (omega arith)

pub filling_done : (b k n p m : ℕ) (l₀ l : List ℕ) → Filling b k n p 0 m l₀ l → Put l₀ p (digits b k n) l (p + k)
unfolding digits
filling_done b k n p m l₀ l f = record {
  next = ap (λ (x : ℕ). p + x) (sym (length_digits b k n));
  long = f.long;
  text = λ _.
      take-add p k l
      ∙ ap (λ (x : List ℕ). x ++ take k (drop p l)) (ap (λ (x : ℕ). take x l) (sym (add-zero p)) ∙ f.kept ∙ ap (λ (x : ℕ). take x l₀) (add-zero p))
      ∙ ap (λ (x : List ℕ). take p l₀ ++ x) (sym (f.rest ∙ ap (λ (x : ℕ). take x (drop (p + 0) l)) (sub-zero k) ∙ ap (λ (x : ℕ). take k (drop x l)) (add-zero p)));
  rest = f.past;
}

-- ---- decimals

under_ten : (f n : ℕ) → n < 10 → decimals f n ≡ 1
unfolding decimals
under_ten zero n h = refl
under_ten (suc f) n h = rw (lt-ltb n 10 h, decimals)

ten_or_more : (f n : ℕ) → 10 ≤ n → decimals (suc f) n ≡ suc (decimals f (n / 10))
unfolding decimals
ten_or_more f n h = rw (le-ltb n 10 h, decimals)

by_ten : {P : Type 0} (n : ℕ) (t : Bool) → ltb n 10 ≡ t → (n < 10 → P) → (10 ≤ n → P) → P
by_ten n true e f g = f (ltb-true n 10 e)
by_ten n false e f g = g (ltb-false n 10 e)

-- any fuel that is not less than the number will do
enough : (f g n : ℕ) → n ≤ f → n ≤ g → decimals f n ≡ decimals g n
enough zero g n hf hg = under_ten zero n (omega arith) ∙ sym (under_ten g n (omega arith))
enough (suc f) zero n hf hg = under_ten (suc f) n (omega arith) ∙ sym (under_ten zero n (omega arith))
enough (suc f) (suc g) n hf hg =
    by_ten n (ltb n 10) refl
    (λ h. under_ten (suc f) n h ∙ sym (under_ten (suc g) n h))
    (λ h. ten_or_more f n h ∙ ap suc (enough f g (n / 10) (omega arith) (omega arith)) ∙ sym (ten_or_more g n h))

pub one_decimal : (n : ℕ) → n < 10 → decimals n n ≡ 1
one_decimal n h = under_ten n n h

pub one_more : (n : ℕ) → 10 ≤ n → decimals n n ≡ suc (decimals (n / 10) (n / 10))
one_more zero h = absurd (omega arith)
one_more (suc n) h = ten_or_more n (suc n) h ∙ ap suc (enough n (suc n / 10) (suc n / 10) (omega arith) (omega arith))

pub at_most : (k f n : ℕ) → n < 10 ^ suc k → decimals f n ≤ suc k
unfolding decimals
at_most zero f n h = let u = under_ten f n h in omega arith
at_most (suc k) zero n h = omega arith
at_most (suc k) (suc f) n h =
    by_ten n (ltb n 10) refl
    (λ u. let v = under_ten (suc f) n u in omega arith)
    (λ u. let p = pow-suc 10 (suc k) in let v = ten_or_more f n u in let w = at_most k f (n / 10) (omega arith) in omega arith)

ten_power : (k : ℕ) → 0 < 10 ^ k
ten_power zero = omega arith
ten_power (suc k) = let p = pow-suc 10 k in let q = ten_power k in omega arith

at_least : (k n : ℕ) → 10 ^ k ≤ n → k < decimals n n
at_least zero n h = by_ten n (ltb n 10) refl (λ u. let v = one_decimal n u in omega arith) (λ u. let v = one_more n u in omega arith)
at_least (suc k) n h = let p = pow-suc 10 k in let q = ten_power k in let v = one_more n (omega arith) in let w = at_least k (n / 10) (omega arith) in omega arith

-- as many as the power of ten says that it has reached
pub of_power : (k n : ℕ) → 10 ^ k ≤ n → n < 10 * 10 ^ k → decimals n n ≡ k + 1
of_power k n h l = let p = pow-suc 10 k in let v = at_least k n h in let w = at_most k n n (omega arith) in omega arith
