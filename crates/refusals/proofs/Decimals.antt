-- The decimals of a number give it back, so two lines R are the same only where their numbers are.
use Prim.Native.Nat.{ℕ, zero, suc, ◌+◌, ◌-◌, ◌*◌, ◌/◌, ◌%◌, ◌^◌, ◌<◌, ◌≤◌}
use native.Mathlib.Omega.{arith}
use native.Mathlib.Nat.{pow-suc}
use mathlib.Core.Path.{◌≡◌, refl, ap, ◌∙◌}
use mathlib.Core.Bool.{Bool, true, false}
use mathlib.Core.List.{List, [], ◌∷◌, ◌++◌}
use lib.Dec.{ltb}
use lib.ListN.{drop}
use borrow.Author.Tests.{ltb-true, ltb-false, lt-ltb}
use Rattle.tape.specs.Bytes.{digit, digits, decimals, decimal, fields}
use Rattle.refusals.specs.Answered.{refusal}

-- the number that decimals stand for, with n before them
read : ℕ → List ℕ → ℕ
read n [] = n
read n (c ∷ cs) = read (n * 10 + (c - 48)) cs

read_more : (n : ℕ) (l : List ℕ) (c : ℕ) → read n (l ++ c ∷ []) ≡ read n l * 10 + (c - 48)
unfolding read
read_more n [] c = refl
read_more n (x ∷ l) c = read_more (n * 10 + (x - 48)) l c

digit_is : (d : ℕ) → d < 10 → digit d - 48 ≡ d
digit_is d h = rw (lt-ltb d 10 h) (omega arith)

read_digits : (k n : ℕ) → n < 10 ^ k → read 0 (digits 10 k n) ≡ n
unfolding read digits
read_digits zero n h = omega arith
read_digits (suc k) n h =
    let p = pow-suc 10 k in
    let i = read_digits k (n / 10) (omega arith) in
    let d = digit_is (n % 10) (omega arith) in
    read_more 0 (digits 10 k (n / 10)) (digit (n % 10)) ∙ rw (i, d) (omega arith)

-- as many decimals as the number has
enough : (f n : ℕ) → n ≤ f → n < 10 ^ decimals f n
unfolding decimals
enough zero n h = omega arith
enough (suc f) n h = go (ltb n 10) refl (enough f (n / 10))
  where
    go : (t : Bool) → ltb n 10 ≡ t → (n / 10 ≤ f → n / 10 < 10 ^ decimals f (n / 10)) → n < 10 ^ elim t [ true ↦ 1 | false ↦ suc (decimals f (n / 10)) ]
    go true e i = ltb-true n 10 e
    go false e i = let l = ltb-false n 10 e in let p = pow-suc 10 (decimals f (n / 10)) in let j = i (omega arith) in omega arith

line_back : (n : ℕ) → read 0 (drop 2 (refusal n)) ≡ n * 10
unfolding decimal fields
line_back n = let e = read_digits (decimals n n) n (enough n n (omega arith)) in read_more 0 (decimal n) 10 ∙ omega arith

pub one_number : (n m : ℕ) → refusal n ≡ refusal m → n ≡ m
one_number n m e = let d = ap (λ (l : List ℕ). read 0 (drop 2 l)) e in omega (arith, line_back n, line_back m, d)
