-- Finite sums.
use mathlib.Core.Path.{◌≡◌, refl, sym, ap}
use mathlib.Core.Bool.{Bool, true, false, cond}
use mathlib.Core.List.{List, [], ◌∷◌}
use Prim.Native.Nat.{ℕ, zero, suc, ◌+◌, ◌*◌, ◌≤◌, ◌<◌}
use native.Mathlib.Nat.{suc-mul}
use native.Mathlib.Decide.{ℕ_discrete, dec_le}
use mathlib.Core.Logic.{by_cases}
use native.Mathlib.Numerals.{add-one}
use native.Mathlib.Omega.{arith}
use lib.ListN.{length, get_or}
use Rattle.std.proofs.lemmas.List.Sums.{sum_by-cons}
use Rattle.std.specs.List
use Rattle.words.specs.Sums.{sum}

-- equal terms, equal sums
pub sum_cong : (n : ℕ) (g h : ℕ → ℕ) → ((i : ℕ) → i < n → g i ≡ h i) → sum n g ≡ sum n h
unfolding sum
sum_cong zero g h e = refl
sum_cong (suc n) g h e = omega (arith, sum_cong n g h (λ i l. e i (omega arith)), e n (omega arith))

-- smaller terms, a smaller sum
pub sum_le : (n : ℕ) (g h : ℕ → ℕ) → ((i : ℕ) → i < n → g i ≤ h i) → sum n g ≤ sum n h
unfolding sum
sum_le zero g h e = omega arith
sum_le (suc n) g h e = omega (arith, sum_le n g h (λ i l. e i (omega arith)), e n (omega arith))

-- one term is smaller, and the others no greater: a smaller sum
pub sum_lt : (n : ℕ) (g h : ℕ → ℕ) (k : ℕ) → k < n → g k < h k → ((i : ℕ) → i < n → g i ≤ h i) → sum n g < sum n h
unfolding sum
sum_lt zero g h k l s e = omega arith
sum_lt (suc n) g h k l s e =
    by_cases (ℕ_discrete k n)
    (λ p. omega (arith, sum_le n g h (λ i m. e i (omega arith)), ap g p, ap h p))
    (λ p. omega (arith, sum_lt n g h k (omega arith) s (λ i m. e i (omega arith)), e n (omega arith)))

-- the sum of sums
pub sum_add : (n : ℕ) (g h : ℕ → ℕ) → sum n (λ i. g i + h i) ≡ sum n g + sum n h
unfolding sum
sum_add zero g h = refl
sum_add (suc n) g h = omega (arith, sum_add n g h)

-- terms that are 0
pub sum_zero : (n : ℕ) (g : ℕ → ℕ) → ((i : ℕ) → i < n → g i ≡ 0) → sum n g ≡ 0
unfolding sum
sum_zero zero g e = refl
sum_zero (suc n) g e = omega (arith, sum_zero n g (λ i l. e i (omega arith)), e n (omega arith))

-- a term is at most the sum
pub sum_term : (n : ℕ) (g : ℕ → ℕ) (k : ℕ) → k < n → g k ≤ sum n g
unfolding sum
sum_term zero g k l = omega arith
sum_term (suc n) g k l =
    by_cases (ℕ_discrete k n) (λ p. omega (arith, ap g p)) (λ p. omega (arith, sum_term n g k (omega arith)))

-- the sum of n times 1
pub sum_ones : (n : ℕ) → sum n (λ i. 1) ≡ n
unfolding sum
sum_ones zero = refl
sum_ones (suc n) = omega (arith, sum_ones n)

-- the first term by itself
pub sum_first : (n : ℕ) (g : ℕ → ℕ) → sum (suc n) g ≡ g 0 + sum n (λ i. g (suc i))
unfolding sum
sum_first zero g = omega arith
sum_first (suc n) g = omega (arith, sum_first n g)

-- the last term by itself
pub sum_last : (n : ℕ) (g : ℕ → ℕ) → sum (suc n) g ≡ sum n g + g n
unfolding sum
sum_last n g = refl

-- the same at the code's `n + 1`
pub sum_more : (n : ℕ) (g : ℕ → ℕ) → sum (n + 1) g ≡ sum n g + g n
sum_more n g = rw add-one (sum_last n g)

-- the first n terms of a sum are at most the sum
pub sum_part : (n m : ℕ) (g : ℕ → ℕ) → n ≤ m → sum n g ≤ sum m g
unfolding sum
sum_part n zero g l = let e : n ≡ 0 = omega arith in rw e (omega arith)
sum_part n (suc m) g l =
    by_cases (dec_le n m)
    (λ k. omega (arith, sum_part n m g k))
    (λ k. let e : n ≡ suc m = omega arith in rw e (omega arith))

-- and so they are with the next term, which a loop adds
pub sum_step : (n m : ℕ) (g : ℕ → ℕ) → n < m → sum n g + g n ≤ sum m g
sum_step n m g l = omega (arith, sum_part (suc n) m g l, sum_last n g)

-- terms that are 0 at the end of a sum
pub sum_extend : (n m : ℕ) (g : ℕ → ℕ) → n ≤ m → ((i : ℕ) → n ≤ i → i < m → g i ≡ 0) → sum m g ≡ sum n g
unfolding sum
sum_extend n zero g l z = let e : n ≡ 0 = omega arith in rw e refl
sum_extend n (suc m) g l z =
    by_cases (dec_le n m)
    (λ k. omega (arith, sum_extend n m g k (λ i h p. z i h (omega arith)), z m k (omega arith)))
    (λ k. let e : n ≡ suc m = omega arith in rw e refl)

-- a last term that is 0
pub sum_last_none : (g : ℕ → ℕ) (m : ℕ) → g (suc m) ≡ 0 → sum (m + 2) g ≡ sum (m + 1) g
sum_last_none g m e =
    let two : m + 2 ≡ suc (suc m) = omega arith in
    rw (two, add-one) (omega (arith, sum_last (suc m) g))

-- a double sum in either order
pub sum_swap : (m n : ℕ) (f : ℕ → ℕ → ℕ) → sum m (λ i. sum n (λ j. f i j)) ≡ sum n (λ j. sum m (λ i. f i j))
unfolding sum
sum_swap zero n f = sym (sum_zero n (λ j. 0) (λ j l. refl))
sum_swap (suc m) n f = omega (arith, sum_swap m n f, sum_add n (λ j. sum m (λ i. f i j)) (λ j. f m j))

-- two functions that agree but at k
pub sum_change : (n : ℕ) (g h : ℕ → ℕ) (k : ℕ) → k < n → ((i : ℕ) → i < n → (i ≡ k → ⊥) → g i ≡ h i) →
    sum n g + h k ≡ sum n h + g k
unfolding sum
sum_change zero g h k l e = omega arith
sum_change (suc n) g h k l e =
    by_cases (ℕ_discrete k n)
    (λ p. omega (arith, ap g p, ap h p, sum_cong n g h (λ i m. e i (omega arith) (omega arith))))
    (λ p. omega (arith, sum_change n g h k (omega arith) (λ i m. e i (omega arith)), e n (omega arith) (λ q. p (sym q))))

-- all terms but one are 0
pub sum_only : (n k : ℕ) (g : ℕ → ℕ) → k < n → ((i : ℕ) → i < n → (i ≡ k → ⊥) → g i ≡ 0) → sum n g ≡ g k
sum_only n k g l e = omega (arith, sum_change n g (λ i. 0) k l e, sum_zero n (λ i. 0) (λ i h. refl))

-- a test that does not depend on the index
pub sum_cond : (n : ℕ) (t : Bool) (g : ℕ → ℕ) → sum n (λ i. cond t (g i) 0) ≡ cond t (sum n g) 0
sum_cond n true g = refl
sum_cond n false g = sum_zero n (λ i. 0) (λ i l. refl)

pub sum_cond_not : (n : ℕ) (t : Bool) (g : ℕ → ℕ) → sum n (λ i. cond t 0 (g i)) ≡ cond t 0 (sum n g)
sum_cond_not n true g = sum_zero n (λ i. 0) (λ i l. refl)
sum_cond_not n false g = refl

-- terms of at most c
pub sum_bound : (n c : ℕ) (g : ℕ → ℕ) → ((i : ℕ) → i < n → g i ≤ c) → sum n g ≤ n * c
unfolding sum
sum_bound zero c g e = omega arith
sum_bound (suc n) c g e = omega (arith, sum_bound n c g (λ i l. e i (omega arith)), e n (omega arith), suc-mul n c)

-- a list is added up by its places
pub sum_listed : (xs : List ℕ) → List.sum xs ≡ sum (length xs) (λ k. get_or xs k 0)
sum_listed [] = sym (sum_zero 0 (λ k. get_or {A = ℕ} [] k 0) (λ k l. absurd (omega arith)))
sum_listed (x ∷ xs) =
    omega (arith, sum_by-cons (λ y. y) x xs, sum_listed xs, sum_first (length xs) (λ k. get_or (x ∷ xs) k 0))

-- one turn of a loop that adds up
pub sum_next : (n : ℕ) (f : ℕ → ℕ) (b v x : ℕ) → b ≡ sum n f → f n ≡ v → x ≡ b + v → x ≡ sum (n + 1) f
sum_next n f b v x p q e = omega (arith, sum_more n f)
