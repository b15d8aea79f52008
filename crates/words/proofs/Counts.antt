-- How many numbers below n have a property.
use mathlib.Core.Path.{◌≡◌, refl, sym, ap, ap₂, ◌∙◌}
use mathlib.Core.Bool.{Bool, true, false}
use mathlib.Core.Logic.{◌≢◌}
use Prim.Native.Nat.{ℕ, zero, suc, ◌+◌, ◌-◌, ◌≤◌, ◌<◌, zero-le}
use native.Mathlib.Nat.{add_assoc, add-zero, zero-add, suc-add, suc-ne-zero, suc_inj}
use native.Mathlib.Numerals.{add-one}
use native.Mathlib.Omega.{arith}
use lib.Dec.{ltb}
use borrow.Author.Tests.{ltb-true, ltb-false}
use Rattle.words.specs.Members.{tally, count}
use Rattle.words.proofs.Tests.{by_test}

tally_le : (b : Bool) → tally b ≤ 1
tally_le true = omega arith
tally_le false = omega arith

-- it goes by the property alone
pub count_cong : (n : ℕ) (p q : ℕ → Bool) → ((i : ℕ) → i < n → p i ≡ q i) → count n p ≡ count n q
unfolding count
count_cong zero p q e = refl
count_cong (suc n) p q e =
    ap₂ (λ (b : Bool) (m : ℕ). tally b + m) (e 0 (omega arith)) (count_cong n (λ i. p (suc i)) (λ i. q (suc i)) (λ i h. e (suc i) (omega arith)))

pub count_le : (n : ℕ) (p : ℕ → Bool) → count n p ≤ n
unfolding count
count_le zero p = zero-le
count_le (suc n) p = let ih = count_le n (λ i. p (suc i)) in let l = tally_le (p 0) in omega arith

pub count_none : (n : ℕ) (p : ℕ → Bool) → ((i : ℕ) → i < n → p i ≡ false) → count n p ≡ 0
unfolding count
count_none zero p none = refl
count_none (suc n) p none =
    ap₂ (λ (b : Bool) (m : ℕ). tally b + m) (none 0 (omega arith))
    (count_none n (λ i. p (suc i)) (λ i h. none (suc i) (omega arith)))

-- the count of two ranges, one after the other
pub count_cat : (m n : ℕ) (p : ℕ → Bool) → count (m + n) p ≡ count m p + count n (λ i. p (m + i))
unfolding count
count_cat zero n p =
    ap (λ (k : ℕ). count k p) (zero-add n) ∙ count_cong n p (λ i. p (0 + i)) (λ i h. ap p (sym (zero-add i)))
    ∙ sym (zero-add (count n (λ i. p (0 + i))))
count_cat (suc m) n p =
    let ih = count_cat m n (λ i. p (suc i)) in
    let e = ap (λ (k : ℕ). count k p) (suc-add m n) in
    let f = count_cong n (λ i. p (suc (m + i))) (λ i. p (suc m + i)) (λ i h. ap p (sym (suc-add m i))) in
    e ∙ ap (λ (k : ℕ). tally (p 0) + k) (ih ∙ ap (λ (k : ℕ). count m (λ i. p (suc i)) + k) f)
    ∙ sym (add_assoc (tally (p 0)) (count m (λ i. p (suc i))) (count n (λ i. p (suc m + i))))

-- the property that holds at j, and the same with j taken out
pub count_out : (n : ℕ) (p q : ℕ → Bool) (j : ℕ) → j < n → p j ≡ true → q j ≡ false → ((i : ℕ) → i ≢ j → p i ≡ q i) → count n p ≡ suc (count n q)
unfolding count
count_out zero p q j h here gone same = absurd (omega arith)
count_out (suc n) p q zero h here gone same =
    let rest = count_cong n (λ i. p (suc i)) (λ i. q (suc i)) (λ i l. same (suc i) (suc-ne-zero i)) in
    let a : tally (p 0) ≡ 1 = ap tally here in
    let b : tally (q 0) ≡ 0 = ap tally gone in
    omega arith
count_out (suc n) p q (suc j) h here gone same =
    let ih = count_out n (λ i. p (suc i)) (λ i. q (suc i)) j (omega arith) here gone (λ i ne. same (suc i) (λ e. ne (suc_inj e))) in
    let a : tally (p 0) ≡ tally (q 0) = ap tally (same 0 (λ e. suc-ne-zero j (sym e))) in
    omega arith

-- ---- one number more

module _ (p : ℕ → Bool) where
  count_last : (n : ℕ) → count (suc n) p ≡ count n p + tally (p n)
  unfolding count
  count_last n = ap (λ (x : ℕ). count x p) (sym (add-one n)) ∙ count_cat n 1 p ∙ ap (λ (x : ℕ). count n p + x) one
    where
      one : count 1 (λ i. p (n + i)) ≡ tally (p n)
      one = ap (λ (x : ℕ). tally (p x) + 0) (add-zero n) ∙ add-zero (tally (p n))

  pub count_more : (n : ℕ) → p n ≡ true → count (suc n) p ≡ suc (count n p)
  count_more n e = count_last n ∙ ap (λ (t : Bool). count n p + tally t) e ∙ add-one (count n p)

  pub count_still : (n : ℕ) → p n ≡ false → count (suc n) p ≡ count n p
  count_still n e = count_last n ∙ ap (λ (t : Bool). count n p + tally t) e ∙ add-zero (count n p)

  -- where k has p, fewer are counted before it than before any later number; so it is known by how many are
  pub count_less : (k n : ℕ) → k < n → p k ≡ true → count k p < count n p
  count_less k n h e =
      let q : suc k + (n - suc k) ≡ n = omega arith in
      omega (arith, count_more k e, count_cat (suc k) (n - suc k) p, ap (λ (x : ℕ). count x p) q)

  pub count_same : (k n : ℕ) → p k ≡ true → p n ≡ true → count k p ≡ count n p → k ≡ n
  count_same k n e f q =
      by_test (ltb k n)
      (λ t. absurd (omega (arith, count_less k n (ltb-true k n t) e)))
      (λ t.
      by_test (ltb n k)
      (λ u. absurd (omega (arith, count_less n k (ltb-true n k u) f)))
      (λ u. omega (arith, ltb-false k n t, ltb-false n k u)))
