-- Weak duality: an unrelated set and the units handed over weigh together at most all demands.
use mathlib.Core.Path.{◌≡◌, ◌∙◌, ap₂}
use mathlib.Core.Bool.{Bool, true, false, not, ◌&&◌, ◌||◌, cond}
use mathlib.Core.Logic.{by_cases}
use Prim.Native.Nat.{ℕ, ◌+◌, ◌≤◌, ◌<◌}
use native.Mathlib.Decide.{dec_lt}
use native.Mathlib.Omega.{arith}
use Rattle.words.specs.Sums.{sum}
use Rattle.words.specs.Members.{some}
use Rattle.words.proofs.Tests
use Rattle.words.proofs.Firsts
use Rattle.words.proofs.Sums
use Rattle.order.specs.Arcs.{StrictOrder}
use Rattle.flow_math.specs.Need.{Antichain, weight}
use Rattle.flow_math.specs.Handover.{row, col, total, Handover}

-- The units handed over, counted at the givers outside of A and at the takers in B: the rows and the columns.
givers : (n : ℕ) (f : ℕ → ℕ → ℕ) (A : ℕ → Bool) →
    sum n (λ i. sum n (λ j. cond (A i) 0 (f i j))) ≡ sum n (λ i. cond (A i) 0 (row n f i))
unfolding row
givers n f A =
    Sums.sum_cong n (λ i. sum n (λ j. cond (A i) 0 (f i j))) (λ i. cond (A i) 0 (sum n (λ j. f i j)))
    (λ i l. Sums.sum_cond_not n (A i) (f i))

takers : (n : ℕ) (f : ℕ → ℕ → ℕ) (B : ℕ → Bool) →
    sum n (λ i. sum n (λ j. cond (B j) (f i j) 0)) ≡ sum n (λ j. cond (B j) (col n f j) 0)
unfolding col
takers n f B =
    Sums.sum_swap n n (λ i j. cond (B j) (f i j) 0)
    ∙ Sums.sum_cong n (λ j. sum n (λ i. cond (B j) (f i j) 0)) (λ j. cond (B j) (sum n (λ i. f i j)) 0)
    (λ j l. Sums.sum_cond n (B j) (λ i. f i j))

-- both together, as one double sum
pub both : (n : ℕ) (f : ℕ → ℕ → ℕ) (A B : ℕ → Bool) →
    sum n (λ i. sum n (λ j. cond (A i) 0 (f i j) + cond (B j) (f i j) 0))
    ≡ sum n (λ i. cond (A i) 0 (row n f i)) + sum n (λ j. cond (B j) (col n f j) 0)
both n f A B =
    Sums.sum_cong n
    (λ i. sum n (λ j. cond (A i) 0 (f i j) + cond (B j) (f i j) 0))
    (λ i. sum n (λ j. cond (A i) 0 (f i j)) + sum n (λ j. cond (B j) (f i j) 0))
    (λ i l. Sums.sum_add n (λ j. cond (A i) 0 (f i j)) (λ j. cond (B j) (f i j) 0))
    ∙ Sums.sum_add n (λ i. sum n (λ j. cond (A i) 0 (f i j))) (λ i. sum n (λ j. cond (B j) (f i j) 0))
    ∙ ap₂ ◌+◌ (givers n f A) (takers n f B)

-- Where each unit goes from a giver outside of A or to a taker in B, the total is at most those rows and columns.
covered : (n : ℕ) (f : ℕ → ℕ → ℕ) (A B : ℕ → Bool) →
    ((i j : ℕ) → i < n → j < n → f i j ≤ cond (A i) 0 (f i j) + cond (B j) (f i j) 0) →
    total n f ≤ sum n (λ i. cond (A i) 0 (row n f i)) + sum n (λ j. cond (B j) (col n f j) 0)
unfolding total row
covered n f A B h =
    let e : sum n (λ i. sum n (λ j. f i j)) ≤ sum n (λ i. sum n (λ j. cond (A i) 0 (f i j) + cond (B j) (f i j) 0)) =
    Sums.sum_le n (λ i. sum n (λ j. f i j)) (λ i. sum n (λ j. cond (A i) 0 (f i j) + cond (B j) (f i j) 0))
    (λ i l. Sums.sum_le n (λ j. f i j) (λ j. cond (A i) 0 (f i j) + cond (B j) (f i j) 0) (λ j m. h i j l m)) in
    omega (arith, both n f A B)

-- a number where a test holds, or where it fails, is at most another, if it is so in that case
pub cond_le : (t : Bool) (x y : ℕ) → (t ≡ true → x ≤ y) → cond t x 0 ≤ cond t y 0
cond_le t x y h = Tests.by_test t (λ e. rw e (h e)) (λ e. rw e (omega arith))

pub cond_not_le : (t : Bool) (x y : ℕ) → (t ≡ false → x ≤ y) → cond t 0 x ≤ cond t 0 y
cond_not_le t x y h = Tests.by_test t (λ e. rw e (omega arith)) (λ e. rw e (h e))

-- units that a giver in A hands over only to takers in B are counted
counted : (s t : Bool) (x : ℕ) → (s ≡ true → 0 < x → t ≡ true) → x ≤ cond s 0 x + cond t x 0
counted s t x h =
    Tests.by_test s
    (λ e. by_cases (dec_lt 0 x) (λ p. let q : t ≡ true = h e p in rw q (omega arith)) (λ p. omega arith))
    (λ e. rw e (omega arith))

module _ (n : ℕ) (b : ℕ → ℕ → Bool) (T : ℕ → Bool) where
  -- a member of T is before i
  after : ℕ → Bool
  after i = some n (λ t. T t && b t i)

  -- i is in T, or after a member of T
  upper : ℕ → Bool
  upper i = T i || after i

  -- i is after a member of T, and not in T
  above : ℕ → Bool
  above i = upper i && not (T i)

  -- each demand stands once: in T, or outside of the upper part, or above T
  three : (i x : ℕ) → cond (T i) x 0 + (cond (upper i) 0 x + cond (above i) x 0) ≡ x
  unfolding upper above
  three i x = go (T i) (after i)
    where
      go : (t u : Bool) → cond t x 0 + (cond (t || u) 0 x + cond ((t || u) && not t) x 0) ≡ x
      go true u = omega arith
      go false true = omega arith
      go false false = omega arith

  module _ (o : StrictOrder n b) (u : Antichain n b T) where
    -- what follows an element of the upper part is after a member of T
    after_step : (i j : ℕ) → i < n → j < n → b i j ≡ true → upper i ≡ true → after j ≡ true
    unfolding upper after
    after_step i j l m h e =
        Tests.or_cases (T i) (after i) e
        (λ t. Firsts.some_here n (λ t. T t && b t j) i l (Tests.and_both (T i) (b i j) t h))
        (λ a. let r = Firsts.some_found n (λ t. T t && b t i) a in
        let k = r.0 in
        Firsts.some_here n (λ t. T t && b t j) k r.1
        (Tests.and_both (T k) (b k j)
        (Tests.and_left (T k) (b k i) r.2)
        (o.transitive k i j r.1 l m (Tests.and_right (T k) (b k i) r.2) h)))

    after_out : (j : ℕ) → j < n → after j ≡ true → T j ≡ false
    unfolding after
    after_out j m a =
        let r = Firsts.some_found n (λ t. T t && b t j) a in
        let k = r.0 in
        Tests.fails (T j)
        (λ t. u k j r.1 m (Tests.and_left (T k) (b k j) r.2) t (Tests.and_right (T k) (b k j) r.2))

    above_step : (i j : ℕ) → i < n → j < n → b i j ≡ true → upper i ≡ true → above j ≡ true
    unfolding above upper
    above_step i j l m h e =
        let a : after j ≡ true = after_step i j l m h e in
        let t : T j ≡ false = after_out j m a in
        rw (t, a)

    module _ (d : ℕ → ℕ) (f : ℕ → ℕ → ℕ) (F : Handover n b d f) where
      cover : (i j : ℕ) → i < n → j < n → f i j ≤ cond (upper i) 0 (f i j) + cond (above j) (f i j) 0
      cover i j l m = counted (upper i) (above j) (f i j) (λ e p. above_step i j l m (F.along i j l m p) e)

      -- Every unrelated set and every handover: the weight and the total are at most the sum of the demands.
      pub weak : weight n d T + total n f ≤ sum n d
      unfolding weight
      weak =
          let c = covered n f upper above cover in
          let r = Sums.sum_le n (λ i. cond (upper i) 0 (row n f i)) (λ i. cond (upper i) 0 (d i))
          (λ i l. cond_not_le (upper i) (row n f i) (d i) (λ e. F.rows i l)) in
          let s = Sums.sum_le n (λ j. cond (above j) (col n f j) 0) (λ j. cond (above j) (d j) 0)
          (λ j l. cond_le (above j) (col n f j) (d j) (λ e. F.cols j l)) in
          let e = Sums.sum_cong n (λ i. cond (T i) (d i) 0 + (cond (upper i) 0 (d i) + cond (above i) (d i) 0)) d
          (λ i l. three i (d i)) in
          let a = Sums.sum_add n (λ i. cond (T i) (d i) 0) (λ i. cond (upper i) 0 (d i) + cond (above i) (d i) 0) in
          let a2 = Sums.sum_add n (λ i. cond (upper i) 0 (d i)) (λ i. cond (above i) (d i) 0) in
          omega arith
