-- How many pairs of elements, and of nodes, are ordered, and so how many can carry units.
use mathlib.Core.Path.{◌≡◌, refl, ap}
use mathlib.Core.Bool.{Bool, true, false, cond}
use Prim.Native.Nat.{ℕ, zero, suc, ◌+◌, ◌*◌, ◌-◌, ◌/◌, ◌≤◌, ◌<◌}
use native.Mathlib.Nat.{mul-suc, suc-mul}
use native.Mathlib.Omega.{arith}
use lib.Dec.{eqb, eqb-suc-zero}
use Rattle.words.specs.Sums.{sum}
use Rattle.words.proofs.Tests
use Rattle.words.proofs.Sums
use Rattle.order.specs.Arcs.{StrictOrder}
use Rattle.order.specs.Nodes.{node_before}
use Rattle.order.proofs.Before.{strict_first}
use Rattle.order.proofs.Nodes

-- how many pairs of elements below n are ordered
unfoldable pairs : ℕ → (ℕ → ℕ → Bool) → ℕ
pairs n b = sum n (λ i. sum n (λ j. cond (b i j) 1 0))

-- one element more: its pairs with the others, and with itself
pairs_more : (n : ℕ) (b : ℕ → ℕ → Bool) →
    pairs (suc n) b ≡ (pairs n b + sum n (λ i. cond (b i n) 1 0)) + (sum n (λ j. cond (b n j) 1 0) + cond (b n n) 1 0)
unfolding pairs sum
pairs_more n b =
    ap (λ (t : ℕ). t + (sum n (λ j. cond (b n j) 1 0) + cond (b n n) 1 0))
    (Sums.sum_add n (λ i. sum n (λ j. cond (b i j) 1 0)) (λ i. cond (b i n) 1 0))

-- of two tests that do not both hold one counts
one_of : (s t : Bool) → (s ≡ true → t ≡ true → ⊥) → cond s 1 0 + cond t 1 0 ≤ 1
one_of true true h = absurd (h refl refl)
one_of true false h = omega arith
one_of false true h = omega arith
one_of false false h = omega arith

-- an element is ordered with each other one in at most one way
ordered_few : (n : ℕ) (b : ℕ → ℕ → Bool) → StrictOrder (suc n) b → sum n (λ i. cond (b i n) 1 0) + sum n (λ j. cond (b n j) 1 0) ≤ n
ordered_few n b o =
    let s = Sums.sum_le n (λ i. cond (b i n) 1 0 + cond (b n i) 1 0) (λ i. 1)
    (λ i l. one_of (b i n) (b n i)
    (λ p q. o.irreflexive n (omega arith) (o.transitive n i n (omega arith) (omega arith) (omega arith) q p))) in
    omega (arith, Sums.sum_add n (λ i. cond (b i n) 1 0) (λ j. cond (b n j) 1 0), Sums.sum_ones n)

pairs_bound : (n : ℕ) (b : ℕ → ℕ → Bool) → StrictOrder n b → 2 * pairs n b + n ≤ n * n
unfolding pairs sum
pairs_bound zero b o = omega arith
pairs_bound (suc n) b o =
    omega (
      arith,
      pairs_bound n b (strict_first n (suc n) b (omega arith) o),
      pairs_more n b,
      Tests.cond_least (b n n) 1 0 (λ e. absurd (o.irreflexive n (omega arith) e)),
      ordered_few n b o,
      suc-mul n (suc n),
      mul-suc n n,
    )

-- At most half of the pairs of different elements are ordered.
pub pairs_few : (n : ℕ) (b : ℕ → ℕ → Bool) → StrictOrder n b → 2 * sum n (λ i. sum n (λ j. cond (b i j) 1 0)) + n ≤ n * n
unfolding pairs
pairs_few n b o = pairs_bound n b o

-- units count where they are positive, and so at most where one node is before the other
counted : (x : ℕ) (t : Bool) → (0 < x → t ≡ true) → cond (eqb x 0) 0 1 ≤ cond t 1 0
counted zero t h = omega arith
counted (suc x) t h = rw (eqb-suc-zero x) (Tests.cond_at t 1 (h (omega arith)))

-- the pairs of n elements, and of n + 2 nodes
others : (n : ℕ) → n * n ≡ n * (n - 1) + n
others zero = refl
others (suc n) = let e : suc n - 1 ≡ n = omega arith in rw e (mul-suc (suc n) n)

square : (n : ℕ) → suc (suc n) * suc (suc n) ≡ n * (n - 1) + (5 * n + 4)
square n =
    let m = suc (suc n) in
    omega (arith, suc-mul (suc n) m, suc-mul n m, mul-suc n (suc n), mul-suc n n, others n)

half : (s q n : ℕ) → 2 * s + suc (suc n) ≤ q + (5 * n + 4) → s ≤ q / 2 + 2 * n + 1
half s q n h = omega arith

nodes_few : (n : ℕ) (b : ℕ → ℕ → Bool) (g : ℕ → ℕ → ℕ) → StrictOrder n b →
    ((u v : ℕ) → u < suc (suc n) → v < suc (suc n) → 0 < g u v → node_before n b u v ≡ true) →
    sum (suc (suc n)) (λ u. sum (suc (suc n)) (λ v. cond (eqb (g u v) 0) 0 1)) ≤ n * (n - 1) / 2 + 2 * n + 1
nodes_few n b g o h =
    let m = suc (suc n) in
    let s = Sums.sum_le m (λ u. sum m (λ v. cond (eqb (g u v) 0) 0 1)) (λ u. sum m (λ v. cond (node_before n b u v) 1 0))
    (λ u p. Sums.sum_le m (λ v. cond (eqb (g u v) 0) 0 1) (λ v. cond (node_before n b u v) 1 0)
    (λ v q. counted (g u v) (node_before n b u v) (h u v p q))) in
    half (sum m (λ u. sum m (λ v. cond (eqb (g u v) 0) 0 1))) (n * (n - 1)) n
    (omega (arith, s, pairs_few m (node_before n b) (Nodes.nodes_strict n b o), square n))

-- Units that go along the order of the nodes go between at most half of the pairs of different nodes.
pub units_few : (n : ℕ) (b : ℕ → ℕ → Bool) (g : ℕ → ℕ → ℕ) → StrictOrder n b →
    ((u v : ℕ) → u < suc (suc n) → v < suc (suc n) → 0 < g u v → node_before n b u v ≡ true) →
    sum (n + 2) (λ u. sum (n + 2) (λ v. cond (eqb (g u v) 0) 0 1)) ≤ n * (n - 1) / 2 + 2 * n + 1
units_few n b g o h = let e : n + 2 ≡ suc (suc n) = omega arith in rw e (nodes_few n b g o h)
