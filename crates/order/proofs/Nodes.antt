-- Laws of the order of the nodes.
use Rattle.std.proofs.Common.{◌≡◌, ℕ, zero, suc, ◌<◌, ◌≤◌, Bool, true, false, ◌&&◌, ◌||◌, eqb, ltb, refl, arith, ltb-true, le-ltb, lt-ltb, eq-eqb, ne_eqb, eqb-true}
use Rattle.words.proofs.Tests.{and_left, and_right, and_both, or_left, or_right, or_cases}
use Rattle.order.specs.Arcs.{StrictOrder}
use Rattle.order.specs.Nodes.{node_before}

module _ (n : ℕ) (b : ℕ → ℕ → Bool) where
  -- the start is before every other node, and nothing is before the start
  pub start_before : (j : ℕ) → j ≤ n → node_before n b 0 (suc j) ≡ true
  start_before j h = lt-ltb j (suc n) (omega arith)

  pub before_start : (u : ℕ) → node_before n b u 0 ≡ false
  before_start zero = refl
  before_start (suc i) = refl

  -- the end is after every other node, and before none
  pub before_end : (u : ℕ) → u ≤ n → node_before n b u (suc n) ≡ true
  before_end zero h = start_before n (omega arith)
  before_end (suc i) h = and_both (ltb i n) (eqb n n || (ltb n n && b i n)) (lt-ltb i n (omega arith)) (or_left (eqb n n) (ltb n n && b i n) (eq-eqb n n refl))

  pub end_before : (v : ℕ) → node_before n b (suc n) v ≡ false
  end_before zero = refl
  end_before (suc j) = rw (le-ltb n n (omega arith))

  -- the elements are ordered as they were
  pub between : (i j : ℕ) → i < n → j < n → node_before n b (suc i) (suc j) ≡ b i j
  between i j hi hj = rw (lt-ltb i n hi, ne_eqb j n (λ e. omega arith), lt-ltb j n hj)

  module _ (o : StrictOrder n b) where
    inner : (i j : ℕ) → node_before n b (suc i) (suc j) ≡ true → (i < n) × (eqb j n || (ltb j n && b i j) ≡ true)
    inner i j h =
        (ltb-true i n (and_left (ltb i n) (eqb j n || (ltb j n && b i j)) h), and_right (ltb i n) (eqb j n || (ltb j n && b i j)) h)

    nodes_free : (u : ℕ) → node_before n b u u ≡ true → ⊥
    nodes_free zero h = let z : ◌≡◌ {A = ℕ} 0 1 = cc in omega arith
    nodes_free (suc i) h =
        let r = inner i i h in
        or_cases (eqb i n) (ltb i n && b i i) r.1
        (λ e. omega (arith, eqb-true i n e, r.0))
        (λ e. o.irreflexive i r.0 (and_right (ltb i n) (b i i) e))

    nodes_lead : (u v w : ℕ) → node_before n b u v ≡ true → node_before n b v w ≡ true → node_before n b u w ≡ true
    nodes_lead u zero w p q = let z : ◌≡◌ {A = ℕ} 0 1 = cc (before_start u) in absurd (omega arith)
    nodes_lead u (suc j) zero p q = let z : ◌≡◌ {A = ℕ} 0 1 = cc in absurd (omega arith)
    nodes_lead zero (suc j) (suc k) p q =
        let r = inner j k q in
        or_cases (eqb k n) (ltb k n && b j k) r.1
        (λ e. start_before k (omega (arith, eqb-true k n e)))
        (λ e. start_before k (omega (arith, ltb-true k n (and_left (ltb k n) (b j k) e))))
    nodes_lead (suc i) (suc j) (suc k) p q =
        let r = inner i j p in
        let s = inner j k q in
        and_both (ltb i n) (eqb k n || (ltb k n && b i k)) (lt-ltb i n r.0)
        (or_cases (eqb k n) (ltb k n && b j k) s.1
        (λ e. or_left (eqb k n) (ltb k n && b i k) e)
        (λ e. or_right (eqb k n) (ltb k n && b i k) (to i j k r.0 r.1 s.0 e)))
      where
        to : (i j k : ℕ) → i < n → eqb j n || (ltb j n && b i j) ≡ true → j < n → ltb k n && b j k ≡ true → ltb k n && b i k ≡ true
        to i j k hi e hj f =
            let hk = and_left (ltb k n) (b j k) f in
            and_both (ltb k n) (b i k) hk
            (or_cases (eqb j n) (ltb j n && b i j) e
            (λ x. absurd (omega (arith, eqb-true j n x)))
            (λ x. o.transitive i j k hi hj (ltb-true k n hk) (and_right (ltb j n) (b i j) x) (and_right (ltb k n) (b j k) f)))

    -- the nodes of a strict order are in a strict order
    pub nodes_strict : StrictOrder (suc (suc n)) (node_before n b)
    nodes_strict = record { irreflexive = λ u h. nodes_free u; transitive = λ u v w hu hv hw. nodes_lead u v w }
