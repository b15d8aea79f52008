-- The records of a flow, read back: they give each pair of nodes the units that were written for it.
use mathlib.Core.Path.{◌≡◌, refl, sym, ap, ◌∙◌}
use mathlib.Core.Bool.{Bool, true, false, cond, ◌&&◌}
use mathlib.Core.List.{List, [], ◌++◌, append_assoc}
use mathlib.Core.Logic.{◌⊎◌, ⊎_elim}
use Prim.Native.Nat.{ℕ, zero, suc, ◌+◌, ◌^◌, ◌≤◌, ◌<◌}
use native.Mathlib.Omega.{arith}
use native.Mathlib.Nat.{add-zero, zero-add}
use lib.Dec.{eqb}
use lib.ListN.{length, drop, get_or-append}
use lib.Seq.{drop_at}
use borrow.Author.Tests.{eq-eqb, eqb-true}
use Rattle.words.specs.Sums.{sum}
use Rattle.words.proofs.Sums.{sum_zero, sum_only}
use Rattle.words.proofs.Tests.{fails, and_both, and_left, and_right, cond_true, cond_false, cond_has}
use Rattle.records.specs.Bytes.{byte, field}
use Rattle.records.specs.Records.{flow_record, joined}
use Rattle.records.proofs.Fields.{field_append}
use Rattle.records.proofs.Records.{flow_length_lem, flow_from, flow_to, flow_units_lem}
use Rattle.kinds.specs.Flows.{pair_bytes, row_bytes, flow_bytes, pairs_from, pairs_of}
use Rattle.kinds.specs.Reading.{units_read}

-- ---- k records in r give x units from node u to node v, whatever is read behind them

abbrev Reads : ℕ → List ℕ → ℕ → ℕ → ℕ → Type 0
Reads k r u v x = (l : ℕ) (rest : List ℕ) → units_read (k + l) (r ++ rest) u v ≡ x + units_read l rest u v

-- the units that a pair (a, b) gives
abbrev given : (ℕ → ℕ → ℕ) → ℕ → ℕ → ℕ → ℕ → ℕ
given g u v a b = cond (eqb a u && eqb b v) (g a b) 0

module _ (u v : ℕ) where
  reads_none : Reads 0 [] u v 0
  reads_none l rest = simp zero-add

  reads_record : (kind a b x mark : ℕ) → x < 256 ^ 4 → Reads 1 (flow_record kind a b x mark) u v (cond (eqb a u && eqb b v) x 0)
  unfolding units_read
  reads_record kind a b x mark h l rest =
      let r = flow_record kind a b x mark in
      let long : length r ≡ 24 = flow_length_lem kind a b x mark in
      let one : 1 + l ≡ suc l = omega arith in
      let from : byte (r ++ rest) 2 ≡ a = get_or-append r rest 0 2 (omega arith) ∙ flow_from kind a b x mark in
      let to : byte (r ++ rest) 3 ≡ b = get_or-append r rest 0 3 (omega arith) ∙ flow_to kind a b x mark in
      let units : field (r ++ rest) 4 4 ≡ x = field_append r rest 4 4 (omega arith) ∙ flow_units_lem kind a b x mark h in
      let behind : drop 24 (r ++ rest) ≡ rest = drop_at r rest 24 long in
      rw (one, from, to, units, behind)

  -- a run of parts, where part k is of c k records that give x k units
  reads_joined : (f : ℕ → List ℕ) (c x : ℕ → ℕ) (n : ℕ) → ((k : ℕ) → k < n → Reads (c k) (f k) u v (x k))
      → Reads (sum n c) (joined f n) u v (sum n x)
  unfolding sum joined
  reads_joined f c x zero each l rest = reads_none l rest
  reads_joined f c x (suc n) each l rest =
      let group : sum n c + c n + l ≡ sum n c + (c n + l) = omega arith in
      rw (group, append_assoc)
      (reads_joined f c x n (λ k h. each k (omega arith)) (c n + l) (f n ++ rest) ∙ omega (arith, each n (omega arith) l rest))

  module _ (kind : ℕ) (g mark : ℕ → ℕ → ℕ) (n : ℕ) (small : (a b : ℕ) → a < n → b < n → g a b < 256 ^ 4) where
    reads_pair : (a b : ℕ) → a < n → b < n → Reads (cond (eqb (g a b) 0) 0 1) (pair_bytes kind g mark a b) u v (given g u v a b)
    unfolding pair_bytes
    reads_pair a b ha hb = go (eqb (g a b) 0) refl
      where
        r : List ℕ
        r = flow_record kind a b (g a b) (mark a b)

        go : (t : Bool) → eqb (g a b) 0 ≡ t → Reads (cond t 0 1) (cond t [] r) u v (given g u v a b)
        go true e =
            let z : given g u v a b ≡ 0 = cond_has (λ y. y ≡ 0) (eqb a u && eqb b v) (g a b) 0 (λ t. eqb-true (g a b) 0 e) (λ t. refl) in
            rw z reads_none
        go false e = reads_record kind a b (g a b) (mark a b) (small a b ha hb)

    reads_flow : Reads (pairs_of g n) (flow_bytes kind g mark n) u v (sum n (λ a. sum n (λ b. given g u v a b)))
    unfolding pairs_of pairs_from flow_bytes row_bytes
    reads_flow =
        reads_joined (row_bytes kind g mark n) (pairs_from g n) (λ a. sum n (λ b. given g u v a b)) n
        (λ a ha. reads_joined (pair_bytes kind g mark a) (λ b. cond (eqb (g a b) 0) 0 1) (given g u v a) n (λ b hb. reads_pair a b ha hb))

-- ---- of all pairs, (u, v) alone gives units from u to v

module _ (g : ℕ → ℕ → ℕ) (u v : ℕ) where
  given_here : given g u v u v ≡ g u v
  given_here = cond_true (g u v) 0 (and_both (eqb u u) (eqb v v) (eq-eqb u u refl) (eq-eqb v v refl))

  given_other : (a b : ℕ) → (a ≡ u → b ≡ v → ⊥) → given g u v a b ≡ 0
  given_other a b h =
      cond_false (g a b) 0
      (fails (eqb a u && eqb b v) (λ t. h (eqb-true a u (and_left (eqb a u) (eqb b v) t)) (eqb-true b v (and_right (eqb a u) (eqb b v) t))))

  given_sum : (n : ℕ) → u < n → v < n → sum n (λ a. sum n (λ b. given g u v a b)) ≡ g u v
  given_sum n hu hv =
      sum_only n u (λ a. sum n (given g u v a)) hu (λ a ha e. sum_zero n (given g u v a) (λ b hb. given_other a b (λ p q. e p)))
      ∙ sum_only n v (given g u v u) hv (λ b hb e. given_other u b (λ p q. e q))
      ∙ given_here

  given_none : (n : ℕ) → (n ≤ u) ⊎ (n ≤ v) → sum n (λ a. sum n (λ b. given g u v a b)) ≡ 0
  given_none n h =
      sum_zero n (λ a. sum n (given g u v a))
      (λ a ha. sum_zero n (given g u v a) (λ b hb. given_other a b (λ p q. ⊎_elim (λ l. omega arith) (λ l. omega arith) h)))

module _ (kind : ℕ) (g mark : ℕ → ℕ → ℕ) (n : ℕ) (rest : List ℕ) (small : (u v : ℕ) → u < n → v < n → g u v < 256 ^ 4) (u v : ℕ) where
  read_sum : units_read (pairs_of g n) (flow_bytes kind g mark n ++ rest) u v ≡ sum n (λ a. sum n (λ b. given g u v a b))
  unfolding units_read
  read_sum =
      ap (λ k. units_read k (flow_bytes kind g mark n ++ rest) u v) (sym (add-zero (pairs_of g n)))
      ∙ reads_flow u v kind g mark n small 0 rest
      ∙ omega arith

  -- what is read back between nodes below n is what was written
  pub flow_read : u < n → v < n → units_read (pairs_of g n) (flow_bytes kind g mark n ++ rest) u v ≡ g u v
  flow_read hu hv = read_sum ∙ given_sum g u v n hu hv

  -- and nothing between others
  pub flow_read_none : (n ≤ u) ⊎ (n ≤ v) → units_read (pairs_of g n) (flow_bytes kind g mark n ++ rest) u v ≡ 0
  flow_read_none h = read_sum ∙ given_none g u v n h
