-- The flow of a kind, from node to node and as records: node 0 is the start,
-- node i + 1 the element i, node m + 1 the end.
use Rattle.std.specs.Prelude.{Bool, cond, ◌&&◌, List, [], ℕ, zero, suc, ◌-◌, ◌≤◌, ◌<◌, ◌^◌, ltb, eqb}
use Rattle.words.specs.Sums.{sum}
use Rattle.order.specs.declared.Order.{Order}
use Rattle.records.specs.Records.{flow_record, joined}
use Rattle.flow_math.specs.Handover.{row, col}
use Rattle.flow_math.specs.Flow.{node_flow}
use Rattle.solver.specs.model.Network.{handed}
use Rattle.solver.specs.model.Quote.{quote_of, flow_of}
use Rattle.solver.specs.Sound.{asked}
use Rattle.kinds.specs.Needs.{demands_for}

-- ---- units

-- the units from node to node, where m elements with these demands hand over what stands in `flow`, and
-- `spare` pass from the start to the end
unfoldable pub units : ℕ → List ℕ → List ℕ → ℕ → ℕ → ℕ → ℕ
units m demand flow spare = node_flow m (asked demand) (handed flow) 0 spare

-- those of kind k, as the solver hands over, where so many are available
abbrev pub kind_units : Order → List ℕ → ℕ → ℕ → ℕ → ℕ → ℕ → ℕ
kind_units o demand k available m =
    units m (demands_for demand k) (flow_of m o (demands_for demand k))
    (available - (quote_of m o (demands_for demand k)).need)

-- no element hands over or takes over more than its demand, and demands are of 32 bits
pub record Bounded (m : ℕ) (d : ℕ → ℕ) (f : ℕ → ℕ → ℕ) : Type 0 where
  pub rows : (i : ℕ) → i < m → row m f i ≤ d i
  pub cols : (j : ℕ) → j < m → col m f j ≤ d j
  pub small : (i : ℕ) → i < m → d i < 2 ^ 32

-- ---- records. `g u v` are the units from node u to node v of n nodes, `mark u v` is the pair's added mark

-- "The added mark shall be 1 exactly where both ends are activities and the sender is not before the receiver
-- in the job order, directly or through others." (02, change 6): of m activities, where `b` says which is
-- before which in the job order. (What that says of arcs is `mark_one` of proofs/NodeUnits.antt.)
abbrev pub mark_of : (ℕ → ℕ → Bool) → ℕ → ℕ → ℕ → ℕ
mark_of b m zero v = 0
mark_of b m (suc i) zero = 0
mark_of b m (suc i) (suc j) = cond (ltb i m && ltb j m) (cond (b i j) 0 1) 0

-- "One record for each pair with positive units, ascending by from, then to."
unfoldable pub pair_bytes : ℕ → (ℕ → ℕ → ℕ) → (ℕ → ℕ → ℕ) → ℕ → ℕ → List ℕ
pair_bytes kind g mark u v = cond (eqb (g u v) 0) [] (flow_record kind u v (g u v) (mark u v))

unfoldable pub row_bytes : ℕ → (ℕ → ℕ → ℕ) → (ℕ → ℕ → ℕ) → ℕ → ℕ → List ℕ
row_bytes kind g mark n u = joined (pair_bytes kind g mark u) n

unfoldable pub flow_bytes : ℕ → (ℕ → ℕ → ℕ) → (ℕ → ℕ → ℕ) → ℕ → List ℕ
flow_bytes kind g mark n = joined (row_bytes kind g mark n) n

-- how many these are: from one node, and in all
unfoldable pub pairs_from : (ℕ → ℕ → ℕ) → ℕ → ℕ → ℕ
pairs_from g n u = sum n (λ v. cond (eqb (g u v) 0) 0 1)

unfoldable pub pairs_of : (ℕ → ℕ → ℕ) → ℕ → ℕ
pairs_of g n = sum n (λ u. pairs_from g n u)
