-- Sets and flows of a file, in the file's own terms: its arcs, demands and availabilities are those of plan's
-- Meaning. No operation is named here. Element i is activity i + 1, kind k is kind k + 1.
use Rattle.std.specs.Prelude.{◌≡◌, Bool, true, cond, List, ◌⊎◌, ℕ, zero, suc, ◌+◌, ◌-◌, ◌*◌, ◌/◌, ◌≤◌, ◌<◌}
use Rattle.order.specs.Before.{Before}
use Rattle.words.specs.Sums.{sum}
use Rattle.plan.specs.Records.{activity_count}
use Rattle.plan.specs.Meaning.{JobArc, FileArc, file_demand, file_available}

-- ---- need: "Two activities are ordered when one is before the other in the plan order"
-- (01, Need and overload)

-- "a set is unrelated when no two of its members are"
abbrev pub Unrelated : List ℕ → (ℕ → Bool) → Type 0
Unrelated s S = (i j : ℕ) → S i ≡ true → S j ≡ true → Before (FileArc s) i j → ⊥

-- the sum of the demands of kind k over a set of activities
abbrev pub demand_sum : List ℕ → ℕ → (ℕ → Bool) → ℕ
demand_sum s k S = sum (activity_count s) (λ i. cond (S i) (file_demand s k i) 0)

-- ---- a flow of kind k: g u v units pass from node u to node v (01, Flow)

-- "0 is the start and m+1 the end: .. 0 before all others and m+1 after all others." (01, Order)
abbrev pub NodeBefore : List ℕ → ℕ → ℕ → Type 0
NodeBefore s zero zero = ⊥
NodeBefore s zero (suc j) = j ≤ activity_count s
NodeBefore s (suc i) zero = ⊥
NodeBefore s (suc i) (suc j) = (i < activity_count s) × ((j ≡ activity_count s) ⊎ Before (FileArc s) i j)

pub record FileFlow (s : List ℕ) (k : ℕ) (g : ℕ → ℕ → ℕ) : Type 0 where
  -- the paper's equation (1): "Into and out of each activity goes its demand"
  pub into : (j : ℕ) → j < activity_count s → sum (activity_count s + 2) (λ u. g u (j + 1)) ≡ file_demand s k j
  pub out : (i : ℕ) → i < activity_count s → sum (activity_count s + 2) (λ v. g (i + 1) v) ≡ file_demand s k i
  -- equation (2): "out of 0 and into m+1 goes the availability"
  pub start : sum (activity_count s + 2) (λ v. g 0 v) ≡ file_available s k
  pub finish : sum (activity_count s + 2) (λ u. g u (activity_count s + 1)) ≡ file_available s k
  -- "Positive units pass only where i is before j in the plan order, so none into 0, none out of m+1 and
  -- none from a node to itself."
  pub along : (u v : ℕ) → 0 < g u v → NodeBefore s u v

-- THE ADDED MARK of a pair of nodes is 1 "exactly where both ends are activities and the sender is not before
-- the receiver in the job order, directly or through others" (02, change 6). "The job order uses job arcs"
-- (01, Order): a way that uses an extra arc does not count.
abbrev pub Added : List ℕ → ℕ → ℕ → Type 0
Added s zero v = ⊥
Added s (suc i) zero = ⊥
Added s (suc i) (suc j) = (i < activity_count s) × (j < activity_count s) × (Before (JobArc s) i j → ⊥)

-- "for Flow 24 × (m(m−1)/2 + 2m + 1) bytes" (01, Operations and causes): how much has to be lent
-- for the flow of m activities
unfoldable pub flow_length : ℕ → ℕ
flow_length m = 24 * (m * (m - 1) / 2 + 2 * m + 1)
