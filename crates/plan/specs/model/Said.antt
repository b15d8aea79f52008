-- What a plan's tables hold of a readable file, field by field, in the words of Meaning.
-- The laws are in `proofs/Said.antt`.
use Rattle.std.specs.Prelude.{◌≡◌, List, ◌↔◌, ℕ, ◌+◌, ◌*◌, ◌≤◌, ◌<◌, get_or}
use Rattle.order.specs.Arcs.{Within}
use Rattle.order.specs.Orders.{Direct}
use Rattle.order.specs.Stored.{elements}
use Rattle.plan.specs.declared.Plan.{Plan}
use Rattle.plan.specs.Records.{activities, activity_count}
use Rattle.plan.specs.Meaning.{file_duration, file_demand, file_kinds, file_available, JobArc, ExtraArc}

-- rows hold exactly the arcs A, and those are between activities
pub record ArcsOf (A : ℕ → ℕ → Type 0) (count : ℕ) (rows : List ℕ) : Type 0 where
  pub named : (i j : ℕ) → Direct rows i j ↔ A i j
  pub within : Within count A

-- all that a plan q takes from a readable file s: element i is activity i + 1; kind k + 1 stands at k
pub record Said (s : List ℕ) (q : Plan) : Type 0 where
  pub count : q.count ≡ activity_count s
  pub few : q.count ≤ activities
  pub kinds : q.kinds ≡ file_kinds s
  pub few_kinds : q.kinds ≤ 8
  pub duration : (i : ℕ) → i < q.count → get_or q.duration i 0 ≡ file_duration s i
  pub demand : (k i : ℕ) → k < 8 → i < q.count → get_or q.demand (elements * k + i) 0 ≡ file_demand s k i
  pub no_demand : (k i : ℕ) → k < 8 → q.count ≤ i → i < elements → get_or q.demand (elements * k + i) 0 ≡ 0
  pub no_kind : (k i : ℕ) → q.kinds ≤ k → k < 8 → i < elements → get_or q.demand (elements * k + i) 0 ≡ 0
  pub available : (k : ℕ) → k < 8 → get_or q.available k 0 ≡ file_available s k
  pub job : ArcsOf (JobArc s) q.count q.job
  pub extra : ArcsOf (ExtraArc s) q.count q.extra
