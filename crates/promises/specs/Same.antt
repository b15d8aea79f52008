-- "plans with the same activities, crew, set of job arcs and set of extra arcs get equal flows" (01, Flow),
-- about a planner P (`EqualFlows P`): when two files s and t say the same plan (the order of the arc records
-- is free, and an arc may be of both types in both; and so are the waits, which no flow reads), and what then
-- is equal. It holds of ours: `equal_flows` of proofs/EqualFlowsHold.antt.
use Rattle.std.specs.Prelude.{◌≡◌, List, ◌↔◌, ℕ, ◌<◌, length}
use Rattle.plan.specs.Records.{activity_count}
use Rattle.plan.specs.Meaning.{Readable, file_duration, file_demand, file_kinds, file_available}
use Rattle.plan.specs.Meaning.{JobArc, ExtraArc, file_wait}
use Rattle.promises.specs.Planner.{Planner, Writing}

-- the same activities, crew and job arcs
pub record SameWork (s t : List ℕ) : Type 0 where
  -- as many activities, with the same durations, and the same demands of each of the eight kinds
  pub count : activity_count s ≡ activity_count t
  pub duration : (i : ℕ) → i < activity_count s → file_duration s i ≡ file_duration t i
  pub demand : (k i : ℕ) → k < 8 → i < activity_count s → file_demand s k i ≡ file_demand t k i
  -- as many kinds, with the same availabilities
  pub kinds : file_kinds s ≡ file_kinds t
  pub available : (k : ℕ) → k < 8 → file_available s k ≡ file_available t k
  -- the same set of job arcs
  pub job : (i j : ℕ) → JobArc s i j ↔ JobArc t i j

-- and the same set of extra arcs
pub record SamePlan (s t : List ℕ) : Type 0 where
  pub work : SameWork s t
  pub extra : (i j : ℕ) → ExtraArc s i j ↔ ExtraArc t i j

-- the waits that bind are the same too (02, change 5): whatever goes by starts goes by these
abbrev pub SameWaits : List ℕ → List ℕ → Type 0
SameWaits s t = (i j : ℕ) → file_wait s i j ≡ file_wait t i j

-- an operation that writes, whatever it is lent, answers the same of both files,
-- and leaves the same, byte for byte
abbrev pub WritesAlike : Writing → List ℕ → List ℕ → Type 0
WritesAlike O s t =
    (out : List ℕ)
    → (O.answer s (length out) ≡ O.answer t (length out)) × (O.left s out ≡ O.left t out)

-- "Which such flow is free, but plans with the same .. get equal flows.": whichever kind is asked for, Flow
-- answers and leaves the same
abbrev pub EqualFlows : Planner → Type 0
EqualFlows P =
    (s t : List ℕ) → Readable s → Readable t → SamePlan s t → (kind : ℕ) → WritesAlike (P.flow kind) s t
