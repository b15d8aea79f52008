-- Flow: what it answers, and what the lent bytes then hold.
use Rattle.std.specs.Prelude.{Bool, not, ◌&&◌, List, ℕ, ◌+◌, ◌-◌, ◌*◌, ◌/◌, ltb, leb, length}
use Rattle.order.specs.Orders.{is_before}
use Rattle.plan.specs.Records.{activities}
use Rattle.plan.specs.declared.Plan.{Plan}
use Rattle.flow_math.specs.Flow.{node_flow}
use Rattle.solver.specs.model.Network.{handed}
use Rattle.solver.specs.model.Quote.{flow_of}
use Rattle.kinds.specs.Needs.{demands_for}
use Rattle.kinds.specs.Flows.{mark_of, flow_bytes, pairs_of}
use Rattle.planner.specs.File.{flow_length}
use Rattle.planner.specs.Faults.{Fault, or_cause, or_short}
use Rattle.planner.specs.Results.{Output}
use Rattle.planner.specs.Open.{plan_in, job_order_for, order_for, fault_of}
use Rattle.planner.specs.Output.{output_of, lent_after}
use Rattle.planner.specs.Need.{demand_for, available_for, need_for, or_overloaded}
use Rattle.planner.specs.declared.Cause.TheVariants.{NoKind}

-- "kind not 1 to K"
abbrev pub is_kind : ℕ → ℕ → Bool
is_kind kind n = ltb 0 kind && leb kind n

-- no file's flow has more records
abbrev pub most_records : ℕ
most_records = activities * (activities - 1) / 2 + 2 * activities + 1

-- "8, 9, 7 (any kind's overload)", of an operation on one kind: n bytes are lent, and so many are needed
abbrev pub kind_fault : List ℕ → ℕ → ℕ → ℕ → Fault
kind_fault s kind n needed =
    let q = plan_in s in
    let known = or_cause (fault_of s) (not (is_kind kind q.kinds)) (NoKind q.kinds) in
    or_overloaded (or_short known n needed) q

-- "Flow: 8, 9, 7 (any kind's overload)."
unfoldable pub flow_fault : List ℕ → ℕ → ℕ → Fault
flow_fault s kind n = kind_fault s kind n (flow_length (plan_in s).count)

-- THE FLOW SHOWN is free: it is what the solver hands over from activity to activity, with what the start and
-- the end then pass and take. That it is a flow of the paper's is `file_flow` of
-- promises/proofs/FileFlows.antt. From node u to node v, where node 0 is the start and m + 1 the end, pass
unfoldable pub flow_units : Plan → ℕ → ℕ → ℕ → ℕ
flow_units q k u v =
    node_flow q.count (demand_for q k)
    (handed (flow_of q.count (order_for q) (demands_for q.demand k)))
    (need_for q k) (available_for q k) u v

-- the added mark of a pair of nodes, by the job order. (In the file's own terms it is `Added` of File:
-- `mark_added` of proofs/MarkLaws.antt.)
abbrev pub flow_mark : Plan → ℕ → ℕ → ℕ
flow_mark q = mark_of (is_before (job_order_for q)) q.count

-- "One record for each pair with positive units": how many, and their bytes
unfoldable pub flow_count : Plan → ℕ → ℕ
flow_count q k = pairs_of (flow_units q k) (q.count + 2)

unfoldable pub record_bytes : Plan → ℕ → List ℕ
record_bytes q k = flow_bytes (k + 1) (flow_units q k) (flow_mark q) (q.count + 2)

-- THE ANSWER: "Flow returns its record count"
abbrev pub flow_answer : List ℕ → ℕ → ℕ → Output
flow_answer s kind n = output_of (flow_fault s kind n) (flow_count (plan_in s) (kind - 1))

-- THE LENT BYTES
unfoldable pub flow_out : List ℕ → ℕ → List ℕ → List ℕ
flow_out s kind out = lent_after (flow_fault s kind (length out)) (record_bytes (plan_in s) (kind - 1)) out
