-- What the code holds of a plan that opens, and 7 in its turn, alone or after 8 and 9.
use Rattle.std.specs.Prelude.{not, List, ℕ, ◌+◌, ◌≤◌, ltb}
use Rattle.std.specs.Borrow.{Bor}
use Rattle.order.specs.Stored.{elements}
use Rattle.order.specs.declared.Order.{Order}
use Rattle.plan.specs.declared.Plan.{Plan}
use Rattle.kinds.specs.Needs.{lowest_overload}
use Rattle.kinds.specs.declared.Overload.{Overload}
use Rattle.planner.specs.Faults.{Fault, or_cause, or_short}
use Rattle.planner.specs.Open.{plan_in, rows_for, job_order_for, order_for}
use Rattle.planner.specs.Flow.{is_kind}
use Rattle.planner.specs.declared.Cause.TheVariants.{Overloaded, NoKind}
use Rattle.planner.specs.declared.open.Opened.{Opened}

-- a plan, with its rows and its orders
pub record Held : Type 0 where
  pub plan : Plan
  pub rows : List ℕ
  pub job : Order
  pub order : Order

abbrev pub held_of : Plan → Held
held_of q = record { plan = q; rows = rows_for q; job = job_order_for q; order = order_for q }

-- the file is read, and the orders of its plan are built
abbrev pub opened_of : List ℕ → Held
opened_of s = held_of (plan_in s)

-- the code holds the plan behind a reference
abbrev pub held_in : Opened → Held
held_in o = record { plan = o.plan.now; rows = o.rows; job = o.job; order = o.order }

abbrev pub opened_by : Bor Plan → Opened
opened_by q = record { plan = q; rows = rows_for q.now; job = job_order_for q.now; order = order_for q.now }

-- a plan that is read fits: it has no more activities than there are elements, and no more kinds than the
-- eight that there is room for
abbrev pub Fits : Plan → Type 0
Fits q = (q.count ≤ elements) × (q.kinds ≤ 8)

-- the overload that a search finds in a plan, by its order
abbrev pub overload_in : Order → Plan → Overload
overload_in o q = lowest_overload q.count o q.demand q.available q.kinds

-- 7 in its turn, from what was found of the first n kinds (that it is the cause of Need is `weighed`
-- of proofs/QuotedNeeds.antt)
abbrev pub or_found : Fault → Overload → ℕ → Fault
or_found f v n = or_cause f (ltb v.kind n) (Overloaded (v.kind + 1) v.need v.set)

-- 8, 9 and 7 in their turn, after a fault: the causes of an operation on one kind of a plan, by its
-- order (`kind_fault` of Flow)
abbrev pub kind_fault_in : Fault → Order → Plan → ℕ → ℕ → ℕ → Fault
kind_fault_in f o q kind lent needed =
    or_found (or_short (or_cause f (not (is_kind kind q.kinds)) (NoKind q.kinds)) lent needed)
    (overload_in o q) q.kinds
