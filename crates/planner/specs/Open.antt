-- What every operation does first, in two steps: the reading of the file, with the reader's causes, and the
-- two orders, with their causes 5 and 6.
use Rattle.std.specs.Prelude.{◌≡◌, true, List, ℕ, ◌+◌, ltb, Ok, Err}
use Rattle.order.specs.Stored.{elements}
use Rattle.order.specs.Orders.{order_in, joined_rows, circle_of}
use Rattle.order.specs.declared.Order.{Order}
use Rattle.plan.specs.model.Reads.{read_of}
use Rattle.plan.specs.Causes.{answer_of, Answer}
use Rattle.plan.specs.declared.Plan.{Plan}
use Rattle.planner.specs.Faults.{Fault, is_fine, or_cause}
use Rattle.planner.specs.declared.Cause.{Cause}
use Rattle.planner.specs.declared.Cause.TheVariants.{Unreadable, JobCircle, PlanCircle}

-- ---- the plan

-- the plan that is read: what the file says, or the empty plan where the file is not readable
abbrev pub plan_in : List ℕ → Plan
plan_in s = (read_of s).plan

-- the direct arcs of a plan, job and extra together
abbrev pub rows_for : Plan → List ℕ
rows_for q = joined_rows q.job q.extra

abbrev pub rows_of : List ℕ → List ℕ
rows_of s = rows_for (plan_in s)

-- "The job order uses job arcs, the plan order all arcs." (01, Order)
abbrev pub job_order_for : Plan → Order
job_order_for q = order_in q.job

abbrev pub job_order : List ℕ → Order
job_order s = job_order_for (plan_in s)

abbrev pub order_for : Plan → Order
order_for q = order_in (rows_for q)

abbrev pub plan_order : List ℕ → Order
plan_order s = order_for (plan_in s)

-- ---- "Check order: 1; then records in file order, 2, 3, 4 within each; then 5, 6."

-- the reader's cause, as a fault
abbrev pub unread_fault : Answer → Fault
unread_fault (Ok _) = Ok tt
unread_fault (Err c) = Err (Unreadable c)

-- the first step: the reader's cause
unfoldable pub read_fault : List ℕ → Fault
read_fault s = unread_fault (answer_of s)

-- a circle in an order, in its turn: "lowest activity before itself there"
abbrev pub or_circle : Fault → Order → (ℕ → Cause) → Fault
or_circle f o cause = or_cause f (ltb (circle_of o) elements) (cause (circle_of o + 1))

-- the second step, after a fault: 5, "circle in the job order", and 6, "circle in the plan order only"
abbrev pub or_circles : Fault → Order → Order → Fault
or_circles f job whole = or_circle (or_circle f job JobCircle) whole PlanCircle

unfoldable pub fault_of : List ℕ → Fault
fault_of s = or_circles (read_fault s) (job_order s) (plan_order s)

-- the plan's bytes meet none of these causes. An operation has its own causes after them
abbrev pub Opens : List ℕ → Type 0
Opens s = is_fine (fault_of s) ≡ true
