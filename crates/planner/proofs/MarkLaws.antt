-- The added mark of a plan's flow, in the file's own terms (02, change 6).
use mathlib.Core.Path.{◌≡◌}
use mathlib.Core.List.{List}
use mathlib.Core.Logic.{◌↔◌}
use Prim.Native.Nat.{ℕ, zero, suc, ◌<◌}
use native.Mathlib.Omega.{arith}
use Rattle.order.specs.Before.{Before}
use Rattle.order.specs.Orders.{is_before}
use Rattle.order.proofs.Orders.{order_means}
use Rattle.plan.specs.Meaning.{Readable, JobArc}
use Rattle.plan.specs.Records.{activity_count}
use Rattle.kinds.proofs.NodeUnits.{mark_one, mark_zero}
use Rattle.planner.specs.Open.{plan_in, job_order}
use Rattle.planner.specs.File.{Added}
use Rattle.planner.specs.Flow.{flow_mark}
use Rattle.planner.proofs.FileOrders.{job_order_lem}
use Rattle.planner.proofs.QuotedNeeds.{count_in}

module _ (s : List ℕ) (e : Readable s) where
  -- IT IS 1 EXACTLY WHERE THE PAIR IS ADDED
  pub mark_added : (u v : ℕ) → (flow_mark (plan_in s) u v ≡ 1) ↔ Added s u v
  mark_added zero v = ((λ p. omega (arith, p)), absurd)
  mark_added (suc i) zero = ((λ p. omega (arith, p)), absurd)
  mark_added (suc i) (suc j) =
      let one = mark_one (is_before (job_order s)) (plan_in s).count (order_means (job_order_lem s e)) i j in (
        (λ p. let h = one.0 p in (omega (arith, h.0, count_in s e), omega (arith, h.1, count_in s e), h.2)),
        (λ a. one.1 (omega (arith, a.0, count_in s e), omega (arith, a.1, count_in s e), a.2)),
      )

  -- and of activities it is 0 only where the one is before the other in the job order
  pub mark_job : (i j : ℕ) → i < activity_count s → j < activity_count s → flow_mark (plan_in s) (suc i) (suc j) ≡ 0 → Before (JobArc s) i j
  mark_job i j k l =
      mark_zero (is_before (job_order s)) (plan_in s).count (order_means (job_order_lem s e)) i j (omega (arith, k, count_in s e)) (omega (arith, l, count_in s e))
