-- When a plan is accepted, and Verdict: what it answers.
use Rattle.std.specs.Prelude.{Bool, List, ℕ, Ok}
use Rattle.plan.specs.declared.Plan.{Plan}
use Rattle.planner.specs.Faults.{Fault, outcome, is_fine}
use Rattle.planner.specs.Results.{Decision}
use Rattle.planner.specs.Open.{plan_in, job_order_for, order_for, read_fault, or_circles}
use Rattle.planner.specs.Need.{or_overloaded}

-- THE CAUSES OF A PLAN, apart from the bytes that say it: 5, 6 and 7 in their turn, after a fault
abbrev pub plan_fault : Fault → Plan → Fault
plan_fault f q = or_overloaded (or_circles f (job_order_for q) (order_for q)) q

-- A PLAN IS ACCEPTED when it meets none of them
unfoldable pub is_accepted : Plan → Bool
is_accepted q = is_fine (plan_fault (Ok tt) q)

-- "After that Verdict: 7."
unfoldable pub verdict_fault : List ℕ → Fault
verdict_fault s = plan_fault (read_fault s) (plan_in s)

-- "Verdict: accepted with m and K, or 1–7."
abbrev pub verdict_of : Fault → ℕ → ℕ → Decision
verdict_of f m n = outcome f (record { activities = m; kinds = n })

-- THE ANSWER
abbrev pub verdict_answer : List ℕ → Decision
verdict_answer s = verdict_of (verdict_fault s) (plan_in s).count (plan_in s).kinds
