-- Verdict: what it answers, from what the code holds.
use mathlib.Core.Path.{◌≡◌, ◌∙◌}
use mathlib.Core.List.{List}
use Prim.Native.Nat.{ℕ}
use Rattle.std.specs.Prelude.{Ok, Err}
use Rattle.records.specs.Bytes.{AreBytes}
use Rattle.planner.specs.Faults.{Fault}
use Rattle.planner.specs.Open.{plan_in, fault_of, Opens}
use Rattle.planner.specs.Need.{is_overloaded, over_cause, or_overloaded}
use Rattle.planner.specs.Verdict.{verdict_fault}
use Rattle.planner.specs.model.Opening.{Held, opened_of, overload_in, or_found}
use Rattle.planner.specs.declared.Cause.{Cause}
use Rattle.planner.proofs.FaultLaws.{cause_before}
use Rattle.planner.proofs.OpenLaws.{goes_open}
use Rattle.planner.proofs.QuotedNeeds.{weighed_held}

-- a cause of the opening is its own
pub verdict_before : (s : List ℕ) {c : Cause} → fault_of s ≡ Err c → verdict_fault s ≡ Err c
unfolding verdict_fault fault_of
verdict_before s e = cause_before (fault_of s) (is_overloaded (plan_in s)) (over_cause (plan_in s)) _ e

-- 7 in its turn: `o` is the plan that was opened
pub verdict_over : (s : List ℕ) → AreBytes s → Opens s → {o : Held} {f : Fault} → o ≡ opened_of s
    → f ≡ or_found (Ok tt) (overload_in o.order o.plan) o.plan.kinds
    → f ≡ verdict_fault s
unfolding verdict_fault fault_of
verdict_over s bytes opens held found = weighed_held s held bytes (Ok tt) (λ _. opens) found
    ∙ goes_open s opens (λ f. or_overloaded f (plan_in s))
