-- "plans with the same activities, crew, set of job arcs and set of extra arcs get equal flows" (01, Flow):
-- they are read as one and the same plan, and Flow goes by that alone, as Verdict, Needs and Overload do; Sheet
-- goes by that and by the waits.
use mathlib.Core.Path.{◌≡◌, sym, ap, ◌∙◌}
use mathlib.Core.List.{List}
use Prim.Native.Nat.{ℕ, ◌+◌}
use Rattle.plan.specs.Meaning.{Readable}
use Rattle.plan.specs.Causes.{answer_of}
use Rattle.plan.proofs.Refusals.{readable_is}
use Rattle.plan.proofs.Said.{plan_same}
use Rattle.schedule.specs.Lists.{at}
use Rattle.schedule.proofs.Weights.{starts_weights}
use Rattle.planner.specs.Open.{plan_in, rows_of, read_fault, fault_of}
use Rattle.planner.specs.Starts.{start_numbers}
use Rattle.planner.specs.Verdict.{verdict_fault}
use Rattle.planner.specs.Needs.{needs_fault, need_numbers, needs_out}
use Rattle.planner.specs.Overload.{overload_fault, overload_out}
use Rattle.planner.specs.Flow.{flow_fault, flow_out}
use Rattle.planner.specs.Sheet.{sheet_fault, sheet_out}
use Rattle.planner.proofs.OpenLaws.{plan_in_lem}
use Rattle.promises.specs.Ours.{ours, our_sheet}
use Rattle.promises.specs.Same.{SamePlan, SameWaits, WritesAlike}
use Rattle.promises.specs.Waits.{QuotedAlike}

-- FILES THAT ARE READ ALIKE get the same verdict, needs, overload record and flows: these go by nothing else
pub alike : (s t : List ℕ) → answer_of s ≡ answer_of t → plan_in s ≡ plan_in t → QuotedAlike ours s t
unfolding verdict_fault needs_fault needs_out need_numbers overload_fault overload_out flow_fault flow_out fault_of read_fault
alike s t answers plans =
    record {
      verdict = rw (answers, plans);
      needs = λ out. (rw (answers, plans), rw (answers, plans));
      overload = λ out. (rw (answers, plans), rw (answers, plans));
      flow = λ kind out. (rw (answers, plans), rw (answers, plans));
    }

module _ (s t : List ℕ) (e : Readable s) (f : Readable t) (same : SamePlan s t) where
  pub answers : answer_of s ≡ answer_of t
  answers = readable_is (answer_of s) e ∙ sym (readable_is (answer_of t) f)

  pub plans : plan_in s ≡ plan_in t
  plans =
      plan_in_lem s e
      ∙ (let w = same.work in plan_same s t e f w.count w.kinds w.duration w.demand w.available w.job same.extra)
      ∙ sym (plan_in_lem t f)

  pub equal_flows : (kind : ℕ) → WritesAlike (ours.flow kind) s t
  equal_flows = (alike s t answers plans).flow

  pub equal_sheets : SameWaits s t → (kind page : ℕ) → WritesAlike (our_sheet kind page) s t
  unfolding sheet_out sheet_fault fault_of read_fault start_numbers
  equal_sheets waits kind page out = (rw (answers, plans), rw (answers, plans, starts_weights (rows_of t) _ _ (λ i j _ _. ap (λ (x : ℕ). at (plan_in t).duration i + x) (waits i j))))
