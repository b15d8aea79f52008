-- What Starts and Crew check answer of a plan that opens, and what Starts and Flow leave where they answer.
use mathlib.Core.Path.{◌≡◌, sym, ap, ◌∙◌}
use mathlib.Core.Bool.{true, false}
use mathlib.Core.List.{List, ◌++◌}
use Prim.Native.Nat.{ℕ, ◌+◌, ◌-◌, ◌≤◌}
use native.Mathlib.Omega.{arith}
use lib.ListN.{length, drop}
use Rattle.std.specs.Prelude.{Ok, Err}
use Rattle.records.specs.Records.{starting_with}
use Rattle.planner.specs.Faults.{Fault, or_cause}
use Rattle.planner.specs.Open.{plan_in, fault_of, Opens}
use Rattle.planner.specs.Starts.{needed, starts_fault, starts_answer, start_numbers, starts_out}
use Rattle.planner.specs.Flow.{flow_fault, flow_count, record_bytes, flow_answer, flow_out}
use Rattle.planner.specs.CrewCheck.{bad_lists, crew_check_fault, crew_found, checked_of, crew_check_answer}
use Rattle.planner.specs.declared.Cause.TheVariants.{Lists}
use Rattle.planner.proofs.FaultLaws.{cause_next, cause_none, short_none}
use Rattle.planner.proofs.OutputLaws.{output_fine, output_is_fine, lent_fine}
use Rattle.planner.proofs.StartsLaws.{length_numbers}

-- ---- Starts

module _ (s : List ℕ) where
  fault_none : (n : ℕ) → Opens s → needed s ≤ n → starts_fault s n ≡ Ok tt
  unfolding starts_fault
  fault_none n o l = short_none (fault_of s) n (needed s) o l

  pub starts_written : (n : ℕ) → Opens s → needed s ≤ n → starts_answer s n ≡ Ok (needed s)
  starts_written n o l = output_fine (starts_fault s n) (needed s) (fault_none n o l)

  module _ (out : List ℕ) where
    -- the numbers stand at the front, and the rest is as it was
    pub out_numbers : Opens s → needed s ≤ length out → starts_out s out ≡ start_numbers s ++ drop (needed s) out
    unfolding starts_out
    out_numbers o l =
        lent_fine (starts_fault s (length out)) (start_numbers s) out (fault_none (length out) o l)
        ∙ ap (λ (n : ℕ). start_numbers s ++ drop n out) (length_numbers s)

-- ---- Crew check

module _ (s starts worked : List ℕ) where
  by_fault : {f : Fault} → or_cause (fault_of s) (bad_lists (plan_in s).count (plan_in s).duration starts worked) (Lists (plan_in s).count) ≡ f
      → crew_check_answer s starts worked ≡ checked_of f (crew_found s starts worked)
  unfolding crew_check_fault
  by_fault e = ap (λ (f : Fault). checked_of f (crew_found s starts worked)) e

  -- CAUSE 10
  pub crew_lists : Opens s → bad_lists (plan_in s).count (plan_in s).duration starts worked ≡ true → crew_check_answer s starts worked ≡ Err (Lists (plan_in s).count)
  crew_lists o e = by_fault (cause_next (fault_of s) (bad_lists (plan_in s).count (plan_in s).duration starts worked) (Lists (plan_in s).count) o e)

  pub crew_looks : Opens s → bad_lists (plan_in s).count (plan_in s).duration starts worked ≡ false → crew_check_answer s starts worked ≡ Ok (crew_found s starts worked)
  crew_looks o e = by_fault (cause_none (fault_of s) (bad_lists (plan_in s).count (plan_in s).duration starts worked) (Lists (plan_in s).count) o e)

-- ---- Flow

-- where it answers with a count, so many records stand at the front, and the rest is as it was
pub flow_left : (s : List ℕ) (k : ℕ) (out : List ℕ) (n : ℕ) → flow_answer s (k + 1) (length out) ≡ Ok n
    → (flow_fault s (k + 1) (length out) ≡ Ok tt) × (n ≡ flow_count (plan_in s) k) × (flow_out s (k + 1) out ≡ starting_with (record_bytes (plan_in s) k) out)
unfolding flow_out
flow_left s k out n e =
    let w = output_is_fine (flow_fault s (k + 1) (length out)) n (flow_count (plan_in s) (k + 1 - 1)) e in
    let same : k + 1 - 1 ≡ k = omega arith in (
      w.0,
      sym w.1 ∙ ap (λ (x : ℕ). flow_count (plan_in s) x) same,
      lent_fine (flow_fault s (k + 1) (length out)) (record_bytes (plan_in s) (k + 1 - 1)) out w.0 ∙ ap (λ (x : ℕ). starting_with (record_bytes (plan_in s) x) out) same,
    )
