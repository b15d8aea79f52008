-- What the planner answers of an accepted plan, and what it writes.
use mathlib.Core.Path.{◌≡◌, ap}
use mathlib.Core.Bool.{false}
use mathlib.Core.List.{List, ◌++◌}
use Prim.Native.Nat.{ℕ, ◌-◌, ◌*◌, ◌≤◌, ◌<◌}
use native.Mathlib.Omega.{arith}
use lib.ListN.{length, get_or, drop}
use Rattle.std.specs.Prelude.{Ok}
use Rattle.records.specs.Bytes.{AreBytes}
use Rattle.planner.specs.declared.Accepted.{Accepted}
use Rattle.planner.specs.Open.{plan_in, fault_of, Opens}
use Rattle.planner.specs.Need.{is_overloaded, over_cause}
use Rattle.planner.specs.Verdict.{verdict_fault, verdict_answer}
use Rattle.planner.specs.Needs.{needs_fault, need_numbers, needs_out}
use Rattle.planner.specs.Starts.{needed, starts_fault, start_numbers, starts_out}
use Rattle.planner.specs.Flow.{most_records, flow_fault, flow_count, record_bytes, flow_answer, flow_out}
use Rattle.planner.proofs.FaultLaws.{outcome_fine, cause_fine, short_none}
use Rattle.planner.proofs.OutputLaws.{output_fine, lent_fine, lent_front}
use Rattle.planner.proofs.OpenLaws.{count_within}
use Rattle.planner.proofs.QuotedNeeds.{kinds_few}
use Rattle.planner.proofs.NeedsLaws.{length_numbers as length_needs}
use Rattle.planner.proofs.StartsLaws.{length_numbers as length-starts}
use Rattle.planner.proofs.FlowLaws.{fine_flow, not_over}
use Rattle.planner.proofs.SheetFaults.{is_kind_lem}
use Rattle.planner.proofs.FlowUnits.{count_room, length_few}
use Rattle.report_lines.specs.Report.{Accepts}

-- ---- Verdict

-- an accepted plan has no fault, and the answer says its sizes
pub accepted_says : (s : List ℕ) {a : Accepted} → Ok a ≡ verdict_answer s → Accepts s × (a.activities ≡ (plan_in s).count) × (a.kinds ≡ (plan_in s).kinds)
accepted_says s {a} e =
    let w = outcome_fine (verdict_fault s) _ a e in
    (w.0, ap (λ (x : Accepted). x.activities) w.1, ap (λ (x : Accepted). x.kinds) w.1)

-- ---- the rest, of a plan that is accepted

module _ (s : List ℕ) (fine : Accepts s) where
  opens : Opens s × (is_overloaded (plan_in s) ≡ false)
  unfolding verdict_fault fault_of
  opens = cause_fine (fault_of s) (is_overloaded (plan_in s)) (over_cause (plan_in s)) fine

  -- ---- Needs and Starts, with as many numbers lent as are needed

  pub need_front : (out : List ℕ) → (plan_in s).kinds ≤ length out → (k : ℕ) → k < (plan_in s).kinds → get_or (needs_out s out) k 0 ≡ get_or (need_numbers s) k 0
  unfolding needs_fault needs_out
  need_front out h k l =
      lent_front (needs_fault s (length out)) (need_numbers s) out
      (short_none (fault_of s) (length out) (plan_in s).kinds opens.0 h)
      k (omega (arith, length_needs s))

  pub start_front : (out : List ℕ) → needed s ≤ length out → (i : ℕ) → i ≤ (plan_in s).count → get_or (starts_out s out) i 0 ≡ get_or (start_numbers s) i 0
  unfolding starts_fault starts_out
  start_front out h i l =
      lent_front (starts_fault s (length out)) (start_numbers s) out
      (short_none (fault_of s) (length out) (needed s) opens.0 h)
      i (omega (arith, length-starts s))

  -- ---- Flow of a kind

  pub flow_few : AreBytes s → (k : ℕ) → k < (plan_in s).kinds → flow_count (plan_in s) k ≤ most_records
  flow_few bytes k h =
      let room = count_room s bytes opens.0 k (omega (arith, kinds_few s)) (not_over s opens.1 k h) in
      omega (arith, length_few (plan_in s).count (count_within s))

  -- with enough bytes lent it is written
  module _ (kind : ℕ) (some : 1 ≤ kind) (within : kind ≤ (plan_in s).kinds) (out : List ℕ) (room : 24 * most_records ≤ length out) where
    flow_goes : flow_fault s kind (length out) ≡ Ok tt
    flow_goes =
        fine_flow s kind (length out) opens.0 (is_kind_lem kind (plan_in s).kinds some within)
        (omega (arith, length_few (plan_in s).count (count_within s))) opens.1

    pub flow_answers : flow_answer s kind (length out) ≡ Ok (flow_count (plan_in s) (kind - 1))
    flow_answers = output_fine (flow_fault s kind (length out)) (flow_count (plan_in s) (kind - 1)) flow_goes

    pub flow_writes : flow_out s kind out ≡ record_bytes (plan_in s) (kind - 1) ++ drop (length (record_bytes (plan_in s) (kind - 1))) out
    unfolding flow_out
    flow_writes = lent_fine (flow_fault s kind (length out)) (record_bytes (plan_in s) (kind - 1)) out flow_goes
