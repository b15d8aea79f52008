-- The lines of a kind's flow are those of what Flow of an accepted plan writes.
use mathlib.Core.Path.{◌≡◌, ap₂, ◌∙◌}
use mathlib.Core.List.{List}
use Prim.Native.Nat.{ℕ, ◌-◌, ◌*◌, ◌≤◌}
use native.Mathlib.Omega.{arith}
use lib.ListN.{length, drop}
use Rattle.std.specs.Prelude.{Ok, Err}
use Rattle.records.specs.Bytes.{AreBytes}
use Rattle.planner.specs.Results.{Output}
use Rattle.planner.specs.Open.{plan_in}
use Rattle.planner.specs.Flow.{most_records, flow_count, record_bytes, flow_answer, flow_out}
use Rattle.planner.specs.declared.Cause.{Cause}
use Rattle.planner.proofs.FlowUnits.{records_length}
use Rattle.report_lines.specs.Lines.{flow_lines}
use Rattle.report_lines.proofs.FlowLines.{flow_front}
use Rattle.report_lines.specs.Report.{Accepts, kind_lines}
use Rattle.report_lines.proofs.Accepted.{flow_few, flow_answers, flow_writes}

-- what the code holds: `old` are the bytes that it lent, and `r` is the answer
module _ (s : List ℕ) (fine : Accepts s) (kind : ℕ) (some : 1 ≤ kind) (within : kind ≤ (plan_in s).kinds)
    (old : List ℕ) (room : 24 * most_records ≤ length old) {r : Output} (answer : r ≡ flow_answer s kind (length old)) where
  answered : r ≡ Ok (flow_count (plan_in s) (kind - 1))
  answered = answer ∙ flow_answers s fine kind some within old room

  -- it does not refuse
  pub not_refused : (c : Cause) → r ≡ Err c → ⊥
  not_refused c e =
      let w = answered in
      let z : ◌≡◌ {A = ℕ} 0 1 = cc in
      omega arith

  -- it wrote n records
  pub written_lines : AreBytes s → (n : ℕ) {records : List ℕ} → r ≡ Ok n → records ≡ flow_out s kind old
      → (n ≤ most_records) × (flow_lines n records ≡ kind_lines (plan_in s) (kind - 1))
  unfolding kind_lines
  written_lines small n e f =
      let w = answered in
      let k : ℕ = kind - 1 in
      let bytes : List ℕ = record_bytes (plan_in s) k in
      let count : n ≡ flow_count (plan_in s) k = cc in
      let lines = ap₂ flow_lines count (f ∙ flow_writes s fine kind some within old room) in (
        omega (arith, flow_few s fine small k (omega arith)),
        lines ∙ flow_front (flow_count (plan_in s) k) bytes (drop (length bytes) old) (omega (arith, records_length (plan_in s) k)),
      )
