-- The report of any bytes has room in `text_room` bytes.
use mathlib.Core.Path.{◌≡◌, refl, ap}
use mathlib.Core.Bool.{true}
use mathlib.Core.List.{List}
use Prim.Native.Nat.{ℕ, zero, suc, ◌+◌, ◌*◌, ◌≤◌, ◌<◌}
use native.Mathlib.Omega.{arith}
use lib.ListN.{length, length-append}
use Rattle.std.specs.Prelude.{Ok, Err}
use Rattle.order.specs.Orders.{is_before}
use Rattle.records.specs.Bytes.{AreBytes}
use Rattle.records.specs.Records.{joined}
use Rattle.lines.proofs.Putting.{joined_short}
use Rattle.kinds.proofs.NodeUnits.{mark_most}
use Rattle.kinds.proofs.RecordsWritten.{flow_bytes_lem}
use Rattle.planner.specs.Faults.{Fault, is_fine}
use Rattle.planner.specs.Open.{plan_in, job_order_for}
use Rattle.planner.specs.Needs.{need_numbers}
use Rattle.planner.specs.Starts.{start_numbers}
use Rattle.planner.specs.Flow.{flow_units, flow_mark, flow_count, record_bytes}
use Rattle.planner.specs.Verdict.{verdict_fault, verdict_of}
use Rattle.planner.proofs.OpenLaws.{count_within}
use Rattle.planner.proofs.QuotedNeeds.{kinds_few}
use Rattle.report_lines.specs.Lines.{head_lines}
use Rattle.report_lines.specs.Report.{flow_room, text_room, kind_lines, plan_lines, report_by, report_of, Accepts}
use Rattle.report_lines.proofs.HeadLines.{head_short}
use Rattle.report_lines.proofs.FlowLines.{flow_line, flow_short, flow_end}
use Rattle.report_lines.proofs.RefusalLine.{refused_short}
use Rattle.report_lines.proofs.Accepted.{flow_few}

-- n lists one after another, of which each has at most so many bytes
joined_within : (f : ℕ → List ℕ) (most n : ℕ) → ((k : ℕ) → k < n → length (f k) ≤ most) → length (joined f n) ≤ most * n
unfolding joined
joined_within f most zero short = omega arith
joined_within f most (suc n) short =
    let e : most * suc n ≡ most * n + most = omega arith in
    omega (arith, length-append (joined f n) (f n), joined_within f most n (λ k h. short k (omega arith)), short n (omega arith))

record_bytes_lem : (s : List ℕ) (k : ℕ) → k < (plan_in s).kinds → AreBytes (record_bytes (plan_in s) k)
unfolding record_bytes
record_bytes_lem s k h =
    flow_bytes_lem (k + 1) (flow_units (plan_in s) k) (flow_mark (plan_in s)) ((plan_in s).count + 2) (omega (arith, kinds_few s)) (omega (arith, count_within s))
    (λ u v. omega (arith, mark_most (is_before (job_order_for (plan_in s))) (plan_in s).count u v))

-- ---- an accepted plan

module _ (s : List ℕ) (bytes : AreBytes s) (fine : Accepts s) where
  kind_short : (k : ℕ) → k < (plan_in s).kinds → length (kind_lines (plan_in s) k) ≤ flow_room
  unfolding kind_lines
  kind_short k h =
      let records : List ℕ = record_bytes (plan_in s) k in
      let n : ℕ = flow_count (plan_in s) k in
      omega (
        arith,
        ap length (flow_end n records),
        joined_short (flow_line records) 32 (flow_short records (record_bytes_lem s k h)) n,
        flow_few s fine bytes k h,
      )

  plan_short : length (plan_lines s) ≤ text_room
  unfolding plan_lines
  plan_short =
      let m : ℕ = (plan_in s).count in
      let n : ℕ = (plan_in s).kinds in
      let head : List ℕ = head_lines m n (need_numbers s) (plan_in s).available (start_numbers s) in
      omega (
        arith,
        length-append head (joined (kind_lines (plan_in s)) n),
        head_short m n (need_numbers s) (plan_in s).available (start_numbers s) (count_within s) (kinds_few s),
        joined_within (kind_lines (plan_in s)) flow_room n kind_short,
        kinds_few s,
      )

-- ---- any bytes

short_by : (s : List ℕ) (f : Fault) (m n : ℕ) → (is_fine f ≡ true → length (plan_lines s) ≤ text_room) → length (report_by (verdict_of f m n) s) ≤ text_room
short_by s (Ok _) m n plan = plan refl
short_by s (Err c) m n plan = omega (arith, refused_short c)

pub report_short : (s : List ℕ) → AreBytes s → length (report_of s) ≤ text_room
unfolding report_of
report_short s bytes = short_by s (verdict_fault s) (plan_in s).count (plan_in s).kinds (plan_short s bytes)
