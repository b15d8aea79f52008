-- THE REPORT of a file's bytes (document 01, "Plans A to F"): `report_of`, which `report_text` of src/text.rt
-- writes. Its lines are those of Lines.
use Rattle.std.specs.Prelude.{◌≡◌, true, List, ◌++◌, ℕ, ◌+◌, ◌*◌, ◌≤◌, length, take, Ok, Err}
use Rattle.records.specs.Records.{joined}
use Rattle.plan.specs.declared.Plan.{Plan}
use Rattle.planner.specs.Faults.{is_fine}
use Rattle.planner.specs.Results.{Decision}
use Rattle.planner.specs.Open.{plan_in}
use Rattle.planner.specs.Needs.{need_numbers}
use Rattle.planner.specs.Starts.{start_numbers}
use Rattle.planner.specs.Flow.{most_records, flow_count, record_bytes}
use Rattle.planner.specs.Verdict.{verdict_fault, verdict_answer}
use Rattle.report_lines.specs.Lines.{head_room, head_lines, flow_lines, refused_line}

-- the lines of the flow of kind k + 1, from the records that Flow writes
unfoldable pub kind_lines : Plan → ℕ → List ℕ
kind_lines q k = flow_lines (flow_count q k) (record_bytes q k)

-- so many bytes have room for the lines of a flow, and so many for the whole text (the last line may ask for
-- 78 more while it is written)
abbrev pub flow_room : ℕ
flow_room = 32 * most_records

abbrev pub text_room : ℕ
text_room = head_room + 8 * flow_room + 78

-- an accepted plan: its first lines, then those of each kind's flow
unfoldable pub plan_lines : List ℕ → List ℕ
plan_lines s =
    head_lines (plan_in s).count (plan_in s).kinds (need_numbers s) (plan_in s).available (start_numbers s)
    ++ joined (kind_lines (plan_in s)) (plan_in s).kinds

-- the report of a file's bytes, by what Verdict answers
abbrev pub report_by : Decision → List ℕ → List ℕ
report_by (Ok a) s = plan_lines s
report_by (Err c) s = refused_line c

unfoldable pub report_of : List ℕ → List ℕ
report_of s = report_by (verdict_answer s) s

-- Verdict accepts the plan: it meets none of Verdict's causes
abbrev pub Accepts : List ℕ → Type 0
Accepts s = is_fine (verdict_fault s) ≡ true

-- n counts bytes at the front of xs: the kit's `Counts` of `io`, word for word, since a library has no use
-- for the rest of `io`. (A caller's `&out[..n]` then needs no proof file.)
abbrev pub Counts : ℕ → List ℕ → Type 0
Counts n xs = (n ≤ length xs) × (n ≡ length (take n xs))
