-- The report for C: the text of a file's bytes (`report_of` of report_lines), written to lent memory as the
-- planner's operations write. A plan that is refused has a report too, its one line; so the only cause is 9.
use Rattle.std.specs.Prelude.{List, ℕ, length, Ok}
use Rattle.planner.specs.Faults.{Fault, or_short}
use Rattle.planner.specs.Results.{Output}
use Rattle.planner.specs.Output.{output_of, lent_after}
use Rattle.report_lines.specs.Report.{text_room, report_of}

-- 9 where n bytes are lent and the longest report has no room in them: tested first, of any plan,
-- however short its own report is
abbrev pub report_fault : ℕ → Fault
report_fault n = or_short (Ok tt) n text_room

-- THE ANSWER: so many bytes are written
abbrev pub report_answer : List ℕ → ℕ → Output
report_answer s n = output_of (report_fault n) (length (report_of s))

-- THE LENT BYTES: the text at the front, and the rest is unchanged
abbrev pub report_out : List ℕ → List ℕ → List ℕ
report_out s out = lent_after (report_fault (length out)) (report_of s) out
