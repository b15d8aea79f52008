-- `report::text_buffer` meets its contract: a list of so many zeros has that length, whatever the number.
use Rattle.std.proofs.Common.{ℕ, sym}
use Rattle.std.proofs.lemmas.List.{length-replicate}
use Rattle.report_lines.specs.Report.{text_room}
use Rattle.report.proofs.text_buffer.Goals as goal

pub returns : goal.returns
returns c = sym (length-replicate {A = ℕ} text_room 0)
