-- `report_lines::flows::put_record` meets its contract: the line of the numbers that it read.
use mathlib.Core.Path.{ap, ◌∙◌}
use Rattle.lines.specs.Text.{text, more}
use Rattle.report_lines.proofs.FlowLines.{record_line_lem}
use Rattle.report_lines.proofs.flows.put_record.Goals as goal

pub returns-clause-written : goal.returns-clause-written
returns-clause-written c =
    let a = c.args in
    let d = a.draft.now in
    c.put_line.ensures.written
    ∙ ap (more (text d.at d.out.now))
    (record_line_lem a.handover.now c.from.ensures c.from-2.ensures c.from-3.ensures
    (c.from-4.ensures ∙ c.field.ensures.value) c.from-5.ensures)
