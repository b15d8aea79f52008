-- `crew_sheet::fill::put_record` meets its contract: the line of what it read.
use mathlib.Core.Path.{◌∙◌}
use Rattle.lines.specs.Text.{text}
use Rattle.crew_sheet.proofs.Filling.{record_put, blank_put}
use Rattle.crew_sheet.proofs.fill.put_record.Goals as goal

pub returns-then-i-flow-clause-written : goal.returns-then-i-flow-clause-written
returns-then-i-flow-clause-written c =
    let f = c.args.flow.now in
    let t = text c.args.page.now.at c.args.page.now.out.now in
    record_put f.records.now f.starts.now f.n t c.args.i c.if-i-flow.true (c.from-from.ensures ∙ c.sender.ensures)
    (c.from-to.ensures ∙ c.receiver.ensures) (c.from-units.ensures ∙ c.units.ensures) (c.from-start.ensures ∙ c.start_of.ensures) c.put_row.ensures.written

pub returns-clause-written : goal.returns-clause-written
returns-clause-written c =
    let f = c.args.flow.now in
    let t = text c.args.page.now.at c.args.page.now.out.now in
    blank_put f.records.now f.starts.now f.n t c.args.i c.if-i-flow.false c.put_blank.ensures.written
