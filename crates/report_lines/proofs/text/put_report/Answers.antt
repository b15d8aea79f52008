-- `report_lines::text::put_report` meets its contract, by Verdict's answer (`report_is`).
use mathlib.Core.Path.{ap, ◌∙◌}
use Rattle.lines.specs.Text.{text, more}
use Rattle.report_lines.proofs.Accepted.{accepted_says}
use Rattle.report_lines.proofs.Whole.{report_is}
use Rattle.report_lines.proofs.text.put_report.Goals as goal

pub put_plan-requires : goal.put_plan-requires
put_plan-requires c =
    let w = accepted_says c.args.s.now c.in-Ok.ensures in
    (w.0, w.1, w.2, c.requires)

pub returns-in-Ok-clause-written : goal.returns-in-Ok-clause-written
returns-in-Ok-clause-written c =
    let d = c.args.draft.now in
    c.put_plan.ensures.written ∙ ap (more (text d.at d.out.now)) (report_is c.args.s.now c.verdict.ensures c.in-Ok.is)

pub returns-in-Err-clause-written : goal.returns-in-Err-clause-written
returns-in-Err-clause-written c =
    let d = c.args.draft.now in
    c.refused_text.ensures.written
    ∙ ap (more (text d.at d.out.now)) (report_is c.args.s.now c.verdict.ensures c.in-Err.is)
