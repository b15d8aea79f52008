-- `report_lines::flows::put_records` meets its contract: each turn writes a line more (`Putting`).
use mathlib.Core.Path.{◌≡◌}
use Rattle.lines.proofs.Putting.{Putting}
use Rattle.report_lines.proofs.FlowLines.{flow_line}
use Rattle.report_lines.proofs.flows.put_records.Given as goal

abbrev pub invariant-loop-handover : goal.invariant-loop-handover
invariant-loop-handover l =
    let d = l.initial.draft in
    Putting (flow_line l.records) 32 l.n d.at d.out.now l.handover-index l.draft.at l.draft.out.now
    × (l.draft.out.ghost_name ≡ d.out.ghost_name)
