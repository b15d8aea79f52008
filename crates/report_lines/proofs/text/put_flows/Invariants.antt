-- `report_lines::text::put_flows` meets its contract: each turn writes the lines of a kind more (`Putting`).
use mathlib.Core.Path.{◌≡◌}
use Prim.Native.Nat.{◌-◌}
use Rattle.planner.specs.Open.{plan_in}
use Rattle.report_lines.specs.Report.{flow_room, kind_lines}
use Rattle.lines.proofs.Putting.{Putting}
use Rattle.report_lines.proofs.text.put_flows.Given as goal

abbrev pub invariant-loop-k : goal.invariant-loop-k
invariant-loop-k l =
    let d = l.initial.draft in
    Putting (kind_lines (plan_in l.s)) flow_room l.n d.at d.out.now l.k l.draft.at l.draft.out.now
    × (l.draft.out.ghost_name ≡ d.out.ghost_name)

abbrev pub decreases-loop-k : goal.decreases-loop-k
decreases-loop-k l = l.n - l.k
