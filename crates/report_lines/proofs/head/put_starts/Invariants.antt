-- `report_lines::head::put_starts` meets its contract: each turn writes a line more (`Putting`).
use mathlib.Core.Path.{◌≡◌}
use Rattle.lines.proofs.Putting.{Putting}
use Rattle.report_lines.proofs.HeadLines.{start_line}
use Rattle.report_lines.proofs.head.put_starts.Given as goal

abbrev pub invariant-loop-i : goal.invariant-loop-i
invariant-loop-i l =
    let d = l.initial.draft in
    Putting (start_line l.starts) 48 l.m d.at d.out.now l.i l.draft.at l.draft.out.now
    × (l.draft.out.ghost_name ≡ d.out.ghost_name)
