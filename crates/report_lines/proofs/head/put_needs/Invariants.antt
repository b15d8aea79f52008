-- `report_lines::head::put_needs` meets its contract: each turn writes a line more (`Putting`).
use mathlib.Core.Path.{◌≡◌}
use lib.ListN.{length}
use Rattle.lines.proofs.Putting.{Putting}
use Rattle.report_lines.proofs.HeadLines.{need_line}
use Rattle.report_lines.proofs.head.put_needs.Given as goal

abbrev pub invariant-loop-k : goal.invariant-loop-k
invariant-loop-k l =
    let d = l.initial.draft in
    Putting (need_line l.needs l.available) 68 l.n d.at d.out.now (length l.yielded) l.draft.at l.draft.out.now
    × (l.draft.out.ghost_name ≡ d.out.ghost_name)
