-- `crew_sheet::fill::put_lines` meets its contract: each turn writes one line more (`Putting`).
use mathlib.Core.Path.{◌≡◌}
use Rattle.lines.proofs.Putting.{Putting}
use Rattle.crew_sheet.proofs.Filling.{line_at}
use Rattle.crew_sheet.proofs.fill.put_lines.Given as goal

abbrev pub invariant-loop-i : goal.invariant-loop-i
invariant-loop-i l =
    let d = l.initial.draft in
    let f = l.flow in
    Putting (line_at f.records.now f.starts.now f.n l.page) 41 59 d.at d.out.now l.i-index l.draft.at l.draft.out.now
    × (l.draft.out.ghost_name ≡ d.out.ghost_name)
