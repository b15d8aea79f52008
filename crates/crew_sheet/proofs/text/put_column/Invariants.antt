-- `crew_sheet::text::put_column` meets its contract: each turn writes one character more,
-- from the last on (`Aligning`).
use mathlib.Core.Path.{◌≡◌}
use Prim.Native.Nat.{◌≤◌, ◌-◌}
use lib.ListN.{length}
use Rattle.crew_sheet.proofs.Columns.{Aligning}
use Rattle.crew_sheet.proofs.text.put_column.Given as goal

abbrev pub invariant-loop-i : goal.invariant-loop-i
invariant-loop-i l =
    let d = l.initial.draft in
    (d.at ≤ l.i) × Aligning d.at l.w l.x d.out.now (l.i - d.at) l.rest l.draft.out.now
    × (length l.draft.out.now ≡ length d.out.now) × (l.draft.out.ghost_name ≡ d.out.ghost_name)
