-- `crew_sheet::text::put_cell` meets its contract: columns, then blanks.
use mathlib.Core.Path.{◌≡◌}
use mathlib.Core.List.{List}
use Prim.Native.Nat.{ℕ}
use native.Mathlib.Omega.{arith}
use lib.ListN.{length-replicate}
use Rattle.lines.specs.Text.{text, more}
use Rattle.crew_sheet.specs.Sheet.{column, cell}
use Rattle.crew_sheet.proofs.Columns.{length_column}
use Rattle.crew_sheet.proofs.LinesWritten.{Grown, grown_room, grown_more}
use Rattle.crew_sheet.proofs.text.put_cell.Goals as goal

-- what is written after the columns
first : (at : ℕ) (out : List ℕ) (w x : ℕ) {e : ℕ} {o : List ℕ} → text e o ≡ more (text at out) (column w x) → Grown at out w (column w x) e o
first at out w x done = record { done = done; long = length_column w x }

pub put_column-requires : goal.put_column-requires
put_column-requires c = omega arith

pub put_blanks-requires : goal.put_blanks-requires
put_blanks-requires c =
    let a = c.args in
    let d = a.draft.now in
    grown_room (first d.at d.out.now a.w a.x c.put_column.ensures.written) a.gap c.requires

pub returns-clause-written : goal.returns-clause-written
unfolding cell
returns-clause-written c =
    let a = c.args in
    let d = a.draft.now in
    (grown_more (first d.at d.out.now a.w a.x c.put_column.ensures.written)
    (record { done = c.put_blanks.ensures.written; long = length-replicate _ 32 }) c.requires).done
