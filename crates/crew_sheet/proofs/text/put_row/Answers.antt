-- `crew_sheet::text::put_row` meets its contract: four cells and the line's end, one after another.
use mathlib.Core.Path.{◌≡◌, refl}
use mathlib.Core.List.{List, ◌++◌}
use Prim.Native.Nat.{ℕ, ◌+◌, ◌≤◌}
use native.Mathlib.Omega.{arith}
use lib.ListN.{length}
use Rattle.lines.specs.Text.{text, more}
use Rattle.crew_sheet.specs.Sheet.{cell, row_line}
use Rattle.crew_sheet.proofs.LinesWritten.{Grown, grown_room, grown_more, grown_cell, length_cell}
use Rattle.crew_sheet.proofs.text.put_row.Goals as goal

-- what is written after each cell
module _ (at : ℕ) (out : List ℕ) (from to units start : ℕ) (fits : at + 41 ≤ length out) where
  module _ {a : ℕ} {oa : List ℕ} (pa : text a oa ≡ more (text at out) (cell 3 1 from)) where
    first : Grown at out 4 (cell 3 1 from) a oa
    first = record { done = pa; long = length_cell 3 1 from }

    module _ {b : ℕ} {ob : List ℕ} (pb : text b ob ≡ more (text a oa) (cell 3 1 to)) where
      second : Grown at out 8 (cell 3 1 from ++ cell 3 1 to) b ob
      second = grown_cell first 3 1 to pb (omega arith)

      module _ {c : ℕ} {oc : List ℕ} (pc : text c oc ≡ more (text b ob) (cell 8 1 units)) where
        third : Grown at out 17 ((cell 3 1 from ++ cell 3 1 to) ++ cell 8 1 units) c oc
        third = grown_cell second 8 1 units pc (omega arith)

        fourth : {d : ℕ} {od : List ℕ}
            → text d od ≡ more (text c oc) (cell 10 13 start)
            → Grown at out 40 (((cell 3 1 from ++ cell 3 1 to) ++ cell 8 1 units) ++ cell 10 13 start) d od
        fourth pd = grown_cell third 10 13 start pd (omega arith)

pub put_cell-requires-2 : goal.put_cell-requires-2
put_cell-requires-2 c =
    let a = c.args in
    let d = a.row.now in
    grown_room (first d.at d.out.now a.from a.to a.units a.start c.requires c.put_cell.ensures.written) 4 (omega arith)

pub put_cell-requires-3 : goal.put_cell-requires-3
put_cell-requires-3 c =
    let a = c.args in
    let d = a.row.now in
    let f = second d.at d.out.now a.from a.to a.units a.start c.requires c.put_cell.ensures.written c.put_cell-2.ensures.written in
    grown_room f 9 (omega arith)

pub put_cell-requires-4 : goal.put_cell-requires-4
put_cell-requires-4 c =
    let a = c.args in
    let d = a.row.now in
    let f =
    third d.at d.out.now a.from a.to a.units a.start c.requires c.put_cell.ensures.written c.put_cell-2.ensures.written
    c.put_cell-3.ensures.written in
    grown_room f 23 (omega arith)

pub put_bytes-requires : goal.put_bytes-requires
put_bytes-requires c =
    let a = c.args in
    let d = a.row.now in
    let f =
    fourth d.at d.out.now a.from a.to a.units a.start c.requires c.put_cell.ensures.written c.put_cell-2.ensures.written
    c.put_cell-3.ensures.written c.put_cell-4.ensures.written in
    grown_room f 1 (omega arith)

pub returns-clause-written : goal.returns-clause-written
unfolding row_line
returns-clause-written c =
    let a = c.args in
    let d = a.row.now in
    let f =
    fourth d.at d.out.now a.from a.to a.units a.start c.requires c.put_cell.ensures.written c.put_cell-2.ensures.written
    c.put_cell-3.ensures.written c.put_cell-4.ensures.written in
    (grown_more f (record { done = c.put_bytes.ensures.written; long = refl }) c.requires).done
