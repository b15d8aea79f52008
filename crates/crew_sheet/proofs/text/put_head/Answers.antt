-- `crew_sheet::text::put_head` meets its contract: the word, two cells and the line's end, one after another.
use mathlib.Core.Path.{◌≡◌, refl, sym, ap, ◌∙◌}
use mathlib.Core.List.{List, [], ◌∷◌, ◌++◌}
use Prim.Native.Nat.{ℕ, ◌+◌, ◌≤◌}
use native.Mathlib.Omega.{arith}
use lib.ListN.{length}
use Rattle.lines.specs.Text.{text, more}
use Rattle.crew_sheet.specs.Sheet.{cell, head_line}
use Rattle.crew_sheet.proofs.LinesWritten.{Grown, grown_room, grown_more, grown_cell}
use Rattle.crew_sheet.proofs.text.put_head.Goals as goal

abbrev word : List ℕ
word = 75 ∷ 73 ∷ 78 ∷ 68 ∷ 32 ∷ []

-- what is written after the word and after each cell
module _ (at : ℕ) (out : List ℕ) (kind page : ℕ) (fits : at + 41 ≤ length out) where
  module _ {a : ℕ} {oa : List ℕ} (pa : text a oa ≡ more (text at out) word) where
    first : Grown at out 5 word a oa
    first = record { done = pa; long = refl }

    module _ {b : ℕ} {ob : List ℕ} (pb : text b ob ≡ more (text a oa) (cell 1 1 kind)) where
      second : Grown at out 7 (word ++ cell 1 1 kind) b ob
      second = grown_cell first 1 1 kind pb (omega arith)

      third : {c : ℕ} {oc : List ℕ} → text c oc ≡ more (text b ob) (cell 3 30 page) → Grown at out 40 ((word ++ cell 1 1 kind) ++ cell 3 30 page) c oc
      third pc = grown_cell second 3 30 page pc (omega arith)

pub put_cell-requires-2 : goal.put_cell-requires-2
put_cell-requires-2 c =
    let a = c.args in
    let f = second a.at a.out.now a.kind a.page c.requires c.put_bytes.ensures.written c.put_cell.ensures.written in
    grown_room f 33 (omega arith)

pub put_bytes-requires-2 : goal.put_bytes-requires-2
put_bytes-requires-2 c =
    let a = c.args in
    let f =
    third a.at a.out.now a.kind a.page c.requires c.put_bytes.ensures.written c.put_cell.ensures.written
    c.put_cell-2.ensures.written in
    grown_room f 1 (omega arith)

pub returns : goal.returns
unfolding head_line
returns c =
    let a = c.args in
    let f =
    third a.at a.out.now a.kind a.page c.requires c.put_bytes.ensures.written c.put_cell.ensures.written
    c.put_cell-2.ensures.written in
    let kept =
    c.put_bytes-2.ensures.same_reference ∙ c.put_cell-2.ensures.same_reference ∙ c.put_cell.ensures.same_reference
    ∙ c.put_bytes.ensures.same_reference in
    ap (text c.put_bytes-2.new.self.at) (c.out-1.given.1.1 (sym kept))
    ∙ (grown_more f (record { done = c.put_bytes-2.ensures.written; long = refl }) c.requires).done
