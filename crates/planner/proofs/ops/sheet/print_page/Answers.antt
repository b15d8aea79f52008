-- `planner::ops::sheet::print_page` meets its contract: 11 in its turn, or else a page.
use native.Mathlib.Omega.{arith}
use Rattle.crew_sheet.specs.Sheet.{pages_of, sheet_page, most_lines}
use Rattle.planner.proofs.OutputLaws.{refused, done}
use Rattle.planner.proofs.SheetLaws.{pages_few, page_none, page_fine, page_there}
use mathlib.Core.Path.{ap, refl}
use Rattle.planner.specs.Faults.{is_fine}
use Rattle.planner.proofs.ops.sheet.print_page.Goals as goal

pub returns-then-not-is_page : goal.returns-then-not-is_page
returns-then-not-is_page c =
    let a = c.args in
    let w = refused (pages_of a.n) (sheet_page a.records.now a.starts.now a.n a.kind a.page) a.out.now
    (page_none a.n a.page c.pages-pages.ensures c.is_page.ensures c.if-not-is_page.true) refl in
    record { value = w.0; out_after = w.1 }

pub write_page-requires : goal.write_page-requires
write_page-requires c =
    let a = c.args in
    let there = page_there a.n a.page
    (ap is_fine (page_fine a.n a.page c.pages-pages.ensures c.is_page.ensures c.if-not-is_page.false)) in
    let asked = c.requires in
    (asked.0, asked.1, asked.2, there.0, omega (arith, there.1, pages_few a.n most_lines asked.1 (omega arith)))

pub returns : goal.returns
returns c =
    let a = c.args in
    let w = done (pages_of a.n) (sheet_page a.records.now a.starts.now a.n a.kind a.page) a.out.now
    (page_fine a.n a.page c.pages-pages.ensures c.is_page.ensures c.if-not-is_page.false) c.pages-pages.ensures c.write_page.ensures.1 in
    record { value = w.0; out_after = w.1 }
