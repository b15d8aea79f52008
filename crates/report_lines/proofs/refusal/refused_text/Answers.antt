-- `report_lines::refusal::refused_text` meets its contract: the line of the numbers that were put down.
use mathlib.Core.Path.{◌≡◌}
use native.Mathlib.Omega.{arith}
use lib.ListN.{length}
use borrow.Author.Rules.{rules}
use Rattle.lines.specs.Text.{text}
use Rattle.report_lines.specs.Lines.{refused_numbers, refused_line, slots}
use Rattle.report_lines.proofs.RefusalLine.{numbers_few, refused_end}
use Rattle.report_lines.proofs.refusal.refused_text.Goals as goal

pub put_line-requires : goal.put_line-requires
put_line-requires c =
    let x = c.put_cause-n in
    let e : length x.new.numbers ≡ slots = search rules in
    let a = c.args in
    let d = a.draft.now in
    let few = numbers_few x.result x.new.numbers (refused_numbers a.c) (text d.at d.out.now) x.ensures e c.requires in
    omega arith

pub returns : goal.returns
unfolding refused_line
returns c =
    let x = c.put_cause-n in
    let e : length x.new.numbers ≡ slots = search rules in
    let a = c.args in
    let d = a.draft.now in
    let end =
    refused_end x.result x.new.numbers (refused_numbers a.c) (text d.at d.out.now) x.ensures e c.requires
    c.put_line.ensures.written in
    record { same_reference = c.put_line.ensures.same_reference; written = end.0; upper_bound = end.1 }
