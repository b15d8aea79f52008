-- `report_lines::head::put_starts` meets its contract: each turn writes a line more (`Putting`).
use mathlib.Core.Path.{refl, ap, ◌∙◌}
use native.Mathlib.Omega.{arith}
use lib.Seq.{get_or-take}
use Rattle.lines.specs.Text.{text, more}
use Rattle.lines.proofs.Putting.{putting_none, putting_room, putting_next, putting_end}
use Rattle.report_lines.proofs.HeadLines.{start_short, start_line_lem, starts_end}
use Rattle.report_lines.proofs.head.put_starts.Goals as goal

pub loop-i-init : goal.loop-i-init
loop-i-init c = (putting_none, refl)

pub put_line-requires : goal.put_line-requires
put_line-requires c =
    let room = putting_room c.loop-i.invariant.0 c.requires.1 (omega arith) in
    omega arith

pub loop-i-preserved : goal.loop-i-preserved
loop-i-preserved c =
    let a = c.args in
    let l = c.loop-i in
    let next = putting_next l.invariant.0 c.requires.1 (omega arith)
    (c.put_line.ensures.written
    ∙ ap (more (text l.draft.at l.draft.out.now))
    (start_line_lem a.starts.now l.i (c.from.ensures ∙ get_or-take a.m a.starts.now l.i 0 (omega arith))))
    (start_short a.starts.now l.i) in
    (next, c.put_line.ensures.same_reference ∙ l.invariant.1)

pub returns-clause-same_reference : goal.returns-clause-same_reference
returns-clause-same_reference c = c.loop-i.invariant.1

pub returns-clause-written : goal.returns-clause-written
returns-clause-written c =
    let a = c.args in
    let d = a.draft.now in
    (putting_end c.loop-i.invariant.0 c.requires.1 (omega arith)).0
    ∙ ap (more (text d.at d.out.now)) (starts_end a.m a.starts.now)
