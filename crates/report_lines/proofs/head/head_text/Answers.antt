-- `report_lines::head::head_text` meets its contract: the four parts, one after another (`head_end`).
use native.Mathlib.Omega.{arith}
use Rattle.lines.specs.Text.{text}
use Rattle.report_lines.proofs.HeadLines.{needs_room, starts_room, end_room, head_end}
use Rattle.report_lines.proofs.head.head_text.Goals as goal

pub put_needs-requires : goal.put_needs-requires
put_needs-requires c =
    let a = c.args in
    let d = a.draft.now in
    let r = c.requires in
    let room =
    needs_room a.m a.n a.needs.now a.available.now a.starts.now (text d.at d.out.now) r.0 r.1 r.2
    c.put_line.ensures.written in
    (r.1, room)

pub put_starts-requires : goal.put_starts-requires
put_starts-requires c =
    let a = c.args in
    let d = a.draft.now in
    let r = c.requires in (
      r.0,
      starts_room a.m a.n a.needs.now a.available.now a.starts.now (text d.at d.out.now) r.0 r.1 r.2
          c.put_line.ensures.written c.put_needs.ensures.written,
    )

pub put_line-requires-2 : goal.put_line-requires-2
put_line-requires-2 c =
    let a = c.args in
    let d = a.draft.now in
    let r = c.requires in
    let room =
    end_room a.m a.n a.needs.now a.available.now a.starts.now (text d.at d.out.now) r.0 r.1 r.2
    c.put_line.ensures.written c.put_needs.ensures.written c.put_starts.ensures.written in
    omega arith

pub returns-clause-written : goal.returns-clause-written
returns-clause-written c =
    let a = c.args in
    let d = a.draft.now in
    let r = c.requires in
    head_end a.m a.n a.needs.now a.available.now a.starts.now (text d.at d.out.now) r.0 r.1 r.2
    c.put_line.ensures.written c.put_needs.ensures.written c.put_starts.ensures.written
    c.put_line-2.ensures.written c.from.ensures
