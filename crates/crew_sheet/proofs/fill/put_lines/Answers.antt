-- `crew_sheet::fill::put_lines` meets its contract: each turn writes one line more (`Putting`).
use mathlib.Core.Path.{refl, sym, ◌∙◌}
use native.Mathlib.Omega.{arith}
use Rattle.lines.specs.Text.{text}
use Rattle.lines.proofs.Putting.{putting_none, putting_length, putting_next, putting_end}
use Rattle.crew_sheet.proofs.Filling.{line_short, page_end, row_put}
use Rattle.crew_sheet.proofs.fill.put_lines.Goals as goal

pub loop-i-init : goal.loop-i-init
loop-i-init c = (putting_none, refl)

pub put_record-requires : goal.put_record-requires
put_record-requires c =
    let long = putting_length c.loop-i.invariant.0 (omega arith) in
    let short = c.loop-i.invariant.0.short in
    omega arith

pub loop-i-preserved : goal.loop-i-preserved
loop-i-preserved c =
    let f = c.args.flow.now in
    let l = c.loop-i in
    let page = c.args.page in
    let put =
    row_put f.records.now f.starts.now f.n page (text l.draft.at l.draft.out.now) l.i-index (omega arith) c.page_rows-rows.ensures c.put_record.ensures.written in
    let next = putting_next l.invariant.0 (omega arith) (omega arith) put (line_short f.records.now f.starts.now f.n page l.i-index) in
    (next, c.put_record.ensures.same_reference ∙ l.invariant.1)

pub returns : goal.returns
returns c =
    let f = c.args.flow.now in
    let l = c.loop-i in
    let all = (putting_end l.invariant.0 (omega arith) (omega arith)).0 in (
      c.pages.ensures,
      c.out-1.given.1.1 (sym l.invariant.1)
          ∙ page_end f.records.now f.starts.now f.n c.args.page c.args.at l.draft.at c.args.out.now l.draft.out.now all,
    )
