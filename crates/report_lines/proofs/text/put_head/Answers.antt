-- `report_lines::text::put_head` meets its contract: the numbers that were lent are the plan's (`head_read`).
use native.Mathlib.Omega.{arith}
use Rattle.lines.specs.Text.{text}
use Rattle.report_lines.proofs.Whole.{sizes_few, head_read}
use Rattle.report_lines.proofs.text.put_head.Goals as goal

pub head_text-requires : goal.head_text-requires
head_text-requires c =
    let few = sizes_few c.args.s.now c.requires.1 c.requires.2 in
    (few.0, few.1, c.requires.3)

pub returns-clause-written : goal.returns-clause-written
returns-clause-written c =
    let a = c.args in
    let d = a.draft.now in
    head_read a.s.now c.requires.1 c.requires.2 c.requires.0 _ _ (omega arith) (omega arith)
    c.needs.ensures.out_after c.starts.ensures.out_after
    c.available-available.ensures (text d.at d.out.now) c.head_text.ensures.written
