-- `report_lines::text::put_flow` meets its contract: the lines are those of what Flow wrote (`written_lines`), and it
-- does not refuse (`not_refused`).
use mathlib.Core.Path.{ap, ◌∙◌}
use native.Mathlib.Omega.{arith}
use Rattle.lines.specs.Text.{text, more}
use Rattle.report_lines.proofs.KindLines.{not_refused, written_lines}
use Rattle.report_lines.proofs.text.put_flow.Goals as goal

pub put_records-requires : goal.put_records-requires
put_records-requires c =
    let a = c.args in
    let held =
    written_lines a.s.now c.requires.0 a.kind c.requires.1 c.requires.2 c.flow_buffer-records.result (omega arith) c.flow.ensures.value
    (λ i. omega (arith, c.type_inv.s i)) _ c.in-Ok.is c.flow.ensures.out_after in
    (held.0, omega arith, omega arith)

pub returns-in-Ok : goal.returns-in-Ok
returns-in-Ok c =
    let a = c.args in
    let d = a.draft.now in
    let held =
    written_lines a.s.now c.requires.0 a.kind c.requires.1 c.requires.2 c.flow_buffer-records.result (omega arith) c.flow.ensures.value
    (λ i. omega (arith, c.type_inv.s i)) _ c.in-Ok.is c.flow.ensures.out_after in
    record {
      same_reference = c.put_records.ensures.same_reference;
      written = c.put_records.ensures.written ∙ ap (more (text d.at d.out.now)) held.1;
      upper_bound = omega arith;
    }

pub returns-in_default : goal.returns-in_default
returns-in_default c =
    let a = c.args in
    absurd (not_refused a.s.now c.requires.0 a.kind c.requires.1 c.requires.2 c.flow_buffer-records.result (omega arith) c.flow.ensures.value
    _ c.in_default.is)
