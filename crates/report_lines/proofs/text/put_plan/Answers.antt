-- `report_lines::text::put_plan` meets its contract: the head, and the flows behind it (`plan_end`).
use mathlib.Core.Path.{◌∙◌}
use native.Mathlib.Nat.{le_of_eq}
use native.Mathlib.Omega.{arith}
use Rattle.lines.specs.Text.{text}
use Rattle.report_lines.proofs.Whole.{flows_room, plan_end}
use Rattle.report_lines.proofs.text.put_plan.Goals as goal

pub put_flows-requires : goal.put_flows-requires
put_flows-requires c =
    let a = c.args in
    let d = a.draft.now in
    let room =
    flows_room a.s.now c.requires.1 c.requires.2 (text d.at d.out.now) c.requires.3 c.put_head.ensures.written in
    (c.requires.0, le_of_eq c.requires.2, omega arith)

pub returns : goal.returns
returns c =
    let f = c.put_flows.ensures in
    let h = c.put_head.ensures in
    let a = c.args in
    let d = a.draft.now in
    let w =
    plan_end a.s.now c.requires.1 c.requires.2 (text d.at d.out.now) c.requires.3 h.written f.written f.upper_bound in
    record { same_reference = f.same_reference ∙ h.same_reference; written = w.0; upper_bound = w.1 }
