-- `records::write_flow` meets its contract: zeros, the type and three fields, the units, the mark (`flow_steps`).
use Rattle.std.proofs.Common.{◌∙◌}
use Rattle.records.proofs.Steps.{zeroed, four_bytes, flow_steps}
use Rattle.records.proofs.write_flow.Goals as goal

pub returns : goal.returns
returns c =
    let a = c.args in
    flow_steps a.kind a.from a.to a.units a.mark a.out.now c.fill.new.self c.copy_from_slice.new.self
    c.copy_from_slice-2.new.self (zeroed a.out.now (c.fill.ensures.after (λ y e. e)) c.requires) c.copy_from_slice.ensures.after
    (c.copy_from_slice-2.ensures.after ∙ c.to_le_bytes.ensures ∙ four_bytes a.units)
