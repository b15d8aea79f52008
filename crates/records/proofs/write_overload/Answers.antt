-- `records::write_overload` meets its contract: zeros, the type and two fields, the need, the set (`overload_steps`).
use Rattle.std.proofs.Common.{◌∙◌}
use Rattle.records.proofs.Steps.{zeroed, four_bytes, eight_bytes, overload_steps}
use Rattle.records.proofs.write_overload.Goals as goal

pub returns : goal.returns
returns c =
    let a = c.args in
    overload_steps a.kind a.size a.need a.members a.out.now c.fill.new.self c.copy_from_slice.new.self
    c.copy_from_slice-2.new.self c.copy_from_slice-3.new.self (zeroed a.out.now (c.fill.ensures.after (λ y e. e)) c.requires) c.copy_from_slice.ensures.after
    (c.copy_from_slice-2.ensures.after ∙ c.to_le_bytes.ensures ∙ four_bytes a.need)
    (c.copy_from_slice-3.ensures.after ∙ c.to_le_bytes-2.ensures ∙ eight_bytes a.members)
