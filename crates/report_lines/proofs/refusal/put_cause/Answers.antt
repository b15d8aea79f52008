-- `report_lines::refusal::put_cause` meets its contract, by what is returned with the cause's number.
use mathlib.Core.Path.{◌∙◌}
use native.Mathlib.Omega.{arith}
use Rattle.report_lines.proofs.RefusalLine.{fronts, told}
use Rattle.report_lines.proofs.refusal.put_cause.Goals as goal

pub returns-in-Nothing : goal.returns-in-Nothing
returns-in-Nothing c =
    let r = c.refusal_of-r in
    (omega arith, (fronts c.args.numbers.now r.result.number 0 0 c.requires).0 ∙ told r.ensures c.in-Nothing.is)

pub returns-in-One : goal.returns-in-One
returns-in-One c =
    let r = c.refusal_of-r in
    (omega arith, (fronts c.args.numbers.now r.result.number c.in-One.n 0 c.requires).1 ∙ told r.ensures c.in-One.is)

pub returns-in-Need : goal.returns-in-Need
returns-in-Need c =
    let r = c.refusal_of-r in
    let v = c.in-Need in
    let w = c.put_members.ensures in
    let front = (fronts c.args.numbers.now r.result.number v.kind c.from.result c.requires).2 in
    (w.0, w.1 ∙ rw (front, c.from.ensures) (told r.ensures v.is))
