-- `lines::digits` meets its contract: one digit more than the logarithm.
use Rattle.lines.proofs.Decimals.{places_log}
use Rattle.lines.proofs.digits.Goals as goal

pub returns : goal.returns
returns c =
    let g = c.ilog10.ensures in
    let r = c.ilog10.result in
    let e = c.max.ensures in
    places_log c.args.x r (rw e at g.power_le) (rw e at g.next_power_gt) g.bound
