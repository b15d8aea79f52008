-- `Units::handed_by` meets its contract: the sum is that of the row.
use Rattle.std.proofs.Common.{rules, ◌≡◌, ◌∙◌, ◌+◌, ◌-◌, ◌*◌, ◌<◌, ◌^◌, arith}
use lib.ListN.{take, drop}
use Rattle.std.specs.Prelude.{sum}
use Rattle.order.specs.Stored.{elements}
use Rattle.kinds.proofs.NodeUnits.{row_sum}
use Rattle.kinds.proofs.units.Units.handed_by.Goals as goal

pub sum-requires-clause-fits : goal.sum-requires-clause-fits
sum-requires-clause-fits c =
    let u = c.args.self.now in
    let i = c.args.i in
    let n = i * elements + u.m - i * elements in
    let within = u.within in
    let added = row_sum u.flow.now i u.m n (omega arith) (search rules) in
    let fits : sum (take n (drop (i * elements) u.flow.now)) < 2 ^ 32 =
    omega (arith, added, u.bounded.rows i (omega arith), u.bounded.small i (omega arith)) in
    search (rules, fits)

pub returns : goal.returns
returns c =
    let u = c.args.self.now in
    let i = c.args.i in
    let n = i * elements + u.m - i * elements in
    let within = u.within in
    let added : c.sum.result ≡ sum (take n (drop (i * elements) u.flow.now)) = search rules in
    added ∙ row_sum u.flow.now i u.m n (omega arith) (search rules)
