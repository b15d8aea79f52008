-- `Units::handed_to` meets its contract. The invariant: the sum is that of the rows passed.
use Rattle.std.proofs.Common.{arith}
use Rattle.solver.specs.model.Network.{handed}
use Rattle.flow_math.proofs.Rows.{col_none, col_next, col_step}
use Rattle.kinds.proofs.NodeUnits.{col_place}
use Rattle.kinds.proofs.units.Units.handed_to.Goals as goal

pub loop-row-init : goal.loop-row-init
loop-row-init c = col_none (handed c.args.self.now.flow.now) c.args.j

pub overflow_add-x : goal.overflow_add-x
overflow_add-x c =
    let u = c.args.self.now in
    let j = c.args.j in
    let i = c.loop-row.row-index in
    let w = c.as_chunks.ensures in
    let within = u.within in
    let here = col_place u.flow.now i j u.m _ w.front w.front_len c.loop-row-test.true (omega arith) in
    let most = col_step (handed u.flow.now) i u.m j here.1 in
    omega (arith, c.loop-row.invariant, here.0, most, u.bounded.cols j (omega arith), u.bounded.small j (omega arith))

pub loop-row-preserved : goal.loop-row-preserved
loop-row-preserved c =
    let u = c.args.self.now in
    let j = c.args.j in
    let i = c.loop-row.row-index in
    let w = c.as_chunks.ensures in
    let within = u.within in
    let here = col_place u.flow.now i j u.m _ w.front w.front_len c.loop-row-test.true (omega arith) in
    rw here.0 (col_next (handed u.flow.now) i j c.loop-row.x c.loop-row.invariant)
