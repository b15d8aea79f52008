-- `transitive::pass_by` meets its contract. The invariant: the rows are what the steps done make of those at the start.
use Rattle.std.proofs.Common.{ℕ, arith}
use Rattle.words.proofs.Loops.{up_none, up_again, up_end}
use Rattle.order.specs.Stored.{elements, number_of}
use Rattle.order.specs.model.Warshall.{update_row}
use Rattle.order.proofs.Stored.{put_turn}
use Rattle.order.proofs.transitive.pass_by.Invariants.{step}
use Rattle.order.proofs.transitive.pass_by.Goals as goal

pub loop-i-init : goal.loop-i-init
loop-i-init c = (up_none _ _, omega arith)

pub loop-i-preserved : goal.loop-i-preserved
loop-i-preserved c =
    let e = c.args in
    let f : ℕ → ℕ → ℕ = step e.k (number_of e.gain) in
    up_again (update_row f) elements c.loop-i.i e.rows.now (omega arith) c.loop-i.invariant
    (put_turn f c.loop-i.rows c.loop-i.i c.row.result c.with_pass-r.result c.row.ensures c.with_pass-r.ensures c.put_row.ensures)

pub returns : goal.returns
returns c =
    let e = c.args in
    up_end (update_row (step e.k (number_of e.gain))) elements c.loop-i.i e.rows.now (omega arith) c.loop-i.invariant
