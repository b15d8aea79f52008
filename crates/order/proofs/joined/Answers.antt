-- `order::joined` meets its contract. The invariant: the rows are what the steps done make of those at the start.
use Rattle.std.proofs.Common.{ap, ◌∙◌, arith, rules}
use Rattle.words.proofs.Loops.{up_none, up_again, up_end}
use lib.Bits.{bit_or}
use Rattle.order.specs.Stored.{elements, number_of, cells}
use Rattle.order.specs.model.Warshall.{update_row}
use Rattle.order.specs.Orders.{joined_rows}
use Rattle.order.proofs.Stored.{number_of_lem, put_turn, rows_updated}
use Rattle.order.proofs.joined.Invariants.{step}
use Rattle.order.proofs.joined.Goals as goal

pub loop-i-init : goal.loop-i-init
loop-i-init c = (up_none _ _, omega arith)

pub loop-i-preserved : goal.loop-i-preserved
loop-i-preserved c =
    let e = c.args in
    up_again (update_row (step e.b)) elements c.loop-i.i e.a (omega arith) c.loop-i.invariant
    (put_turn (step e.b) c.loop-i.rows c.loop-i.i c.row.result c.union-r.result c.row.ensures
    (number_of_lem _ c.union-r.ensures ∙ ap (bit_or (number_of c.row.result)) (number_of_lem _ c.row-in-loop-i.ensures))
    c.put_row.ensures)

pub returns : goal.returns
unfolding joined_rows cells
returns c = let e = c.args in
    up_end (update_row (step e.b)) elements c.loop-i.i e.a (omega arith) c.loop-i.invariant ∙ rows_updated (step e.b) elements e.a (search rules)
