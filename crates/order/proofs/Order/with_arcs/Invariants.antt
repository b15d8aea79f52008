-- `Order::with_arcs` meets its contract. The invariant: the run over the rows left, from the rows
-- so far, is the run over all.
use Rattle.std.proofs.Common.{◌≡◌, length}
use Rattle.order.specs.Stored.{elements, cells, RowsFit}
use Rattle.order.specs.model.Growing.{grow_by}
use Rattle.order.proofs.Order.with_arcs.Given as goal

abbrev pub invariant-loop-i : goal.invariant-loop-i
invariant-loop-i l =
    (grow_by elements l.arcs l.i l.rows ≡ grow_by elements l.arcs elements l.initial.rows) × (length l.rows ≡ cells elements) × RowsFit elements l.rows
