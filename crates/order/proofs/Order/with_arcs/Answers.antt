-- `Order::with_arcs` meets its contract. The invariant: the run over the rows left, from the rows
-- so far, is the run over all.
use Rattle.std.proofs.Common.{ℕ, ◌-◌, List, length, get_or, sym, refl, ap, ◌∙◌, subst, arith, w64, Fits, rules}
use Rattle.order.specs.Stored.{elements, cells, row, RowsFit}
use Rattle.order.specs.model.Growing.{grow_from}
use Rattle.order.specs.Orders.{extended_by}
use Rattle.order.specs.declared.Order.{Order}
use Rattle.order.proofs.Stored.{number_of_lem, words_fit}
use Rattle.order.proofs.Growing.{from_keeps, grow_again, grow_end}
use Rattle.order.proofs.Order.with_arcs.Goals as goal

abbrev of_rows : List ℕ → Order
of_rows rs = record { rows = rs }

pub loop-i-init : goal.loop-i-init
unfolding cells
loop-i-init c =
    let rows = c.args.self.rows in
    (refl, search rules, words_fit rows (λ k. let f : Fits w64 (get_or rows k 0) = search rules in f.fits))

pub add_row-requires : goal.add_row-requires
add_row-requires c = (omega arith, c.loop-i.invariant.1, c.loop-i.invariant.2)

pub loop-i-preserved : goal.loop-i-preserved
loop-i-preserved c =
    let arcs = c.args.arcs in
    let i = c.loop-i.i in
    let rows = c.loop-i.rows in
    let turn = c.add_row.ensures ∙ ap (grow_from elements rows _) (number_of_lem _ c.row.ensures) in
    let kept = from_keeps elements rows (i - 1) (row arcs (i - 1)) (c.loop-i.invariant.1, c.loop-i.invariant.2) in
    (grow_again elements arcs i rows (omega arith) c.loop-i.invariant.0 turn, ap length turn ∙ kept.0, subst (RowsFit elements) (sym turn) kept.1)

pub returns : goal.returns
unfolding extended_by
returns c =
    ap of_rows (grow_end elements c.args.arcs c.loop-i.i c.loop-i.rows (omega arith) c.loop-i.invariant.0)
