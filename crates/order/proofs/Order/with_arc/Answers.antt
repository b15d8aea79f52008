-- `Order::with_arc` meets its contract, by that of `gain_all`.
use Rattle.std.proofs.Common.{◌≡◌, ℕ, List, length, ap, ◌∙◌, rules}
use Rattle.words.specs.Bits.{with_bit}
use Rattle.order.specs.Stored.{elements, cells}
use Rattle.order.specs.model.Warshall.{gaining}
use Rattle.order.specs.Orders.{extended}
use Rattle.order.specs.declared.Order.{Order}
use Rattle.order.proofs.Stored.{number_of_lem}
use Rattle.order.proofs.Gaining.{gaining_grow}
use Rattle.order.proofs.Order.with_arc.Goals as goal

abbrev of_rows : List ℕ → Order
of_rows rs = record { rows = rs }

pub returns : goal.returns
unfolding extended cells
returns c =
    let e = c.args in
    let long : length e.self.rows ≡ cells elements = search rules in
    ap of_rows
    (c.gain_all.ensures
    ∙ ap (λ (x : ℕ). gaining elements e.from x e.self.rows)
    (number_of_lem _ c.with-gain.ensures ∙ ap (λ (w : ℕ). with_bit w e.to) (number_of_lem _ c.row.ensures))
    ∙ gaining_grow elements e.self.rows long e.from c.requires.0 e.to)
