-- `bench_c::yaffledesk_bench_orders` meets its contract: the plan order, begun from the job order, is that of all arcs.
use mathlib.Core.Path.{◌≡◌, ap, ◌∙◌}
use mathlib.Core.List.{List}
use Prim.Native.Nat.{ℕ}
use Rattle.order.specs.Orders.{after_rows, order_in, extended_by, joined_rows}
use Rattle.order.specs.declared.Order.{Order}
use Rattle.order.proofs.Orders.{order_begun}
use Rattle.bench_c.proofs.yaffledesk_bench_orders.Goals as goal

begun : (a b : List ℕ) {job whole : Order} → job ≡ order_in a → whole ≡ extended_by job b → whole ≡ order_in (joined_rows a b)
begun a b e f = rw (f, e) (order_begun a b)

pub returns : goal.returns
returns c =
    let e = c.of-first.ensures in
    (c.after_rows.ensures ∙ ap after_rows e, c.after_rows-2.ensures ∙ ap after_rows (begun _ _ e c.with_arcs.ensures))
