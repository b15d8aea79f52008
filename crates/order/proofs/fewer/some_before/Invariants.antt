-- `fewer::some_before` meets its contract. The invariant: what is left tells as much as the set at the start.
use Rattle.std.proofs.Common.{◌≡◌}
use Rattle.order.specs.Orders.{some_before}
use Rattle.order.proofs.fewer.some_before.Given as goal

abbrev pub invariant-loop-k : goal.invariant-loop-k
invariant-loop-k l = some_before l.rows l.k-iterator.left l.j ≡ some_before l.rows l.fn.w l.j
