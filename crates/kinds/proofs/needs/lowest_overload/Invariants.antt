-- `kinds::needs::lowest_overload` meets its contract. The invariant: no kind passed needs more than there is, and
-- nothing is handed over any more. (It does not see the order itself: it speaks of every order that has the rows.)
use mathlib.Core.Path.{◌≡◌}
use Prim.Native.Nat.{◌≤◌}
use Rattle.order.specs.Orders.{after_rows}
use Rattle.order.specs.declared.Order.{Order}
use Rattle.solver.specs.model.Quote.{unused}
use Rattle.kinds.proofs.KindLoops.{NoneBelow}
use Rattle.kinds.proofs.needs.lowest_overload.Given as goal

abbrev pub invariant-loop-k : goal.invariant-loop-k
invariant-loop-k l =
    (l.k ≤ l.n) × ((o : Order) → l.ranking.rows.now ≡ after_rows o → NoneBelow l.m o l.demand l.available l.n l.k) ×
    (l.flow ≡ unused)
