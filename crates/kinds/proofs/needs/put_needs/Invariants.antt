-- `kinds::needs::put_needs` meets its contract. The invariant: the needs of the kinds passed are written, and nothing
-- is handed over any more. (It does not see the order itself: it speaks of every order that has the rows.)
use Rattle.std.proofs.Common.{◌≡◌, ℕ, ◌<◌, length, get_or}
use Rattle.order.specs.Orders.{after_rows}
use Rattle.order.specs.declared.Order.{Order}
use Rattle.solver.specs.model.Quote.{unused}
use Rattle.kinds.specs.Needs.{quote_for}
use Rattle.kinds.proofs.needs.put_needs.Given as goal

abbrev pub invariant-loop-k : goal.invariant-loop-k
invariant-loop-k l = record {
  clear : l.flow ≡ unused;
  long : length l.need-items ≡ length l.initial.need-items;
  written : (o : Order) → l.ranking.rows.now
      ≡ after_rows o → (j : ℕ) → j < l.k → get_or l.need-items j 0 ≡ (quote_for l.m o l.demand j).need;
}
