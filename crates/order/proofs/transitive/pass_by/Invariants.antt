-- `transitive::pass_by` meets its contract. The invariant: the rows are what the steps done make of those at the start.
use Rattle.std.proofs.Common.{◌≡◌, ℕ, ◌-◌, ◌≤◌}
use Rattle.words.specs.model.Loops.{upto}
use Rattle.order.specs.Stored.{elements, number_of}
use Rattle.order.specs.model.Warshall.{passed, update_row}
use Rattle.order.proofs.transitive.pass_by.Given as goal

abbrev pub step : ℕ → ℕ → ℕ → ℕ → ℕ
step k gain i w = passed k gain w

abbrev pub invariant-loop-i : goal.invariant-loop-i
invariant-loop-i l = (l.rows ≡ upto (update_row (step l.k (number_of l.gain))) l.i l.initial.rows) × (l.i ≤ elements)

abbrev pub decreases-loop-i : goal.decreases-loop-i
decreases-loop-i l = elements - l.i
