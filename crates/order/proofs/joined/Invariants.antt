-- `order::joined` meets its contract. The invariant: the rows are what the steps done make of those at the start.
use Rattle.std.proofs.Common.{◌≡◌, ℕ, ◌-◌, ◌≤◌, List}
use Rattle.words.specs.model.Loops.{upto}
use lib.Bits.{bit_or}
use Rattle.order.specs.Stored.{elements, row}
use Rattle.order.specs.model.Warshall.{update_row}
use Rattle.order.proofs.joined.Given as goal

abbrev pub step : List ℕ → ℕ → ℕ → ℕ
step b i w = bit_or w (row b i)

abbrev pub invariant-loop-i : goal.invariant-loop-i
invariant-loop-i l = (l.rows ≡ upto (update_row (step l.b)) l.i l.initial.rows) × (l.i ≤ elements)

abbrev pub decreases-loop-i : goal.decreases-loop-i
decreases-loop-i l = elements - l.i
