-- `transitive::close` meets its contract. The invariant: the rows are what the passes done make of the arcs; all of
-- them are Warshall's closure.
use Rattle.std.proofs.Common.{◌≡◌, ◌-◌, ◌≤◌}
use Rattle.words.specs.model.Loops.{upto}
use Rattle.order.specs.Stored.{elements, number_of}
use Rattle.order.specs.model.Warshall.{passing_over}
use Rattle.order.proofs.transitive.close.Given as goal

abbrev pub invariant-loop-k : goal.invariant-loop-k
invariant-loop-k l = (l.rows ≡ upto (passing_over elements (number_of l.ends)) l.k l.initial.rows) × (l.k ≤ elements)

abbrev pub decreases-loop-k : goal.decreases-loop-k
decreases-loop-k l = elements - l.k
