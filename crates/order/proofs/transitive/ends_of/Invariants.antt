-- `transitive::ends_of` meets its contract. The invariant: the set has the ends of the rows passed.
use Rattle.std.proofs.Common.{◌≡◌, ◌-◌, ◌≤◌}
use Rattle.order.specs.Stored.{elements, number_of}
use Rattle.order.specs.model.Warshall.{ends_in}
use Rattle.order.proofs.transitive.ends_of.Given as goal

abbrev pub invariant-loop-i : goal.invariant-loop-i
invariant-loop-i l = (l.i ≤ elements) × (number_of l.ends ≡ ends_in l.i l.rows)

abbrev pub decreases-loop-i : goal.decreases-loop-i
decreases-loop-i l = elements - l.i
