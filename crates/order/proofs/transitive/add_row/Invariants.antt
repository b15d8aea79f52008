-- `transitive::add_row` meets its contract. The invariant: the run over what is left, from the rows with what is gained
-- so far, is the run from the start, and none of what is left is held.
use Rattle.order.specs.Stored.{elements, number_of}
use Rattle.order.proofs.Gaining.{Gains}
use Rattle.order.proofs.transitive.add_row.Given as goal

abbrev pub invariant-loop-j : goal.invariant-loop-j
invariant-loop-j l = Gains elements l.rows l.i (number_of l.initial.w) (number_of l.gain) (number_of l.w)

abbrev pub decreases-loop-j : goal.decreases-loop-j
decreases-loop-j l = number_of l.w
