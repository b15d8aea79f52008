-- `moves::take_from` meets its contract. The invariant: what is left to take back makes of the units what all of it
-- makes of those at the start.
use Rattle.std.proofs.Common.{◌≡◌}
use Rattle.words.specs.model.Loops.{each}
use Rattle.order.specs.Stored.{elements, number_of}
use Rattle.solver.specs.model.Network.{dropping}
use Rattle.solver.proofs.moves.take_from.Given as goal

abbrev pub invariant-loop-i : goal.invariant-loop-i
invariant-loop-i l = each elements (dropping l.j) l.flow (number_of l.i-iterator.left)
    ≡ each elements (dropping l.j) l.initial.flow (number_of l.fn.set)
