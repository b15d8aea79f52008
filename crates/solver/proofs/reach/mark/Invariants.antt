-- `reach::mark` meets its contract. The invariant: what is left to mark makes of the parents what all of it
-- makes of those at the start.
use Rattle.std.proofs.Common.{◌≡◌}
use Rattle.order.specs.Stored.{number_of}
use Rattle.solver.specs.model.Search.{marks}
use Rattle.solver.proofs.reach.mark.Given as goal

abbrev pub invariant-loop-b : goal.invariant-loop-b
invariant-loop-b g l = marks l.parents (number_of l.b-iterator.left) l.from
    ≡ marks l.initial.parents (number_of l.fn.set) l.from
