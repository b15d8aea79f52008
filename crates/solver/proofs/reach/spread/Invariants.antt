-- `reach::spread` meets its contract. The invariant: what is left to visit makes of what is seen what all of
-- it makes of what was known.
use Rattle.std.proofs.Common.{◌≡◌}
use Rattle.words.specs.model.Loops.{each}
use Rattle.order.specs.Stored.{elements, number_of}
use Rattle.solver.specs.model.Search.{seen, visit, takers_of}
use Rattle.solver.proofs.reach.spread.Given as goal

abbrev pub invariant-loop-j : goal.invariant-loop-j
invariant-loop-j l =
    each elements (visit l.givers) (seen (number_of l.s) (takers_of l.parents)) (number_of l.j-iterator.left)
    ≡ each elements (visit l.givers) (seen (number_of l.initial.s) (takers_of l.initial.parents)) (number_of l.fn.set)
