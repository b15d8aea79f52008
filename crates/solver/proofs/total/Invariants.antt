-- `total` meets its contract. The invariant: the sum is that of the entries passed.
use Rattle.std.proofs.Common.{◌≡◌}
use Rattle.solver.specs.model.Quote.{amount}
use Rattle.solver.proofs.total.Given as goal

abbrev pub invariant-loop-x : goal.invariant-loop-x
invariant-loop-x l = l.t ≡ amount l.x-index l.a
