-- `Handover::take_back` meets its contract. The invariant: what is left to take back makes of the units what all of it
-- makes of those at the start, by the same reference, and the sets of those that give stay.
use Rattle.std.proofs.Common.{◌≡◌}
use Rattle.words.specs.model.Loops.{each}
use Rattle.order.specs.Stored.{elements, number_of}
use Rattle.solver.specs.model.Network.{taken_from}
use Rattle.solver.proofs.Handover.take_back.Given as goal

abbrev pub invariant-loop-j : goal.invariant-loop-j
invariant-loop-j l = record {
  same : l.self.flow.ghost_name ≡ l.initial.self.flow.ghost_name;
  stays : l.self.givers ≡ l.initial.self.givers;
  rest : each elements (taken_from l.self.givers) l.self.flow.now (number_of l.j-iterator.left)
      ≡ each elements (taken_from l.initial.self.givers) l.initial.self.flow.now (number_of l.initial.j-iterator.left);
}
