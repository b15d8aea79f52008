-- `Handover::hand` meets its contract. The invariant: what is left to hand over to makes of the network what all of it
-- makes of that at the start, by the same reference.
use Rattle.std.proofs.Common.{◌≡◌}
use Rattle.words.specs.model.Loops.{each}
use Rattle.order.specs.Stored.{elements, number_of}
use Rattle.solver.specs.model.Network.{network_of, handing}
use Rattle.solver.proofs.Handover.hand.Given as goal

abbrev pub invariant-loop-j : goal.invariant-loop-j
invariant-loop-j l = record {
  same : l.self.flow.ghost_name ≡ l.initial.self.flow.ghost_name;
  rest : each elements (handing l.i) (network_of l.self) (number_of l.j-iterator.left)
      ≡ each elements (handing l.i) (network_of l.initial.self) (number_of l.fn.row);
}
