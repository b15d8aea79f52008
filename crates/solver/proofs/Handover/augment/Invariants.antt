-- `Handover::augment` meets its contract. The invariant: what is left of the walk from here comes to what the
-- walk comes to from the start, by the same reference.
use Rattle.std.proofs.Common.{◌≡◌, ◌-◌, ◌<◌, ◌≤◌}
use Rattle.order.specs.Stored.{elements}
use Rattle.solver.specs.model.Search.{takers_of}
use Rattle.solver.specs.model.Network.{network_of, walk, augmented}
use Rattle.solver.proofs.Handover.augment.Given as goal

abbrev pub invariant-loop : goal.invariant-loop
invariant-loop l = record {
  same : l.self.flow.ghost_name ≡ l.initial.self.flow.ghost_name;
  rest : (augmented (elements - l.counter) (takers_of l.parents.lefts) l.parents.rights (walk (network_of l.self) l.j)
      ≡ augmented elements (takers_of l.parents.lefts) l.parents.rights
      (walk (network_of l.initial.self) l.initial.j)) × (l.counter ≤ elements);
  within : l.j < elements;
}
