-- `reach::seek` meets its contract. The invariant: the turns left make of the search what all of
-- them make of that at the start.
use Rattle.std.proofs.Common.{◌≡◌, ◌-◌, ◌≤◌}
use Rattle.order.specs.Stored.{elements, number_of}
use Rattle.solver.specs.model.Search.{reached_of, reach, Found}
use Rattle.solver.proofs.reach.seek.Given as goal

abbrev pub invariant-loop : goal.invariant-loop
invariant-loop l = record {
  rest : (reach (elements - l.counter) l.rows l.givers (number_of l.slack) (reached_of l.s l.parents)
      ≡ reach elements l.rows l.givers (number_of l.slack)
      (reached_of l.initial.s l.initial.parents)) × (l.counter ≤ elements);
  found : Found l.s;
}
