-- `Units::handed_to` meets its contract. The invariant: the sum is that of the rows passed.
use Rattle.std.proofs.Common.{◌≡◌}
use Rattle.flow_math.specs.Handover.{col}
use Rattle.solver.specs.model.Network.{handed}
use Rattle.kinds.proofs.units.Units.handed_to.Given as goal

abbrev pub invariant-loop-row : goal.invariant-loop-row
invariant-loop-row l = l.x ≡ col l.row-index (handed l.self.flow.now) l.j
