-- `Handover::start` meets its contract: no set has a member.
use Rattle.std.proofs.Common.{List, ℕ, ap}
use Rattle.order.specs.Stored.{cells}
use Rattle.solver.specs.model.Network.{network}
use Rattle.solver.specs.model.Solve.{blank_rows}
use Rattle.solver.proofs.Handover.start.Goals as goal

pub returns-clause-value : goal.returns-clause-value
unfolding blank_rows cells
returns-clause-value c = ap (λ (l : List ℕ). network c.args.flow.now blank_rows l l) c.copy-left.ensures
