-- `Handover::join` meets its contract: the store is that of the model, by `joins`.
use Rattle.std.proofs.Common.{◌∙◌}
use Rattle.solver.specs.model.Network.{network_of}
use Rattle.solver.proofs.Steps.{joins}
use Rattle.solver.proofs.Handover.join.Goals as goal

pub returns-clause-value : goal.returns-clause-value
returns-clause-value c =
    let a = c.args in
    c.store.ensures.value ∙ joins (network_of a.self.now) a.i a.j c.min-d.ensures
