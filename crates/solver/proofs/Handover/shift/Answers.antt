-- `Handover::shift` meets its contract: the stores are those of the model, by `shifts`.
use Rattle.solver.specs.model.Network.{network_of}
use Rattle.solver.proofs.Steps.{shifts}
use Rattle.solver.proofs.Handover.shift.Goals as goal

pub returns-clause-value : goal.returns-clause-value
returns-clause-value c =
    let a = c.args in
    shifts (network_of a.self.now) a.i a.k a.j c.min-d.ensures c.store.ensures.value c.store-2.ensures.value
