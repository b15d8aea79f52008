-- `Handover::pass` meets its contract: both ways out are those of `handing`.
use Rattle.std.proofs.Common.{◌∙◌}
use Rattle.solver.specs.model.Network.{network_of}
use Rattle.solver.proofs.Steps.{hands_none, hands_some}
use Rattle.solver.proofs.Handover.pass.Goals as goal

pub returns-then-d-eq0-clause-value : goal.returns-then-d-eq0-clause-value
returns-then-d-eq0-clause-value c = hands_none _ (network_of c.args.self.now) _ c.min-d.ensures c.if-d-eq0.true

pub returns-clause-value : goal.returns-clause-value
returns-clause-value c =
    c.join.ensures.value ∙ hands_some _ (network_of c.args.self.now) _ c.min-d.ensures c.if-d-eq0.false
