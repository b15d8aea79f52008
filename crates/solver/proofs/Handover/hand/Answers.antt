-- `Handover::hand` meets its contract. The invariant: what is left to hand over to makes of the network what all of it
-- makes of that at the start, by the same reference.
use Rattle.std.proofs.Common.{◌∙◌}
use Rattle.order.proofs.Turns.{members_again, members_end, members_still}
use Rattle.solver.specs.model.Network.{network_of}
use Rattle.solver.proofs.Steps.{hands_spent}
use Rattle.solver.proofs.Handover.hand.Goals as goal

pub returns-then-self-i-eq0-clause-value : goal.returns-then-self-i-eq0-clause-value
returns-then-self-i-eq0-clause-value c =
    members_still _ _ (network_of c.loop-j.self) (hands_spent _ _ c.if-self-i-eq0.true) c.loop-j.invariant.rest

pub loop-j-preserved : goal.loop-j-preserved
loop-j-preserved c = record {
  same = c.pass.ensures.same_reference ∙ c.loop-j.invariant.same;
  rest =
      members_again _ _ c.in-Some.ensures.steps _ _ c.loop-j.invariant.rest c.pass.ensures.value;
}

pub returns-clause-value : goal.returns-clause-value
returns-clause-value c = members_end _ c.in-None.ensures.steps.0 _ (network_of c.loop-j.self) c.loop-j.invariant.rest
