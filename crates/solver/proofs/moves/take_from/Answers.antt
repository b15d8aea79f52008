-- `moves::take_from` meets its contract. The invariant: what is left to take back makes of the units what all of it
-- makes of those at the start.
use Rattle.std.proofs.Common.{refl}
use Rattle.order.proofs.Turns.{members_again, members_end}
use Rattle.solver.specs.model.Network.{dropping}
use Rattle.solver.proofs.moves.take_from.Goals as goal

pub loop-i-preserved : goal.loop-i-preserved
loop-i-preserved c =
    members_again _ _ c.in-Some.ensures.steps (dropping _) _ c.loop-i.invariant refl

pub returns : goal.returns
returns c = members_end _ c.in-None.ensures.steps.0 (dropping _) _ c.loop-i.invariant
