-- `reach::mark` meets its contract. The invariant: what is left to mark makes of the parents what all of it
-- makes of those at the start.
use Rattle.std.proofs.Common.{refl}
use Rattle.order.proofs.Turns.{members_again, members_end}
use Rattle.solver.specs.model.Search.{put}
use Rattle.solver.proofs.reach.mark.Goals as goal

pub loop-b-preserved : goal.loop-b-preserved
loop-b-preserved g c =
    members_again _ _ c.in-Some.ensures.steps (put _) _ c.loop-b.invariant refl

pub returns : goal.returns
returns g c = members_end _ c.in-None.ensures.steps.0 (put _) _ c.loop-b.invariant
