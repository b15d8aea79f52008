-- `Handover::take_back` meets its contract. The invariant: what is left to take back makes of the units what all of it
-- makes of those at the start, by the same reference, and the sets of those that give stay.
use Rattle.std.proofs.Common.{ap, ◌∙◌}
use Rattle.words.specs.model.Loops.{each}
use Rattle.order.specs.Stored.{elements, number_of}
use Rattle.order.proofs.Stored.{number_of_lem}
use Rattle.order.proofs.Turns.{members_again, members_end}
use Rattle.solver.specs.model.Network.{dropping, taken_from, taken_back}
use Rattle.solver.proofs.Handover.take_back.Goals as goal

pub loop-j-preserved : goal.loop-j-preserved
loop-j-preserved c =
    let s = c.loop-j.self in
    record {
      same = c.loop-j.invariant.same;
      stays = c.loop-j.invariant.stays;
      rest =
          members_again _ _ c.in-Some.ensures.steps (taken_from s.givers) _ c.loop-j.invariant.rest
          (c.take_from.ensures ∙ ap (each elements (dropping c.in-Some.j) s.flow.now) (number_of_lem _ c.row.ensures));
    }

pub returns-clause-units : goal.returns-clause-units
unfolding taken_back
returns-clause-units c =
    let a = c.args.self.now in
    members_end _ c.in-None.ensures.steps.0 (taken_from c.loop-j.self.givers) _ c.loop-j.invariant.rest
    ∙ ap (each elements (taken_from a.givers) a.flow.now)
    (ap number_of c.into_iter-j-iterator.ensures.into_iter_gives ∙ c.leading_of-j-items.ensures)
