-- `reach::spread` meets its contract. The invariant: what is left to visit makes of what is seen what all of
-- it makes of what was known.
use Rattle.std.proofs.Common.{rules}
use Rattle.order.specs.Stored.{number_of}
use Rattle.order.proofs.Stored.{number_of_lem}
use Rattle.order.proofs.Turns.{member_below, members_again, members_end}
use Rattle.solver.specs.model.Search.{seen, visit, takers_of}
use Rattle.solver.proofs.Steps.{visits}
use Rattle.solver.proofs.Takers.{marks_led}
use Rattle.solver.proofs.reach.spread.Goals as goal

pub loop-j-preserved : goal.loop-j-preserved
loop-j-preserved c =
    let l = c.loop-j in
    let g = c.args.givers.now in
    members_again _ _ c.in-Some.ensures.steps (visit g) _ l.invariant
    (visits g (seen (number_of l.s) (takers_of l.parents)) c.in-Some.j (number_of_lem _ c.row.ensures)
    (number_of_lem _ c.minus-back.ensures)
    (number_of_lem _ c.union-s.ensures) (marks_led _ _ _ (search (rules, member_below)) c.mark.ensures))

pub returns : goal.returns
returns c = members_end _ c.in-None.ensures.steps.0 _ _ c.loop-j.invariant
