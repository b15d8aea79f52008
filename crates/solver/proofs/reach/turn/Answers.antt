-- `reach::turn` meets its contract, by the two tests.
use Rattle.order.specs.Stored.{number_of}
use Rattle.order.proofs.Stored.{number_of_lem, number_none}
use Rattle.order.proofs.Sets.{given_lowest, given_some, given_none}
use Rattle.order.proofs.Listing.{is_none, is_some}
use Rattle.solver.specs.model.Search.{looked, takers_of}
use Rattle.solver.proofs.Steps.{look_hit, look_last, look_on}
use Rattle.solver.proofs.reach.turn.Goals as goal

pub returns-in-Some-clause-within : goal.returns-in-Some-clause-within
returns-in-Some-clause-within c = (given_lowest _ c.lowest.ensures c.in-Some.is).1

pub returns-in-Some-clause-value : goal.returns-in-Some-clause-value
returns-in-Some-clause-value c =
    let a = c.args in
    look_hit a.rows.now a.givers.now (number_of a.slack)
    (looked a.s) (takers_of a.parents.now.lefts) a.parents.now.rights _ c.requires.0 _ _
    (number_of_lem _ c.row.ensures) (number_of_lem _ c.minus-new.ensures) _ c.mark.ensures _ _
    (number_of_lem _ c.union-right.ensures)
    (number_of_lem _ c.meet.ensures) number_none (given_some _ c.lowest.ensures c.in-Some.is)
    (given_lowest _ c.lowest.ensures c.in-Some.is).0

pub returns-then-is_empty-clause-value : goal.returns-then-is_empty-clause-value
returns-then-is_empty-clause-value c =
    let a = c.args in
    look_last a.rows.now a.givers.now (number_of a.slack)
    (looked a.s) (takers_of a.parents.now.lefts) a.parents.now.rights _ c.requires.0 _ _
    (number_of_lem _ c.row.ensures) (number_of_lem _ c.minus-new.ensures) _ c.mark.ensures _ _
    (number_of_lem _ c.union-right.ensures)
    (number_of_lem _ c.meet.ensures) (number_of_lem _ c.without_lowest-rest.ensures) c.spread-left.ensures
    (given_none _ c.lowest.ensures c.in_default.is) (number_of_lem _ c.minus.ensures)
    (number_of_lem _ c.union-next.ensures) number_none
    (is_none _ _ c.is_empty.ensures c.if-is_empty.true)

pub returns-else-is_empty-clause-value : goal.returns-else-is_empty-clause-value
returns-else-is_empty-clause-value c =
    let a = c.args in
    look_on a.rows.now a.givers.now (number_of a.slack)
    (looked a.s) (takers_of a.parents.now.lefts) a.parents.now.rights _ c.requires.0 _ _
    (number_of_lem _ c.row.ensures) (number_of_lem _ c.minus-new.ensures) _ c.mark.ensures _ _
    (number_of_lem _ c.union-right.ensures)
    (number_of_lem _ c.meet.ensures) (number_of_lem _ c.without_lowest-rest.ensures) c.spread-left.ensures
    (given_none _ c.lowest.ensures c.in_default.is) (number_of_lem _ c.minus.ensures)
    (number_of_lem _ c.union-next.ensures)
    (is_some _ _ c.is_empty.ensures c.if-is_empty.false)
