-- `Handover::quote` meets its contract, by those of its parts.
use Rattle.solver.proofs.Steps.{quotes, ends_at}
use Rattle.solver.proofs.Handover.quote.Goals as goal

pub returns-clause-quoted : goal.returns-clause-quoted
returns-clause-quoted c =
    let r = c.args.ranking.now in
    quotes r.m r.rows.now c.args.demand.now r.ranks_of c.requires c.solve-s.ensures.value c.told.ensures
    c.places.ensures

pub returns-clause-value : goal.returns-clause-value
returns-clause-value c =
    let r = c.args.ranking.now in
    ends_at r.m r.rows.now c.args.demand.now r.ranks_of c.requires c.solve-s.ensures.value
