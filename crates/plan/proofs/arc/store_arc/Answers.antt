-- `plan::arc::store_arc` meets its contract.
use Rattle.order.proofs.Stored.{number_of_lem}
use Rattle.plan.specs.model.ArcRows.{with_arc}
use Rattle.plan.proofs.arc.store_arc.Goals as goal

pub returns : goal.returns
unfolding with_arc
returns c =
    simp (
      c.put_row.ensures,
      number_of_lem c.with-arcs.result c.with-arcs.ensures,
      number_of_lem c.row.result c.row.ensures,
      c.ends-i.ensures.from,
      c.ends-i.ensures.to,
    )
