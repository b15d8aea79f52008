-- `plan::arc::has_arc` meets its contract.
use Rattle.order.proofs.Stored.{number_of_lem}
use Rattle.plan.proofs.arc.has_arc.Goals as goal

pub returns : goal.returns
returns c = simp (c.has.ensures, number_of_lem c.row.result c.row.ensures, c.ends-i.ensures.from, c.ends-i.ensures.to)
