-- `kinds::flows::write_flow` meets its contract: what is written are the units of the kind, as the solver hands over.
use mathlib.Core.Path.{refl, ◌∙◌}
use borrow.Author.Rules.{rules}
use Rattle.solver.specs.model.Quote.{unused}
use Rattle.kinds.specs.model.Writing.{lent}
use Rattle.kinds.proofs.NodeUnits.{mark_rows, solved_units}
use Rattle.kinds.proofs.RecordRoom.{units_written}
use Rattle.kinds.proofs.flows.write_flow.Goals as goal

pub quote-quoted-requires : goal.quote-quoted-requires
unfolding unused
quote-quoted-requires c = (search rules, refl)

-- what is lent ends as the run left it, which held it all along
pub returns : goal.returns
returns c =
    let a = c.args in
    let written =
    c.put_flow.ensures.written
    ∙ units_written a.m (lent 0 a.out.now) refl
    (solved_units a.m a.order a.demand.now a.k _ _ c.quote-quoted.result c.demands_for-own.ensures c.quote-quoted.ensures.0 c.quote-quoted.ensures.1
    a.available)
    (mark_rows a.job a.m c.after_rows-before.ensures) in
    search (rules, written)
