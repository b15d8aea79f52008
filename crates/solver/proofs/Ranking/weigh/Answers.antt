-- `Ranking::weigh` meets its contract, by those of its parts: what is lent ends as the handover left it, which held it
-- all along.
use Rattle.std.proofs.Common.{rules}
use Rattle.solver.proofs.Taken.{takes}
use Rattle.solver.proofs.Ranking.weigh.Goals as goal

pub returns : goal.returns
returns c =
    let a = c.args.self.now in
    let none = takes a.m a.rows.now c.args.demand.now c.quote-quoted.ensures.value c.take_back.ensures.units in
    (c.quote-quoted.ensures.quoted, rw (← none) (search rules))
