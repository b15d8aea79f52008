-- `moves::given` meets its contract, by the test.
use Rattle.order.proofs.Stored.{number_of_lem}
use Rattle.solver.proofs.Steps.{given_none, given_some}
use Rattle.solver.proofs.moves.given.Goals as goal

pub returns-then-n-eq0 : goal.returns-then-n-eq0
returns-then-n-eq0 c = given_none _ _ _ (number_of_lem _ c.without.ensures) c.if-n-eq0.true

pub returns-else-n-eq0 : goal.returns-else-n-eq0
returns-else-n-eq0 c = given_some _ _ _ (number_of_lem _ c.with.ensures) c.if-n-eq0.false
