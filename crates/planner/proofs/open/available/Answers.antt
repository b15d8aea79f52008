-- `planner::open::available` meets its contract: of a file that is not readable nothing is available.
use Rattle.planner.proofs.OpenLaws.{none_available}
use Rattle.planner.proofs.open.available.Goals as goal

pub returns-in-Err : goal.returns-in-Err
returns-in-Err c = none_available c.args.s.now c.in-Err.ensures
