-- `planner::open::Opened::not_overloaded` meets its contract, by what the search finds.
use native.Mathlib.Omega.{arith}
use Rattle.planner.proofs.QuotedNeeds.{found_below, weighed_none, weighed_some}
use Rattle.planner.proofs.open.Opened.not_overloaded.Goals as goal

pub overflow_add-cause : goal.overflow_add-cause
overflow_add-cause c = record { fits = omega (arith, found_below _ _ c.in-Some.ensures, c.requires.1) }

pub returns-in-None : goal.returns-in-None
returns-in-None c = weighed_none _ _ c.in-None.ensures

pub returns-in-Some : goal.returns-in-Some
returns-in-Some c = weighed_some _ _ c.in-Some.ensures
