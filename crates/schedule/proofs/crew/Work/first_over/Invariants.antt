-- `schedule::crew::Work::first_over` meets its contract. The invariant: what is found is no later than any overloaded
-- period after the start of one passed.
use Rattle.schedule.specs.model.Held.{work_in}
use Rattle.schedule.specs.model.Levels.{Soonest}
use Rattle.schedule.proofs.crew.Work.first_over.Given as goal

abbrev pub invariant-loop-start : goal.invariant-loop-start
invariant-loop-start l = Soonest (work_in l.self) l.start-index l.first
