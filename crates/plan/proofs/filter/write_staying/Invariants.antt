-- `plan::filter::write_staying` meets its contract: each record that is looked at is written behind those that
-- stay, or left out (`Staying`).
use Rattle.plan.specs.model.ArcRows.{stays_by}
use Rattle.plan.proofs.Staying.{Staying}
use Rattle.plan.proofs.filter.write_staying.Given as goal

abbrev pub invariant-loop-r : goal.invariant-loop-r
invariant-loop-r l = Staying (stays_by l.extra l.s) l.s l.initial.out l.r-index l.n l.out
