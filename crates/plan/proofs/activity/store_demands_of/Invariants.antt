-- `plan::activity::store_demands_of` meets its contract: the array is what the steps so far make of it.
use mathlib.Core.Path.{◌≡◌}
use Rattle.words.specs.model.Loops.{upto}
use Rattle.plan.specs.model.Phases.{put_demand}
use Rattle.plan.proofs.activity.store_demands_of.Given as goal

abbrev pub invariant-loop-k : goal.invariant-loop-k
invariant-loop-k l = l.demands ≡ upto (put_demand l.r l.i) l.k l.initial.demands
