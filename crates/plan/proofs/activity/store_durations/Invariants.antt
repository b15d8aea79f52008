-- `plan::activity::store_durations` meets its contract: the array is what the steps so far make of it.
use mathlib.Core.Path.{◌≡◌}
use mathlib.Core.List.{List}
use Prim.Native.Nat.{ℕ}
use Rattle.words.specs.model.Loops.{upto}
use Rattle.plan.specs.model.Lists.{RecordsOf}
use Rattle.plan.specs.model.Phases.{put_duration}
use Rattle.plan.proofs.activity.store_durations.Given as goal

abbrev pub invariant-loop-i : goal.invariant-loop-i
invariant-loop-i l = (s : List ℕ) → RecordsOf s l.activities
    → l.durations ≡ upto (put_duration s) l.i l.initial.durations
