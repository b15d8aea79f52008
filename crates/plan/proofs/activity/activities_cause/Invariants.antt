-- `plan::activity::activities_cause` meets its contract: no record before the place of the loop is refused.
use mathlib.Core.Path.{◌≡◌}
use mathlib.Core.Bool.{true}
use mathlib.Core.List.{List}
use Prim.Native.Nat.{ℕ, ◌≤◌, ◌<◌}
use Rattle.plan.specs.Records.{record_at, activities}
use Rattle.plan.specs.Causes.{is_readable, activity_cause}
use Rattle.plan.specs.model.Lists.{RecordsOf}
use Rattle.plan.proofs.activity.activities_cause.Given as goal

abbrev pub invariant-loop-place : goal.invariant-loop-place
invariant-loop-place l =
    (l.place ≤ activities)
    × ((s : List ℕ) → RecordsOf s l.found → (k : ℕ) → k < l.place
    → is_readable (activity_cause k (record_at s k)) ≡ true)
