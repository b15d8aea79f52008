-- `planner::ops::crew_check::some_misworked` meets its contract. The invariant: none so far.
use mathlib.Core.Bool.{false}
use mathlib.Core.Path.{◌≡◌}
use Prim.Native.Nat.{ℕ, ◌<◌}
use lib.ListN.{length, get_or}
use Rattle.planner.specs.CrewCheck.{misworked}
use Rattle.planner.proofs.ops.crew_check.some_misworked.Given as goal

abbrev pub invariant-loop-d : goal.invariant-loop-d
invariant-loop-d l = (k : ℕ) → k < length l.yielded → misworked (get_or l.durations k 0) (get_or l.worked k 0) ≡ false
