-- `schedule::earliest` meets its contract. The invariant: the starts are those of the elements done, and these are
-- all of a rank below the level.
use mathlib.Core.Path.{◌≡◌}
use Prim.Native.Nat.{◌≤◌, ◌-◌}
use Rattle.schedule.specs.model.Arrays.{net_of, with_waits}
use Rattle.schedule.specs.model.Levels.{starts_by, RanksDone}
use Rattle.order.specs.Stored.{elements, number_of}
use Rattle.schedule.proofs.early.earliest.Given as goal

abbrev pub invariant-loop-level : goal.invariant-loop-level
invariant-loop-level l =
    (l._level ≤ elements) × (l.starts ≡ starts_by (net_of l.rows (with_waits l.durations l.waits)) (number_of l.done)) × RanksDone l.rows (with_waits l.durations l.waits) (number_of l.done) l._level

abbrev pub decreases-loop-level : goal.decreases-loop-level
decreases-loop-level l = elements - l._level
