-- `schedule::crew::Arcs::broken_to` meets its contract. The invariant: no arc to an element passed is broken.
use mathlib.Core.Bool.{false}
use mathlib.Core.Path.{◌≡◌}
use Prim.Native.Nat.{ℕ, ◌<◌, ◌+◌}
use Rattle.schedule.specs.Checks.{breaks}
use Rattle.schedule.specs.model.Held.{between}
use Rattle.schedule.specs.Lists.{at}
use Rattle.schedule.proofs.crew.Arcs.broken_to.Given as goal

abbrev pub invariant-loop-j : goal.invariant-loop-j
invariant-loop-j l =
    let s = l.crew.starts.now in
    (l.finish ≡ at s l.i + at l.crew.worked.now l.i) × ((k : ℕ) → k < l.j → breaks (between l.self l.crew) (at s) l.i k ≡ false)
