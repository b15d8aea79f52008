-- `schedule::crew::Arcs::first_broken` meets its contract. The invariant: no arc from an element passed is broken.
use mathlib.Core.Bool.{false}
use mathlib.Core.Path.{◌≡◌}
use Prim.Native.Nat.{ℕ, ◌<◌}
use lib.Dec.{ltb}
use lib.ListN.{length}
use Rattle.schedule.specs.Checks.{broken_to}
use Rattle.schedule.specs.model.Held.{between}
use Rattle.schedule.specs.Lists.{at}
use Rattle.schedule.proofs.crew.Arcs.first_broken.Given as goal

abbrev pub invariant-loop-from : goal.invariant-loop-from
invariant-loop-from l =
    let s = l.crew.starts.now in
    (k : ℕ) → k < l.from → ltb (broken_to (between l.self l.crew) (at s) k) (length s) ≡ false
