-- `schedule::load::add_demands` meets its contract. The invariant: the kinds passed have the demand added, and
-- the others are as they were.
use mathlib.Core.Path.{◌≡◌}
use Prim.Native.Nat.{ℕ, ◌+◌, ◌*◌, ◌^◌, ◌≤◌, ◌<◌}
use lib.ListN.{length}
use Rattle.order.specs.Stored.{elements}
use Rattle.schedule.specs.Lists.{at}
use Rattle.schedule.specs.model.Arrays.{AllAtMost}
use Rattle.schedule.proofs.load.add_demands.Given as goal

abbrev pub invariant-loop-k : goal.invariant-loop-k
invariant-loop-k l =
    (length l.load ≡ 8)
    × ((x : ℕ) → x < l.k → at l.load x ≡ at l.initial.load x + at l.demands (elements * x + l.i))
    × ((x : ℕ) → l.k ≤ x → at l.load x ≡ at l.initial.load x)
    × AllAtMost ((l.i + 1) * 2 ^ 32) l.load
