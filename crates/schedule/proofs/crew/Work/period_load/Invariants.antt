-- `schedule::crew::Work::period_load` meets its contract. The invariant: the load is that of the activities passed, and
-- at most 2 ^ 32 for each of them.
use mathlib.Core.Path.{◌≡◌}
use Prim.Native.Nat.{◌*◌, ◌^◌}
use lib.ListN.{length}
use Rattle.schedule.specs.model.Arrays.{AllAtMost}
use Rattle.schedule.specs.model.Held.{work_in}
use Rattle.schedule.specs.model.Loads.{load_up_to}
use Rattle.schedule.proofs.crew.Work.period_load.Given as goal

abbrev pub invariant-loop-i : goal.invariant-loop-i
invariant-loop-i l =
    AllAtMost (length l.yielded * 2 ^ 32) l.load × (l.load ≡ load_up_to (work_in l.self) l.t (length l.yielded))
