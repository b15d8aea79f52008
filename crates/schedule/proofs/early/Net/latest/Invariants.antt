-- `schedule::early::Net::latest` meets its contract. The invariant: the largest that the arcs passed ask.
use mathlib.Core.Bool.{cond}
use mathlib.Core.Path.{◌≡◌}
use Prim.Native.Nat.{◌+◌, ◌*◌}
use Rattle.words.specs.Sums.{maximum}
use Rattle.order.specs.Stored.{elements}
use Rattle.order.specs.Rows.{after}
use Rattle.schedule.specs.Lists.{at}
use Rattle.schedule.proofs.early.Net.latest.Given as goal

abbrev pub invariant-loop-i : goal.invariant-loop-i
invariant-loop-i l =
    let n = l.self in
    l.best ≡ maximum l.i (λ k. cond (after n.rows.now k l.j) (at l.starts k + (at n.durations.now k + at n.waits.now (elements * l.j + k))) 0)
