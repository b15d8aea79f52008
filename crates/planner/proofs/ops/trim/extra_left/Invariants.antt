-- `planner::ops::trim::extra_left` meets its contract: the extra arcs are those that the pairs so far leave, and the
-- order is theirs.
use Prim.Native.Nat.{◌+◌, ◌*◌}
use Rattle.records.specs.Bytes.{AreBytes}
use Rattle.order.specs.Stored.{elements}
use Rattle.planner.specs.Open.{Opens}
use Rattle.planner.proofs.TrimPairs.{Considered}
use Rattle.planner.proofs.ops.trim.extra_left.Given as goal

abbrev pub invariant-loop-i : goal.invariant-loop-i
invariant-loop-i l = (bytes : AreBytes l.s) (o : Opens l.s) → Considered l.s bytes o (elements * l.i) l.extra l.afters

abbrev pub invariant-loop-j : goal.invariant-loop-j
invariant-loop-j l = (bytes : AreBytes l.s) (o : Opens l.s)
    → Considered l.s bytes o (elements * l.i + l.j) l.extra l.afters
