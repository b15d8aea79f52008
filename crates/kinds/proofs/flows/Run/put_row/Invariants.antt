-- `Run::put_row` meets its contract. The invariant: the pairs passed are written.
use mathlib.Core.Path.{◌≡◌}
use Prim.Native.Nat.{◌+◌, ◌≤◌}
use Rattle.words.specs.model.Loops.{upto}
use Rattle.order.specs.Rows.{after}
use Rattle.kinds.specs.Flows.{mark_of}
use Rattle.kinds.specs.model.Passing.{passing}
use Rattle.kinds.specs.model.Writing.{lent}
use Rattle.kinds.proofs.RecordRoom.{pair_step}
use Rattle.kinds.proofs.flows.Run.put_row.Given as goal

abbrev pub invariant-loop-j : goal.invariant-loop-j
invariant-loop-j l =
    let s = l.initial.self in
    let step = pair_step s.kind (passing l.units) (mark_of (after l.job) l.units.m) l.from in
    ((lent l.self.n l.self.out.now ≡ upto step l.j (lent s.n s.out.now)) × (l.j ≤ l.units.m + 1))
    × (l.self.out.ghost_name ≡ s.out.ghost_name) × (l.self.kind ≡ s.kind)
