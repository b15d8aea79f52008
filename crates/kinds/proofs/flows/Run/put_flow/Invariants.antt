-- `Run::put_flow` meets its contract. The invariant: the rows passed are written.
use mathlib.Core.Path.{◌≡◌}
use Prim.Native.Nat.{◌+◌, ◌≤◌}
use Rattle.words.specs.model.Loops.{upto}
use Rattle.order.specs.Rows.{after}
use Rattle.kinds.specs.Flows.{mark_of}
use Rattle.kinds.specs.model.Passing.{passing}
use Rattle.kinds.specs.model.Writing.{lent, put_row}
use Rattle.kinds.proofs.flows.Run.put_flow.Given as goal

abbrev pub invariant-loop-from : goal.invariant-loop-from
invariant-loop-from l =
    let s = l.initial.self in
    let step = put_row s.kind (passing l.units) (mark_of (after l.job) l.units.m) l.units.m in
    ((lent l.self.n l.self.out.now ≡ upto step l.from (lent s.n s.out.now)) × (l.from ≤ l.units.m + 1))
    × (l.self.out.ghost_name ≡ s.out.ghost_name) × (l.self.kind ≡ s.kind)
