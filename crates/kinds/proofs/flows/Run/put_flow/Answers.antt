-- `Run::put_flow` meets its contract. The invariant: the rows passed are written.
use mathlib.Core.Path.{refl, ◌∙◌}
use Prim.Native.Nat.{◌+◌}
use native.Mathlib.Omega.{arith}
use Rattle.words.proofs.Loops.{up_none, up_again}
use Rattle.order.specs.Rows.{after}
use Rattle.kinds.specs.Flows.{mark_of}
use Rattle.kinds.specs.model.Passing.{passing}
use Rattle.kinds.specs.model.Writing.{lent, put_row}
use Rattle.kinds.proofs.RecordRoom.{row_room, rows_end}
use Rattle.kinds.proofs.flows.Run.put_flow.Goals as goal

pub loop-from-init : goal.loop-from-init
loop-from-init c = ((up_none _ _, omega arith), refl, refl)

pub put_row-requires : goal.put_row-requires
put_row-requires c =
    let a = c.args in
    let s = a.self.now in
    let u = a.units.now in
    let l = c.loop-from in (
      omega arith,
      row_room s.kind (passing u) (mark_of (after a.job.now) u.m) u.m s.n l.from l.self.n s.out.now l.self.out.now
          c.requires (omega arith) l.invariant.0.0,
    )

pub loop-from-preserved : goal.loop-from-preserved
loop-from-preserved c =
    let a = c.args in
    let s = a.self.now in
    let u = a.units.now in
    let l = c.loop-from in
    let w = c.put_row.ensures in (
      up_again (put_row s.kind (passing u) (mark_of (after a.job.now) u.m) u.m) (u.m + 1) l.from (lent s.n s.out.now)
          (omega arith) l.invariant.0 (rw l.invariant.2 at w.written),
      w.same_reference ∙ l.invariant.1,
      w.same_kind ∙ l.invariant.2,
    )

pub returns-clause-written : goal.returns-clause-written
returns-clause-written c =
    let a = c.args in
    let s = a.self.now in
    let u = a.units.now in
    let l = c.loop-from in
    rows_end s.kind (passing u) (mark_of (after a.job.now) u.m) u.m s.n l.from l.self.n s.out.now l.self.out.now
    (omega arith) l.invariant.0
