-- `Run::put_row` meets its contract. The invariant: the pairs passed are written.
use mathlib.Core.Path.{refl, ◌∙◌}
use Prim.Native.Nat.{◌+◌}
use native.Mathlib.Omega.{arith}
use Rattle.words.proofs.Loops.{up_none}
use Rattle.order.specs.Rows.{after}
use Rattle.kinds.specs.Flows.{mark_of}
use Rattle.kinds.specs.model.Passing.{passing}
use Rattle.kinds.proofs.RecordRoom.{pair_room, pair_next, pairs_end}
use Rattle.kinds.proofs.flows.Run.put_row.Goals as goal

pub loop-j-init : goal.loop-j-init
loop-j-init c = ((up_none _ _, omega arith), refl, refl)

pub put_pair-requires : goal.put_pair-requires
put_pair-requires c =
    let a = c.args in
    let s = a.self.now in
    let u = a.units.now in
    let l = c.loop-j in (
      omega arith,
      omega arith,
      pair_room s.kind (passing u) (mark_of (after a.job.now) u.m) u.m a.from s.n l.j l.self.n c.between-x.result
          s.out.now l.self.out.now c.requires.1 (omega arith) l.invariant.0.0 c.between-x.ensures,
    )

pub loop-j-preserved : goal.loop-j-preserved
loop-j-preserved c =
    let a = c.args in
    let s = a.self.now in
    let u = a.units.now in
    let l = c.loop-j in
    let w = c.put_pair in (
      pair_next s.kind (passing u) (mark_of (after a.job.now) u.m) u.m a.from s.n l.j l.self.n (l.j + 1)
          c.between-x.result _ w.new.self.n s.out.now l.self.out.now w.new.self.out.now (omega arith) l.invariant.0
          (omega arith) c.between-x.ensures c.is_added.ensures (rw l.invariant.2 at w.ensures.written),
      w.ensures.same_reference ∙ l.invariant.1,
      w.ensures.same_kind ∙ l.invariant.2,
    )

pub returns-clause-written : goal.returns-clause-written
returns-clause-written c =
    let a = c.args in
    let s = a.self.now in
    let u = a.units.now in
    let l = c.loop-j in
    pairs_end s.kind (passing u) (mark_of (after a.job.now) u.m) u.m a.from s.n l.j l.self.n s.out.now l.self.out.now
    (omega arith) l.invariant.0
