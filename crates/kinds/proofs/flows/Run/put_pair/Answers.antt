-- `Run::put_pair` meets its contract: a pair without units writes nothing, another its record.
use mathlib.Core.Path.{refl, sym}
use native.Mathlib.Omega.{arith}
use Rattle.std.specs.Int.{from_bool}
use Rattle.kinds.specs.model.Writing.{lent}
use Rattle.kinds.proofs.RecordRoom.{pair_none, pair_put}
use Rattle.kinds.proofs.flows.Run.put_pair.Goals as goal

pub returns-then-units-eq0-clause-written : goal.returns-then-units-eq0-clause-written
returns-then-units-eq0-clause-written c =
    let a = c.args in
    let s = a.self.now in
    sym (pair_none s.kind a.from a.to a.units (from_bool a.added) (lent s.n s.out.now) (omega arith))

pub returns-clause-written : goal.returns-clause-written
returns-clause-written c =
    let a = c.args in
    let s = a.self.now in
    pair_put s.kind a.from a.to a.units (from_bool a.added) s.n a.from a.to s.out.now c.append_flow.new.out
    (omega arith) refl refl (rw c.from.ensures at c.append_flow.ensures)
