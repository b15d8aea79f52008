-- `schedule::load::add_demands` meets its contract. The invariant: the kinds passed have the demand added, and
-- the others are as they were.
use Prim.Native.Nat.{◌+◌, ◌*◌}
use native.Mathlib.Omega.{arith}
use Rattle.words.proofs.Tables.{is_table}
use Rattle.order.specs.Stored.{elements}
use Rattle.schedule.specs.Lists.{at}
use Rattle.schedule.proofs.load.add_demands.Goals as goal

pub returns : goal.returns
returns c =
    let e = c.args in (
      is_table 8 (λ k. at e.load.now k + at e.demands.now (elements * k + e.i)) c.loop-k.load 0 c.loop-k.invariant.0 (λ x l. c.loop-k.invariant.1 x (omega arith)),
      c.loop-k.invariant.3,
    )
