-- `kinds::needs::demands_for` meets its contract: they stand in turn.
use Rattle.std.proofs.Common.{arith}
use Rattle.kinds.proofs.KindLoops.{demands_made}
use Rattle.kinds.proofs.needs.demands_for.Goals as goal

pub returns : goal.returns
returns c =
    let a = c.args in
    demands_made a.demand.now a.k c.requires c.told-demand c.copy_from_slice.ensures.after (omega arith)
