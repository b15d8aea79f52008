-- `copy` meets its contract: the m first entries, and zeros.
use Rattle.solver.proofs.Cleared.{copies}
use Rattle.solver.proofs.copy.Goals as goal

pub returns : goal.returns
returns c =
    let a = c.args in
    copies a.m a.a.now c.requires c.told-a c.copy_from_slice.ensures.after
