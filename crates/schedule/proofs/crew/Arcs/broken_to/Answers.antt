-- `schedule::crew::Arcs::broken_to` meets its contract. The invariant: no arc to an element passed is broken.
use native.Mathlib.Omega.{arith}
use mathlib.Core.Path.{◌∙◌}
use lib.ListN.{length}
use Rattle.schedule.specs.Checks.{breaks, broken_to}
use Rattle.schedule.specs.model.Held.{between}
use Rattle.schedule.specs.Lists.{at}
use Rattle.schedule.proofs.Arcs.{breaks_by}
use Rattle.schedule.proofs.Found.{stop_there, stop_nowhere}
use Rattle.schedule.proofs.crew.Arcs.broken_to.Goals as goal

pub returns-then-breaks_at : goal.returns-then-breaks_at
unfolding broken_to
returns-then-breaks_at c =
    let a = c.args.self.now in
    let S = c.args.crew.now.starts.now in
    let e = breaks_by a.rows.now a.waits.now S c.args.crew.now.worked.now c.args.i c.loop-j.j _ c.loop-j.invariant.0 c.breaks_at.ensures in
    stop_there (length S) (breaks (between a c.args.crew.now) (at S) c.args.i) c.loop-j.j c.loop-j.invariant.1 (omega arith) (e ∙ c.if-breaks_at.true)

pub returns : goal.returns
unfolding broken_to
returns c =
    let a = c.args.self.now in
    let S = c.args.crew.now.starts.now in
    stop_nowhere (length S) (breaks (between a c.args.crew.now) (at S) c.args.i) c.loop-j.j c.loop-j.invariant.1 (omega arith)
