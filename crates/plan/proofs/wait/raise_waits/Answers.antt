-- `plan::wait::raise_waits` meets its contract: the waits are what the records so far make of them.
use mathlib.Core.Path.{◌∙◌}
use mathlib.Core.List.{[]}
use native.Mathlib.Omega.{arith}
use lib.ListN.{get_or}
use Rattle.words.proofs.Loops.{up_none}
use Rattle.plan.proofs.ReaderLoops.{up_next}
use Rattle.plan.specs.Records.{record_at}
use Rattle.plan.specs.model.Waits.{put_wait}
use Rattle.plan.proofs.RecordLists.{wait_own}
use Rattle.plan.proofs.wait.raise_waits.Goals as goal

pub loop-r-init : goal.loop-r-init
loop-r-init c = λ t R. up_none _ _

pub loop-r-preserved : goal.loop-r-preserved
loop-r-preserved c =
    λ t R.
    let i = c.loop-r.r-index in
    let own = wait_own (get_or c.args.arcs.now i []) (record_at t i) (R i (omega arith)) c.loop-r.waits in
    up_next (put_wait t) i c.args.waits.now (c.loop-r.invariant t R) (c.raise_wait.ensures ∙ own)
