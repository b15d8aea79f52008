-- `plan::filter::store_each_free` meets its contract: the rows are what the records so far make of them.
use mathlib.Core.Path.{◌∙◌}
use mathlib.Core.List.{[]}
use native.Mathlib.Omega.{arith}
use lib.ListN.{get_or}
use Rattle.words.proofs.Loops.{up_none}
use Rattle.plan.proofs.ReaderLoops.{up_next}
use Rattle.plan.specs.Records.{record_at}
use Rattle.plan.specs.model.ArcRows.{put_free}
use Rattle.plan.proofs.RecordLists.{free_own}
use Rattle.plan.proofs.filter.store_each_free.Goals as goal

pub loop-r-init : goal.loop-r-init
loop-r-init c = λ t R. up_none _ _

pub loop-r-preserved : goal.loop-r-preserved
loop-r-preserved c =
    λ t R.
    let i = c.loop-r.r-index in
    let own = free_own (get_or c.args.arcs.now i []) (record_at t i) (R i (omega arith)) c.loop-r.rows in
    up_next (put_free t) i c.args.rows.now (c.loop-r.invariant t R) (c.store_if_free.ensures ∙ own)
