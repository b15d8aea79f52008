-- `plan::activity::store_durations` meets its contract: the array is what the steps so far make of it.
use mathlib.Core.Path.{◌∙◌}
use mathlib.Core.List.{[]}
use native.Mathlib.Omega.{arith}
use lib.ListN.{get_or}
use Rattle.words.proofs.Loops.{up_none}
use Rattle.plan.proofs.ReaderLoops.{up_next}
use Rattle.plan.specs.Records.{record_at}
use Rattle.plan.specs.model.Phases.{put_duration}
use Rattle.plan.proofs.RecordLists.{two_own}
use Rattle.plan.proofs.activity.store_durations.Goals as goal

pub loop-i-init : goal.loop-i-init
loop-i-init c = λ s R. up_none _ _

pub loop-i-preserved : goal.loop-i-preserved
loop-i-preserved c =
    λ s R.
    let i = c.loop-i.i in
    let own = two_own (get_or c.args.activities.now i []) (record_at s i) (R i (omega arith)) 2 (omega arith) in
    up_next (put_duration s) i c.args.durations.now (c.loop-i.invariant s R) (rw (c.field.ensures.value ∙ own))
