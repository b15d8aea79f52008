-- `plan::activity::store_demands_of` meets its contract: the array is what the steps so far make of it.
use mathlib.Core.Path.{ap, ◌∙◌}
use mathlib.Core.List.{List}
use Prim.Native.Nat.{ℕ, ◌+◌, ◌*◌}
use native.Mathlib.Omega.{arith}
use lib.ListN.{get_or, set}
use Rattle.words.proofs.Loops.{up_none}
use Rattle.words.proofs.Tables.{get_d_table}
use Rattle.order.specs.Stored.{elements}
use Rattle.plan.specs.Records.{demand_in}
use Rattle.plan.specs.model.Phases.{put_demand}
use Rattle.plan.proofs.ReaderLoops.{up_next}
use Rattle.plan.proofs.activity.store_demands_of.Goals as goal

pub loop-k-init : goal.loop-k-init
loop-k-init c = up_none _ _

pub loop-k-preserved : goal.loop-k-preserved
loop-k-preserved c =
    let a = c.args in
    let k = c.loop-k.k in
    let here = ap (λ (l : List ℕ). get_or l k 0) c.eight.ensures
    ∙ get_d_table 8 (demand_in a.r.now) k 0 (omega arith) in
    up_next (put_demand a.r.now a.i) k a.demands.now c.loop-k.invariant
    (ap (λ (v : ℕ). set c.loop-k.demands (elements * k + a.i) v) here)
