-- `plan::filter::store_free` meets its contract: the rows are what the arcs of the file make of them.
use mathlib.Core.Path.{sym, ◌∙◌}
use mathlib.Core.List.{List}
use Prim.Native.Nat.{ℕ, ◌+◌}
use Rattle.plan.specs.Records.{record_at, activity_count}
use Rattle.plan.proofs.RecordLists.{are_arcs}
use Rattle.plan.proofs.Waits.{arcs_recorded}
use Rattle.plan.proofs.FreeArcs.{free_stored}
use Rattle.plan.proofs.filter.store_free.Goals as goal

pub store_each_free-requires : goal.store_each_free-requires
store_each_free-requires c =
    let s = c.args.s.now in
    let a = c.arcs_of.ensures in
    let h = rw (sym a.number) at (arcs_recorded s c.requires.0) in
    are_arcs (record_at s (activity_count s + 1)) c.arcs_of.result.now a.value h

pub returns : goal.returns
returns c =
    let s = c.args.s.now in
    let t : List ℕ = record_at s (activity_count s + 1) in
    let a = c.arcs_of.ensures in
    rw (a.number, c.requires.1) at (c.store_each_free.ensures t a.value) ∙ free_stored s c.requires.0
