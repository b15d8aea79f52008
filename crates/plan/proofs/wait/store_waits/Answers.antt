-- `plan::wait::store_waits` meets its contract: the table is what the arcs of the file make of it.
use mathlib.Core.Path.{sym, ◌∙◌}
use mathlib.Core.List.{List}
use Prim.Native.Nat.{ℕ, ◌+◌}
use Rattle.plan.specs.Records.{record_at, activity_count}
use Rattle.plan.proofs.RecordLists.{are_arcs}
use Rattle.plan.proofs.Waits.{arcs_recorded, waits_stored}
use Rattle.plan.proofs.wait.store_waits.Goals as goal

pub raise_waits-requires : goal.raise_waits-requires
raise_waits-requires c =
    let s = c.args.s.now in
    let a = c.arcs_of.ensures in
    let h = rw (sym a.number) at (arcs_recorded s c.requires.0) in
    are_arcs (record_at s (activity_count s + 1)) c.arcs_of.result.now a.value h

pub returns : goal.returns
returns c =
    let s = c.args.s.now in
    let t : List ℕ = record_at s (activity_count s + 1) in
    let a = c.arcs_of.ensures in
    rw (a.number, c.requires.1) at (c.raise_waits.ensures t a.value) ∙ waits_stored s c.requires.0
