-- `plan::file::leading_records` meets its contract: the position is where the run of the type ends.
use mathlib.Core.Path.{◌≡◌}
use mathlib.Core.Bool.{true, false}
use mathlib.Core.List.{[]}
use Prim.Native.Nat.{ℕ, ◌≤◌, ◌<◌}
use borrow.Author.Rules.{rules}
use lib.ListN.{length, get_or}
use lib.Dec.{eqb}
use Rattle.records.specs.Bytes.{byte}
use Rattle.plan.specs.model.Lists.{type_number}
use Rattle.plan.proofs.RecordLists.{leading_here}
use Rattle.plan.proofs.file.leading_records.Goals as goal

pub returns-clause-value : goal.returns-clause-value
returns-clause-value c =
    let rs = c.args.records.now in
    let type = type_number c.args.of in
    let p = c.unwrap_or.result in
    let few : p ≤ length rs = search rules in
    let before : (k : ℕ) → k < p → eqb (byte (get_or rs k []) 0) type ≡ true = search rules in
    let here : p < length rs → eqb (byte (get_or rs p []) 0) type ≡ false = search rules in
    λ s R. leading_here s rs R type p few before here
