-- `plan::activity::demands_some` meets its contract: it asks each of the eight.
use mathlib.Core.Logic.{◌≢◌}
use borrow.Author.Rules.{rules}
use Rattle.std.specs.Prelude.{◌↔◌, IsTrue, SomeIndex, slice_index}
use Rattle.plan.specs.Records.{demand_in, demands_some}
use Rattle.plan.proofs.ReaderLoops.{some_by}
use Rattle.plan.proofs.activity.demands_some.Goals as goal

pub returns : goal.returns
unfolding demands_some
returns c =
    let l = c.eight.result in
    let h : IsTrue c.any.result ↔ SomeIndex l (λ k. slice_index l k ≢ 0) = search rules in
    some_by 8 (demand_in c.args.r.now) l c.any.result c.eight.ensures h
