-- `plan::field::all_zero` meets its contract: it asks each byte.
use borrow.Author.Rules.{rules}
use Rattle.std.specs.Prelude.{◌↔◌, IsTrue, EachIndex, slice_index, ◌≡◌}
use Rattle.plan.proofs.ReaderLoops.{zeros_by}
use Rattle.plan.proofs.field.all_zero.Goals as goal

pub returns : goal.returns
returns c =
    let h : IsTrue c.all.result ↔ EachIndex c.args.bytes.now (λ k. slice_index c.args.bytes.now k ≡ 0) = search rules in
    zeros_by c.args.bytes.now c.all.result h
