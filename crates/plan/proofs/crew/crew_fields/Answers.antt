-- `plan::crew::crew_fields` meets its contract, by the tests in turn.
use mathlib.Core.Path.{◌≡◌, sym, ap, ◌∙◌}
use mathlib.Core.List.{List}
use mathlib.Core.Logic.{⊎_elim}
use Prim.Native.Nat.{ℕ, ◌+◌, ◌-◌, ◌*◌}
use native.Mathlib.Omega.{arith}
use borrow.Author.Rules.{rules}
use lib.ListN.{get_or, take, drop}
use borrow.Author.Tests.{lt-ltb, le-ltb, lt-leb, le-leb}
use Rattle.std.specs.Prelude.{◌↔◌, IsTrue, EachIndex, slice_index}
use Rattle.records.specs.Bytes.{zeros}
use Rattle.order.specs.Stored.{elements}
use Rattle.plan.specs.Records.{crew_fields}
use Rattle.plan.proofs.ReaderLoops.{zeros_by, part_is}
use Rattle.plan.proofs.crew.crew_fields.Goals as goal

pub returns-then-k-eq0 : goal.returns-then-k-eq0
unfolding crew_fields
returns-then-k-eq0 c =
    let k = get_or c.args.r.now 1 0 in
    ⊎_elim
    (λ z. rw (le-ltb 0 k (omega (arith, z))))
    (λ w. rw (lt-ltb 0 k (omega (arith, w.1)), lt-leb k 8 (omega (arith, w.1))))
    c.then-k-eq0.either

pub returns-then-all_zero : goal.returns-then-all_zero
unfolding crew_fields
returns-then-all_zero c =
    let k = get_or c.args.r.now 1 0 in
    let same : c.from-k.result ≡ k = c.from-k.ensures in
    let a : ℕ = elements * c.from-k.result in
    let l : List ℕ = take (8 * elements - a) (drop a c.args.demand.now) in
    let h : IsTrue c.all.result ↔ EachIndex l (λ i. slice_index l i ≡ 0) = search rules in
    let rest = zeros_by l c.all.result h
    ∙ ap zeros (part_is a (8 * elements - a) (8 * elements) c.args.demand.now (omega arith)) in
    let spare = rw (same, part_is (4 + 2 * k) (20 - (4 + 2 * k)) 20 c.args.r.now (omega arith)) at
    (sym c.all_zero.ensures ∙ c.if-all_zero.true) in
    rw (lt-ltb 0 k (omega arith), le-leb k 8 (omega arith), spare) (rw same at rest)

pub returns-else-all_zero : goal.returns-else-all_zero
unfolding crew_fields
returns-else-all_zero c =
    let k = get_or c.args.r.now 1 0 in
    let same : c.from-k.result ≡ k = c.from-k.ensures in
    let spare = rw (same, part_is (4 + 2 * k) (20 - (4 + 2 * k)) 20 c.args.r.now (omega arith)) at
    (sym c.all_zero.ensures ∙ c.if-all_zero.false) in
    rw (lt-ltb 0 k (omega arith), le-leb k 8 (omega arith), spare) c.if-all_zero.false
