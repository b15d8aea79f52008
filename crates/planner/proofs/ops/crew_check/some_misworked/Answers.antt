-- `planner::ops::crew_check::some_misworked` meets its contract. The invariant: none so far.
use mathlib.Core.Path.{◌≡◌, sym, ◌∙◌}
use native.Mathlib.Omega.{arith}
use lib.ListN.{length, get_or}
use borrow.Author.Rules.{rules}
use Rattle.std.proofs.lemmas.Slice.Zip.{zip_turn, zip_end}
use Rattle.words.proofs.Firsts.{some_here, some_none}
use Rattle.order.specs.Stored.{elements}
use Rattle.planner.specs.CrewCheck.{misworked, some_misworked}
use Rattle.planner.proofs.ops.crew_check.some_misworked.Goals as goal

pub returns-then-misworked : goal.returns-then-misworked
unfolding some_misworked
returns-then-misworked c =
    let a = c.args in
    let t = zip_turn a.durations.now a.worked.now c.loop-d.yielded c.into_iter-d-iterator.result c.loop-d.d-iterator c.next.new.self _ (cc) (cc) c.loop-d.yielded_by _ c.in-Some.is c.next.ensures.steps in
    sym (some_here (length a.worked.now) (λ i. misworked (get_or a.durations.now i 0) (get_or a.worked.now i 0))
    (length c.loop-d.yielded) t.1
    (rw (← t.2 0, ← t.3 0) (sym c.misworked.ensures ∙ c.if-misworked.true)))

pub returns : goal.returns
unfolding some_misworked
returns c =
    let a = c.args in
    let e = zip_end a.durations.now a.worked.now c.loop-d.yielded c.into_iter-d-iterator.result c.loop-d.d-iterator c.next.new.self _ (cc) (cc) c.loop-d.yielded_by c.in-None.is c.next.ensures.steps in
    let long : length a.durations.now ≡ elements = search rules in
    let few = c.requires in
    sym (some_none (length a.worked.now) (λ i. misworked (get_or a.durations.now i 0) (get_or a.worked.now i 0))
    (λ k l. c.loop-d.invariant k (omega (arith, e, long, few, l))))
