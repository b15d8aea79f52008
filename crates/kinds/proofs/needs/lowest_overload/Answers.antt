-- `kinds::needs::lowest_overload` meets its contract. The invariant: no kind passed needs more than there is, and
-- nothing is handed over any more. (It does not see the order itself: it speaks of every order that has the rows.)
use mathlib.Core.Path.{refl, ◌∙◌}
use native.Mathlib.Omega.{arith}
use Rattle.std.proofs.lemmas.List.{get_or-take}
use borrow.Author.Count.{below_none}
use Rattle.solver.specs.model.Quote.{unused}
use Rattle.kinds.proofs.KindLoops.{quoted_for, lowest_found, lowest_none}
use Rattle.kinds.proofs.needs.lowest_overload.Goals as goal

pub loop-k-init : goal.loop-k-init
unfolding unused
loop-k-init c = (omega arith, λ o e. below_none _, refl)

pub returns-then-limit-need : goal.returns-then-limit-need
returns-then-limit-need c =
    let a = c.args in
    lowest_found a.m a.order a.demand.now a.available.now a.n c.loop-k.k c.weigh-quoted.result
    (c.loop-k.invariant.1 a.order (c.of-ranking.ensures.0 ∙ c.after_rows-rows.ensures)) (omega arith)
    (quoted_for a.m a.order a.demand.now c.loop-k.k c.of-ranking.ensures.1 (c.of-ranking.ensures.0 ∙ c.after_rows-rows.ensures) c.demands_for-own.ensures c.weigh-quoted.ensures.0)
    (omega (arith, get_or-take a.n a.available.now c.loop-k.k 0 (omega arith)))

pub returns : goal.returns
returns c =
    let a = c.args in
    lowest_none a.m a.order a.demand.now a.available.now a.n c.loop-k.k
    (c.loop-k.invariant.1 a.order (c.of-ranking.ensures.0 ∙ c.after_rows-rows.ensures))
    (omega arith)
