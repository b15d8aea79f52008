-- `kinds::needs::put_needs` meets its contract. The invariant: the needs of the kinds passed are written, and nothing
-- is handed over any more. (It does not see the order itself: it speaks of every order that has the rows.)
use Rattle.std.proofs.Common.{refl, ◌∙◌, arith}
use Rattle.std.proofs.lemmas.List.{length-take-le}
use borrow.Author.Count.{below_none}
use Rattle.solver.specs.model.Quote.{unused}
use Rattle.kinds.proofs.KindLoops.{needs_made}
use Rattle.kinds.proofs.needs.put_needs.Goals as goal

pub loop-k-init : goal.loop-k-init
unfolding unused
loop-k-init c = record {
  clear = refl;
  long = refl;
  written = λ o e. below_none _;
}

pub returns : goal.returns
returns c =
    let a = c.args in
    let l = c.loop-k in
    let long = l.invariant.long ∙ length-take-le a.n a.out.now c.requires.2 in
    needs_made a.m a.order a.demand.now a.n a.out.now l.need-items long
    (λ j h. l.invariant.written a.order (c.of-ranking.ensures.0 ∙ c.after_rows-rows.ensures) j (omega arith))
