-- `bench_c::yaffledesk_quote` meets its contract: the order is that of the arcs, and the rest is
-- as `solver::quote` leaves it.
use mathlib.Core.Path.{ap, ◌∙◌}
use Prim.Native.Nat.{◌%◌, ◌^◌}
use Rattle.order.specs.declared.Order.{Order}
use Rattle.order.specs.Stored.{number_of}
use Rattle.solver.specs.declared.Quoted.{Quoted}
use Rattle.solver.specs.model.Quote.{quote_of, flow_of}
use Rattle.bench_c.proofs.yaffledesk_quote.Goals as goal

pub returns : goal.returns
returns c =
    let a = c.args in
    let e = c.of.ensures in
    let d = a.demand.now in
    let q = c.quote-quoted.ensures.0 ∙ ap (λ (o : Order). quote_of a.m o d) e in (
      ap (λ (x : Quoted). x.need) q,
      c.first_word.ensures ∙ ap (λ (x : Quoted). number_of x.set % 2 ^ 64) q,
      c.quote-quoted.ensures.1 ∙ ap (λ (o : Order). flow_of a.m o d) e,
    )
