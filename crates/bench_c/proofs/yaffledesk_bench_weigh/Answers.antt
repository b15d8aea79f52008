-- `bench_c::yaffledesk_bench_weigh` meets its contract, by that of `Ranking::weigh`.
use mathlib.Core.Path.{ap, ap₂, ◌∙◌}
use mathlib.Core.List.{List}
use Prim.Native.Nat.{ℕ, ◌%◌, ◌^◌}
use Rattle.order.specs.Stored.{number_of}
use Rattle.solver.specs.declared.Quoted.{Quoted}
use Rattle.solver.specs.model.Quote.{quote_in}
use Rattle.bench_c.proofs.yaffledesk_bench_weigh.Goals as goal

pub returns : goal.returns
returns c =
    let q = c.weigh-weighed.ensures.0
    ∙ ap₂ (λ (m : ℕ) (x : List ℕ). quote_in m x c.args.demand.now) c.of.ensures.1 c.of.ensures.0 in (
      ap (λ (x : Quoted). x.need) q,
      c.first_word.ensures ∙ ap (λ (x : Quoted). number_of x.set % 2 ^ 64) q,
      c.weigh-weighed.ensures.1,
    )
