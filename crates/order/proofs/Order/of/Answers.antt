-- `Order::of` meets its contract: its rows, which come by value, are as `close` asks.
use Rattle.std.proofs.Common.{get_or, w64, Fits, rules}
use Rattle.order.specs.Stored.{cells}
use Rattle.order.proofs.Stored.{words_fit}
use Rattle.order.proofs.Order.of.Goals as goal

pub close-requires : goal.close-requires
unfolding cells
close-requires c =
    let arcs = c.args.arcs in
    (search rules, words_fit arcs (λ k. let f : Fits w64 (get_or arcs k 0) = search rules in f.fits))
