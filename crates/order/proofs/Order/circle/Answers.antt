-- `Order::circle` meets its contract: the search goes through the elements in turn.
use Rattle.std.proofs.Common.{◌≡◌, true, false, rules, tests}
use Rattle.std.proofs.lemmas.Iterator.{first_from_Range}
use Rattle.order.proofs.Stored.{row_asked}
use Rattle.order.specs.Orders.{circle_of}
use Rattle.order.specs.Rows.{after, circle_in}
use Rattle.order.proofs.Sets.{found_first}
use Rattle.order.proofs.Order.circle.Goals as goal

pub returns : goal.returns
unfolding circle_of circle_in
returns c =
    let rows = c.args.self.rows in
    found_first _ (λ k. after rows k k)
    (first_from_Range _ _ _ c.find.result (λ k. after rows k k ≡ true) (λ k. after rows k k ≡ false)
    c.find.ensures.ran (λ x q k. search (rules, tests, row_asked)) (λ x q k. search (rules, tests, row_asked)))
