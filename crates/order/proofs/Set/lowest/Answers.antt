-- `Set::lowest` meets its contract, by the number of the word.
use Rattle.std.proofs.Common.{ap, ◌∙◌, rules}
use Rattle.std.specs.Bool.{then_some}
use Rattle.order.specs.Stored.{number_of}
use Rattle.order.proofs.Sets.{lowest_found}
use Rattle.order.proofs.Stored.{to_bound}
use Rattle.order.proofs.Set.lowest.Goals as goal

pub returns : goal.returns
unfolding number_of
returns c =
    let fits = to_bound (search rules) in
    (c.then_some.ensures ∙ ap (then_some _) c.lowest.ensures ∙ lowest_found c.args.self fits, fits)
