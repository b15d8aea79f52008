-- `transitive::ends_of` meets its contract. The invariant: the set has the ends of the rows passed.
use Rattle.std.proofs.Common.{◌≡◌, ◌∙◌, ap₂, add-one, arith}
use lib.Bits.{bit_or}
use Rattle.order.specs.Stored.{elements, set_of}
use Rattle.order.specs.model.Warshall.{ends_in}
use Rattle.order.proofs.Stored.{number_of_lem, number_set}
use Rattle.order.proofs.transitive.ends_of.Goals as goal

pub loop-i-init : goal.loop-i-init
unfolding ends_in set_of
loop-i-init c = (omega arith, number_set 0)

pub loop-i-preserved : goal.loop-i-preserved
unfolding ends_in
loop-i-preserved c =
    (omega arith, rw add-one (number_of_lem _ c.union-ends.ensures ∙ ap₂ bit_or c.loop-i.invariant.1 (number_of_lem _ c.row.ensures)))

pub returns : goal.returns
returns c =
    let e : c.loop-i.i ≡ elements = omega arith in
    rw e at c.loop-i.invariant.1
