-- `transitive::close` meets its contract. The invariant: the rows are what the passes done make of the arcs; all of
-- them are Warshall's closure.
use Rattle.std.proofs.Common.{ℕ, ap, ◌∙◌, arith}
use Rattle.words.specs.model.Loops.{upto}
use Rattle.words.proofs.Loops.{up_none, up_again, up_end}
use Rattle.order.specs.Stored.{elements, number_of}
use Rattle.order.specs.model.Warshall.{passing_over}
use Rattle.order.proofs.Orders.{direct_closed}
use Rattle.order.proofs.transitive.close.Goals as goal

pub loop-k-init : goal.loop-k-init
loop-k-init c = (up_none _ _, omega arith)

pub loop-k-preserved : goal.loop-k-preserved
loop-k-preserved c =
    up_again (passing_over elements (number_of c.ends_of-ends.result)) elements c.loop-k.k c.args.rows.now (omega arith) c.loop-k.invariant
    c.pass_over.ensures

pub returns : goal.returns
returns c =
    let rows = c.args.rows.now in
    up_end (passing_over elements (number_of c.ends_of-ends.result)) elements c.loop-k.k rows (omega arith) c.loop-k.invariant
    ∙ ap (λ (e : ℕ). upto (passing_over elements e) elements rows) c.ends_of-ends.ensures
    ∙ direct_closed rows c.requires.0 c.requires.1
