-- `Handover::augment` meets its contract. The invariant: what is left of the walk from here comes to what the
-- walk comes to from the start, by the same reference.
use Rattle.std.proofs.Common.{◌∙◌, le-leb, rules}
use borrow.Author.Tests.{lt-leb}
use Rattle.words.proofs.Loops.{run_again, run_stop, run_end}
use Rattle.order.specs.Stored.{elements}
use Rattle.solver.specs.model.Network.{network_of, walk}
use Rattle.solver.proofs.Takers.{led_none, led_below, led_back}
use Rattle.solver.proofs.Digits.{masked}
use Rattle.solver.proofs.Handover.augment.Goals as goal

pub returns-in_default-clause-value : goal.returns-in_default-clause-value
returns-in_default-clause-value c =
    c.join.ensures.value
    ∙ run_stop _ _ _ _ elements _ (walk (network_of c.loop.self) c.loop.j) c.loop-test.true
    (le-leb _ _ (led_none _ _ (search rules) c.in_default.is)) c.loop.invariant.rest

pub loop-preserved : goal.loop-preserved
loop-preserved c = record {
  same = c.shift.ensures.same_reference ∙ c.loop.invariant.same;
  rest =
      run_again _ _ _ _ elements _ (walk (network_of c.loop.self) c.loop.j) c.loop-test.true
      (lt-leb _ _ (led_below _ _ (search rules) c.in-Some.is)) c.loop.invariant.rest
      (led_back _ c.args.parents.now.rights (walk (network_of c.loop.self) c.loop.j) (search rules) c.in-Some.is
      c.shift.ensures.value);
  within = masked c.in-Some.p;
}

pub returns-clause-value : goal.returns-clause-value
returns-clause-value c = run_end _ _ _ _ elements _
    (walk (network_of c.loop.self) c.loop.j) c.loop-test.false c.loop.invariant.rest
