-- `reach::seek` meets its contract. The invariant: the turns left make of the search what all of
-- them make of that at the start.
use Rattle.std.proofs.Common.{◌≡◌, ℕ, List, ap, ◌∙◌, eq-eqb, ne_eqb}
use lib.Bits.{bit_and}
use Rattle.words.proofs.Loops.{run_again, run_stop, run_end}
use Rattle.order.specs.Stored.{elements, number_of, no_set}
use Rattle.order.proofs.Stored.{number_none, number_of_lem}
use Rattle.order.proofs.Sets.{given_lowest, given_some, given_none}
use Rattle.solver.specs.model.Search.{Look, reached, reached_of, reach, begun, takers_of}
use Rattle.solver.proofs.Steps.{begins}
use Rattle.solver.proofs.reach.seek.Goals as goal

-- the search begins with the roots alone
from_roots : {begin : ℕ} (rows givers : List ℕ) (slack : ℕ) (lefts rights : List ℕ) (able roots : ℕ) → begin ≡ bit_and roots able
    → reach elements rows givers slack
    (reached (record { frontier = begin; next = number_of no_set; left = roots; right = number_of no_set; at = elements }) lefts rights)
    ≡ reach elements rows givers slack (reached (begun able roots) lefts rights)
from_roots rows givers slack lefts rights able roots e = ap
    (λ (x : Look). reach elements rows givers slack (reached x lefts rights)) (begins able roots number_none e)

pub returns-in_default-clause-value : goal.returns-in_default-clause-value
returns-in_default-clause-value c =
    let a = c.args in
    run_stop _ _ _ _ elements _ (reached_of c.loop.s c.loop.parents) c.loop-test.true
    (eq-eqb _ _ (given_none _ c.lowest.ensures c.in_default.is)) c.loop.invariant.rest
    ∙ from_roots a.rows.now a.givers.now (number_of a.slack) (takers_of a.parents.now.lefts) a.parents.now.rights
    (number_of a.able) (number_of a.roots)
    (number_of_lem _ c.meet.ensures)

pub turn-s-requires : goal.turn-s-requires
turn-s-requires c = given_lowest _ c.lowest.ensures c.in-Some.is

pub loop-preserved : goal.loop-preserved
loop-preserved c = record {
  rest =
      run_again _ _ _ _ elements _
      (reached_of c.loop.s c.loop.parents) c.loop-test.true
      (ne_eqb _ _ (given_some _ c.lowest.ensures c.in-Some.is)) c.loop.invariant.rest c.turn-s.ensures.value;
  found = c.turn-s.ensures.within;
}

pub returns-clause-value : goal.returns-clause-value
returns-clause-value c =
    let a = c.args in
    run_end _ _ _ _ elements _
    (reached_of c.loop.s c.loop.parents) c.loop-test.false c.loop.invariant.rest
    ∙ from_roots a.rows.now a.givers.now (number_of a.slack) (takers_of a.parents.now.lefts) a.parents.now.rights
    (number_of a.able) (number_of a.roots)
    (number_of_lem _ c.meet.ensures)
