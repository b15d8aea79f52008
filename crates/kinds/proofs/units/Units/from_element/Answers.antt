-- `Units::from_element` meets its contract: to the end what it hands over to nobody, to an element what it hands over
-- to it.
use Rattle.std.proofs.Common.{ℕ, ◌-◌, ap, ◌∙◌, arith}
use Rattle.solver.specs.Sound.{asked}
use Rattle.kinds.proofs.NodeUnits.{element_end, element_to}
use Rattle.kinds.proofs.units.Units.from_element.Goals as goal

pub overflow_sub-result : goal.overflow_sub-result
overflow_sub-result c = omega (arith, c.args.self.now.bounded.rows c.args.i (omega arith))

pub returns-then-j-self : goal.returns-then-j-self
returns-then-j-self c =
    let u = c.args.self.now in
    ap (λ (x : ℕ). asked u.demand.now c.args.i - x) c.handed_by.ensures
    ∙ element_end u.m u.demand.now u.flow.now u.spare c.args.i c.args.j (omega arith) (omega arith)

pub returns : goal.returns
returns c =
    let u = c.args.self.now in
    element_to u.m u.demand.now u.flow.now u.spare c.args.i c.args.j (omega arith) (omega arith)
