-- `Units::from_start` meets its contract: the spare units to the end, to an element what nobody hands over to it.
use Rattle.std.proofs.Common.{ℕ, ◌-◌, ap, ◌∙◌, arith}
use Rattle.solver.specs.Sound.{asked}
use Rattle.kinds.proofs.NodeUnits.{start_end, start_to}
use Rattle.kinds.proofs.units.Units.from_start.Goals as goal

pub returns-then-j-self : goal.returns-then-j-self
returns-then-j-self c =
    let u = c.args.self.now in
    start_end u.m u.demand.now u.flow.now u.spare c.args.j (omega arith)

pub overflow_sub-result : goal.overflow_sub-result
overflow_sub-result c = omega (arith, c.args.self.now.bounded.cols c.args.j (omega arith))

pub returns : goal.returns
returns c =
    let u = c.args.self.now in
    ap (λ (x : ℕ). asked u.demand.now c.args.j - x) c.handed_to.ensures
    ∙ start_to u.m u.demand.now u.flow.now u.spare c.args.j (omega arith)
