-- `total` meets its contract. The invariant: the sum is that of the entries passed.
use Rattle.std.proofs.Common.{ℕ, ◌+◌, ◌%◌, ◌^◌, ap, arith, get_or-take, length-take}
use Rattle.solver.proofs.Steps.{amount_none, amount_more}
use Rattle.solver.proofs.total.Goals as goal

pub loop-x-init : goal.loop-x-init
loop-x-init c = amount_none _

pub loop-x-preserved : goal.loop-x-preserved
loop-x-preserved c =
    let a = c.args.a.now in
    let l = c.loop-x in
    amount_more a l.x-index l.t _ l.invariant
    (ap (λ (x : ℕ). (l.t + x) % 2 ^ 32) (get_or-take c.args.m a l.x-index 0 (omega (arith, length-take c.args.m a))))
