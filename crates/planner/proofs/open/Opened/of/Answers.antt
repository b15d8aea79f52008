-- `planner::open::Opened::of` meets its contract: the orders of the plan are built, and neither has a circle.
use mathlib.Core.Path.{ap, ◌∙◌}
use Rattle.std.specs.Prelude.{Ok}
use Rattle.planner.specs.Faults.{Fault, outcome}
use Rattle.planner.specs.Open.{or_circles}
use Rattle.planner.specs.model.Opening.{opened_by}
use Rattle.planner.specs.declared.open.Opened.{Opened}
use Rattle.planner.proofs.OutputLaws.{passed}
use Rattle.planner.proofs.OpenLaws.{opened_as}
use Rattle.planner.proofs.open.Opened.of.Goals as goal

pub returns-in_err-no_circle : goal.returns-in_err-no_circle
returns-in_err-no_circle c =
    let o = opened_as {q = c.args.plan} c.joined-rows.ensures c.of-job.ensures c.with_arcs-order.ensures in
    passed c.from_residual.ensures
    ∙ ap (λ (f : Fault). outcome f (opened_by c.args.plan))
    (c.in_err-no_circle.ensures ∙ ap (λ (x : Opened). or_circles (Ok tt) x.job x.order) o)

pub returns : goal.returns
returns c =
    let o = opened_as {q = c.args.plan} c.joined-rows.ensures c.of-job.ensures c.with_arcs-order.ensures in
    ap (λ (x : Opened). Ok x) o
    ∙ ap (λ (f : Fault). outcome f (opened_by c.args.plan))
    (c.in_ok-no_circle.ensures ∙ ap (λ (x : Opened). or_circles (Ok tt) x.job x.order) o)
