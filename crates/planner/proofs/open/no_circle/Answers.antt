-- `planner::open::no_circle` meets its contract, by the two circles.
use mathlib.Core.Path.{sym, ◌∙◌}
use Rattle.planner.proofs.OpenLaws.{job_circle, plan_circle, no_circle}
use Rattle.planner.proofs.open.no_circle.Goals as goal

pub returns-in-Some : goal.returns-in-Some
returns-in-Some c = let a = c.args in job_circle a.job a.whole c.in-Some.ensures

pub returns-in-Some-circle : goal.returns-in-Some-circle
returns-in-Some-circle c =
    let a = c.args in
    plan_circle a.job a.whole (sym c.in_default.is ∙ c.circle.ensures) c.in-Some-circle.ensures

pub returns : goal.returns
returns c =
    let a = c.args in
    no_circle a.job a.whole (sym c.in_default.is ∙ c.circle.ensures) (sym c.in_default-circle.is ∙ c.circle-2.ensures)
