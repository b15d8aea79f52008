-- `plan::Plan::empty` meets its contract: the result computes to the definition.
use mathlib.Core.Path.{refl}
use Rattle.order.specs.Stored.{cells}
use Rattle.plan.specs.model.Plans.{empty_plan}
use Rattle.plan.proofs.Plan.empty.Goals as goal

pub returns : goal.returns
unfolding empty_plan cells
returns c = refl
