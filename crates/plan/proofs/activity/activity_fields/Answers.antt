-- `plan::activity::activity_fields` meets its contract, by the test of the place.
use native.Mathlib.Omega.{arith}
use borrow.Author.Tests.{lt-ltb, le-ltb}
use Rattle.plan.specs.Records.{activity_fields, activities}
use Rattle.plan.proofs.activity.activity_fields.Goals as goal

pub returns-then-place-lt-ACTIVITIES : goal.returns-then-place-lt-ACTIVITIES
unfolding activity_fields
returns-then-place-lt-ACTIVITIES c = rw (lt-ltb c.args.place activities (omega arith), c.from.ensures)

pub returns-else-place-lt-ACTIVITIES : goal.returns-else-place-lt-ACTIVITIES
unfolding activity_fields
returns-else-place-lt-ACTIVITIES c = rw (le-ltb c.args.place activities (omega arith))
