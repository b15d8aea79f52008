-- `plan::checks::check` meets its contract, by the cases of the test.
use Rattle.plan.specs.Causes.{rule}
use Rattle.plan.proofs.checks.check.Goals as goal

pub returns-then-kept : goal.returns-then-kept
unfolding rule
returns-then-kept c = rw c.if-kept.true

pub returns-else-kept : goal.returns-else-kept
unfolding rule
returns-else-kept c = rw c.if-kept.false
