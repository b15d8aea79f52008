-- `planner::ops::flow::flow_length` meets its contract, by whether there are activities.
use native.Mathlib.Omega.{arith}
use Rattle.order.specs.Stored.{elements}
use Rattle.planner.specs.File.{flow_length}
use Rattle.planner.proofs.FlowLaws.{length_none}
use Rattle.planner.proofs.FlowUnits.{pairs_few}
use borrow.Author.Rules.{rules}
use Rattle.planner.proofs.ops.flow.flow_length.Goals as goal

pub returns-then-m-eq0 : goal.returns-then-m-eq0
returns-then-m-eq0 c = length_none c.args.m (omega arith)

pub overflow_mul-result : goal.overflow_mul-result
overflow_mul-result c = record { fits = omega (arith, pairs_few elements c.args.m (omega arith)) }

pub overflow_add-result : goal.overflow_add-result
overflow_add-result c = record { fits = omega (arith, pairs_few elements c.args.m (omega arith)) }

pub overflow_add-result-2 : goal.overflow_add-result-2
overflow_add-result-2 c = record { fits = omega (arith, pairs_few elements c.args.m (omega arith)) }

pub overflow_mul-result-3 : goal.overflow_mul-result-3
overflow_mul-result-3 c = record { fits = omega (arith, pairs_few elements c.args.m (omega arith)) }

pub returns : goal.returns
unfolding flow_length
returns c = search rules
