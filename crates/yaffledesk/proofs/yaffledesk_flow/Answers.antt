-- `yaffledesk::yaffledesk_flow` meets its contract: the code of the planner's answer, which is small; what was
-- lent is as the planner left it.
use mathlib.Core.Path.{ap, ◌∙◌}
use native.Mathlib.Omega.{arith}
use lib.ListN.{length}
use Rattle.planner.specs.Flow.{flow_answer}
use Rattle.yaffledesk.specs.Codes.{output_code}
use Rattle.yaffledesk.proofs.CodeBounds.{flow_small, same_small}
use borrow.Author.Rules.{rules}
use Rattle.yaffledesk.proofs.yaffledesk_flow.Goals as goal

pub output_code-requires : goal.output_code-requires
output_code-requires c =
    let a = c.args in
    same_small (flow_answer a.plan.now a.kind (length a.out.now)) (search rules)
    (flow_small a.plan.now (λ i. omega (arith, c.shared_slice_known-1.given i)) a.kind (length a.out.now))

pub returns : goal.returns
returns c = record { value = c.output_code.ensures ∙ ap output_code (search rules); out_after = search rules }
