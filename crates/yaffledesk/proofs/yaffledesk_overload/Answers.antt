-- `yaffledesk::yaffledesk_overload` meets its contract: the code of the planner's answer, which is small; what was
-- lent is as the planner left it.
use mathlib.Core.Path.{ap, ◌∙◌}
use lib.ListN.{length}
use Rattle.planner.specs.Overload.{overload_answer}
use Rattle.yaffledesk.specs.Codes.{output_code}
use Rattle.yaffledesk.proofs.CodeBounds.{overload_small, same_small}
use borrow.Author.Rules.{rules}
use Rattle.yaffledesk.proofs.yaffledesk_overload.Goals as goal

pub output_code-requires : goal.output_code-requires
output_code-requires c =
    let a = c.args in
    same_small (overload_answer a.plan.now (length a.out.now)) (search rules)
    (overload_small a.plan.now (length a.out.now))

pub returns : goal.returns
returns c = record { value = c.output_code.ensures ∙ ap output_code (search rules); out_after = search rules }
