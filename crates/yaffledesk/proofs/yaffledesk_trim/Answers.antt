-- `yaffledesk::yaffledesk_trim` meets its contract: the code of the planner's answer, which is small; what was
-- lent is as the planner left it.
use mathlib.Core.Path.{ap, ◌∙◌}
use native.Mathlib.Omega.{arith}
use lib.ListN.{length}
use Rattle.planner.specs.Trim.{trim_answer}
use Rattle.yaffledesk.specs.Codes.{output_code}
use Rattle.yaffledesk.proofs.CodeBounds.{trim_small, same_small}
use borrow.Author.Rules.{rules}
use Rattle.yaffledesk.proofs.yaffledesk_trim.Goals as goal

pub output_code-requires : goal.output_code-requires
output_code-requires c =
    let a = c.args in
    same_small (trim_answer a.plan.now (length a.out.now)) (search rules)
    (trim_small a.plan.now (λ i. omega (arith, c.shared_slice_known-1.given i)) (length a.out.now))

pub returns : goal.returns
returns c = record { value = c.output_code.ensures ∙ ap output_code (search rules); out_after = search rules }
