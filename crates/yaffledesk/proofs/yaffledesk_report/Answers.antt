-- `yaffledesk::yaffledesk_report` meets its contract: the code of the answer, which is small; what was lent
-- is as `write_report` left it.
use mathlib.Core.Path.{ap, ◌∙◌}
use native.Mathlib.Omega.{arith}
use lib.ListN.{length}
use Rattle.yaffledesk.specs.Report.{report_answer}
use Rattle.yaffledesk.specs.Codes.{output_code}
use Rattle.yaffledesk.proofs.CodeBounds.{report_small, same_small}
use borrow.Author.Rules.{rules}
use Rattle.yaffledesk.proofs.yaffledesk_report.Goals as goal

pub output_code-requires : goal.output_code-requires
output_code-requires c =
    let a = c.args in
    same_small (report_answer a.plan.now (length a.out.now)) (search rules)
    (report_small a.plan.now (λ i. omega (arith, c.shared_slice_known-1.given i)) (length a.out.now))

pub returns : goal.returns
returns c = record { value = c.output_code.ensures ∙ ap output_code (search rules); out_after = search rules }
