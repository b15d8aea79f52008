-- `report_lines::text::report_text` meets its contract: what was put down is the report, in what was lent.
use mathlib.Core.Path.{sym, ap, ◌∙◌}
use Rattle.lines.specs.Text.{text}
use Rattle.report_lines.proofs.Whole.{counts_within}
use Rattle.report_lines.proofs.text.report_text.Goals as goal

pub returns : goal.returns
returns c =
    let w = c.put_report in
    let e = c.out-1.given.1.1 (sym w.ensures.same_reference) in
    record {
      out_after = ap (text w.new.draft.at) e ∙ w.ensures.written;
      counts = counts_within _ _ (rw e w.ensures.upper_bound);
    }
