-- How the report ends: with 9 and nothing written, or with the text at the front.
use mathlib.Core.Path.{◌≡◌, refl, sym, ap, ◌∙◌}
use mathlib.Core.List.{List}
use Prim.Native.Nat.{ℕ, ◌≤◌, ◌<◌}
use native.Mathlib.Nat.{zero-add}
use lib.ListN.{length}
use Rattle.std.specs.Prelude.{Ok, Err}
use Rattle.lines.specs.Text.{Text, text, more}
use Rattle.planner.specs.Faults.{Fault}
use Rattle.planner.specs.Output.{output_of}
use Rattle.planner.specs.declared.Cause.TheVariants.{Short}
use Rattle.planner.proofs.FaultLaws.{short_next, short_none}
use Rattle.planner.proofs.OutputLaws.{output_fine, lent_refused, lent_fine}
use Rattle.report_lines.specs.Report.{text_room, report_of}
use Rattle.yaffledesk.specs.Report.{report_fault, report_answer, report_out}

pub report_refused : (s out : List ℕ) → length out < text_room → (Err (Short text_room) ≡ report_answer s (length out)) × (out ≡ report_out s out)
report_refused s out short =
    let e = short_next (Ok tt) (length out) text_room refl short in (
      sym (ap (λ (f : Fault). output_of f (length (report_of s))) e),
      sym (lent_refused (report_fault (length out)) (Short text_room) (report_of s) out e),
    )

-- what the code holds: n bytes of text are written to the front of `old`, which `new` is now
pub report_written : (s old : List ℕ) {n : ℕ} {new : List ℕ} → text_room ≤ length old → text n new ≡ more (text 0 old) (report_of s)
    → (Ok n ≡ report_answer s (length old)) × (new ≡ report_out s old)
report_written s old {n} {new} fits w =
    let e = short_none (Ok tt) (length old) text_room refl fits in
    let held : text n new ≡ more (text 0 old) (report_of s) = w in (
      ap (λ (t : Text). Ok t.at) held ∙ rw zero-add (sym (output_fine (report_fault (length old)) (length (report_of s)) e)),
      ap (λ (t : Text). t.out) held ∙ rw zero-add (sym (lent_fine (report_fault (length old)) (report_of s) old e)),
    )
