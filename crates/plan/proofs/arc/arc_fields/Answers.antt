-- `plan::arc::arc_fields` meets its contract, by the tests of the ends.
use mathlib.Core.Path.{sym, ◌∙◌}
use Rattle.words.proofs.Tests.{clash}
use Rattle.plan.specs.Records.{arc_fields}
use Rattle.plan.proofs.arc.arc_fields.Goals.{then-is_end, else-is_end}
use Rattle.plan.proofs.arc.arc_fields.Goals as goal

pub returns-then-is_end-2 : goal.returns-then-is_end-2
unfolding arc_fields
returns-then-is_end-2 c =
    elim c.if-is_end.branch [
      | then-is_end w ↦ rw (
        sym c.is_end.ensures ∙ w.if-is_end.true,
        sym w.is_end-then-is_end.ensures ∙ sym w.value-is
            ∙ c.if-is_end-2.true,
      )
      | else-is_end w ↦ clash c.if-is_end-2.true (w.value-is ∙ w.if-is_end.false)
    ]

pub returns-else-is_end-2 : goal.returns-else-is_end-2
unfolding arc_fields
returns-else-is_end-2 c =
    elim c.if-is_end.branch [
      | then-is_end w ↦ rw (
        sym c.is_end.ensures ∙ w.if-is_end.true,
        sym w.is_end-then-is_end.ensures ∙ sym w.value-is
            ∙ c.if-is_end-2.false,
      ) c.if-is_end-2.false
      | else-is_end w ↦ rw (sym c.is_end.ensures ∙ w.if-is_end.false) c.if-is_end-2.false
    ]
