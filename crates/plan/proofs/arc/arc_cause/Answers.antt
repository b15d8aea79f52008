-- `plan::arc::arc_cause` meets its contract: each test is the next rule of the chain.
use mathlib.Core.Path.{sym, ◌∙◌}
use Rattle.plan.specs.Causes.{arc_cause}
use Rattle.plan.proofs.ReaderLoops.{passed, rule_err, rule_on}
use Rattle.plan.proofs.arc.arc_cause.Goals as goal

pub returns-in_err-check : goal.returns-in_err-check
unfolding arc_cause
returns-in_err-check c =
    let typed = rw c.is_of.ensures at (sym c.check.ensures ∙ c.in_err-check.was) in
    rw (passed c.from_residual.ensures) (sym (rule_err _ _ (rule_err _ _ typed)))

pub returns-in_err-check-2 : goal.returns-in_err-check-2
unfolding arc_cause
returns-in_err-check-2 c =
    let typed = rw c.is_of.ensures at (sym c.check.ensures ∙ c.in_ok-check.was) in
    let fields = rw c.arc_fields.ensures at (sym c.check-2.ensures ∙ c.in_err-check-2.was) in
    rw (passed c.from_residual-in_err-check-2.ensures) (sym (rule_err _ _ (rule_on _ _ typed ∙ fields)))

pub returns : goal.returns
unfolding arc_cause
returns c =
    let typed = rw c.is_of.ensures at (sym c.check.ensures ∙ c.in_ok-check.was) in
    let fields = rw c.arc_fields.ensures at (sym c.check-2.ensures ∙ c.in_ok-check-2.was) in
    rw c.arc_spare.ensures at c.check-3.ensures ∙ sym (rule_on _ _ (rule_on _ _ typed ∙ fields))
