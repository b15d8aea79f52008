-- `plan::activity::activity_cause` meets its contract: each test is the next rule of the chain.
use mathlib.Core.Path.{refl, sym, ◌∙◌}
use Rattle.plan.specs.Causes.{activity_cause}
use Rattle.plan.proofs.ReaderLoops.{passed, rule_err, rule_on, part_is}
use Rattle.plan.proofs.activity.activity_cause.Goals as goal

pub returns-in_err-check : goal.returns-in_err-check
unfolding activity_cause
returns-in_err-check c =
    rw (passed c.from_residual.ensures)
    (sym (rule_err _ _ (rule_err _ _ (rw c.activity_fields.ensures at (sym c.check.ensures ∙ c.in_err-check.was)))))

pub returns-in_err-check-2 : goal.returns-in_err-check-2
unfolding activity_cause
returns-in_err-check-2 c =
    let fields = rw c.activity_fields.ensures at (sym c.check.ensures ∙ c.in_ok-check.was) in
    let timed = rw c.activity_timed.ensures at (sym c.check-2.ensures ∙ c.in_err-check-2.was) in
    rw (passed c.from_residual-in_err-check-2.ensures) (sym (rule_err _ _ (rule_on _ _ fields ∙ timed)))

pub returns : goal.returns
unfolding activity_cause
returns c =
    let fields = rw c.activity_fields.ensures at (sym c.check.ensures ∙ c.in_ok-check.was) in
    let timed = rw c.activity_timed.ensures at (sym c.check-2.ensures ∙ c.in_ok-check-2.was) in
    rw (c.all_zero.ensures, part_is 20 4 24 c.args.r.now refl) at c.check-3.ensures
    ∙ sym (rule_on _ _ (rule_on _ _ fields ∙ timed))
