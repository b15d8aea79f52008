-- `planner::ops::verdict::verdict` meets its contract, from what was opened and what the kinds need.
use mathlib.Core.Path.{sym, ap, ◌∙◌}
use native.Mathlib.Omega.{arith}
use Rattle.planner.specs.Faults.{Fault}
use Rattle.planner.specs.Results.{accepted}
use Rattle.planner.specs.Open.{plan_in}
use Rattle.planner.specs.Verdict.{verdict_of}
use Rattle.planner.specs.model.Opening.{Held}
use Rattle.planner.proofs.OutputLaws.{passed}
use Rattle.planner.proofs.OpenLaws.{not_read, not_opened, opened_is}
use Rattle.planner.proofs.QuotedNeeds.{opened_fits}
use Rattle.planner.proofs.VerdictLaws.{verdict_before, verdict_over}
use Rattle.planner.proofs.ops.verdict.verdict.Goals as goal

pub returns-in_err-plan : goal.returns-in_err-plan
returns-in_err-plan c =
    let s = c.args.s.now in
    passed c.from_residual.ensures
    ∙ sym (ap (λ (f : Fault). verdict_of f (plan_in s).count (plan_in s).kinds) (verdict_before s (not_read s c.in_err-plan.ensures)))

pub returns-in_err-opened : goal.returns-in_err-opened
returns-in_err-opened c =
    let s = c.args.s.now in
    passed c.from_residual-in_err-opened.ensures
    ∙ sym (ap (λ (f : Fault). verdict_of f (plan_in s).count (plan_in s).kinds) (verdict_before s (not_opened s _ c.in_err-opened.ensures c.in_ok-plan.ensures)))

pub not_overloaded-requires : goal.not_overloaded-requires
not_overloaded-requires c =
    opened_fits c.args.s.now (opened_is c.args.s.now _ c.in_ok-opened.ensures c.in_ok-plan.ensures).1

pub returns-in_err-not_overloaded : goal.returns-in_err-not_overloaded
returns-in_err-not_overloaded c =
    let s = c.args.s.now in
    let held = opened_is s _ c.in_ok-opened.ensures c.in_ok-plan.ensures in
    let bytes = c.shared_slice_known-1.given in
    passed c.from_residual-in_err-not_overloaded.ensures
    ∙ ap (λ (f : Fault). verdict_of f (plan_in s).count (plan_in s).kinds)
    (verdict_over s (λ i. omega (arith, bytes i)) held.0 held.1 c.in_err-not_overloaded.ensures)

pub returns : goal.returns
returns c =
    let s = c.args.s.now in
    let held = opened_is s _ c.in_ok-opened.ensures c.in_ok-plan.ensures in
    let bytes = c.shared_slice_known-1.given in
    ap (λ (o : Held). accepted o.plan.count o.plan.kinds) held.1
    ∙ ap (λ (f : Fault). verdict_of f (plan_in s).count (plan_in s).kinds)
    (verdict_over s (λ i. omega (arith, bytes i)) held.0 held.1 c.in_ok-not_overloaded.ensures)
