-- `planner::ops::crew_check::crew_check` meets its contract, from what was opened and what the schedule gave.
use mathlib.Core.Path.{sym, ap, ◌∙◌}
use Rattle.planner.specs.Faults.{Fault}
use Rattle.planner.specs.CrewCheck.{crew_found, checked_of}
use Rattle.planner.proofs.OutputLaws.{passed}
use Rattle.planner.proofs.OpenLaws.{not_read, not_opened, opened_is}
use Rattle.planner.proofs.QuotedNeeds.{opened_fits}
use Rattle.planner.proofs.CrewCheckLaws.{crew_before, crew_refused, looks, crew_done}
use Rattle.planner.proofs.ops.crew_check.crew_check.Goals as goal

pub returns-in_err-plan : goal.returns-in_err-plan
returns-in_err-plan c =
    let a = c.args in
    passed c.from_residual.ensures
    ∙ sym (ap (λ (f : Fault). checked_of f (crew_found a.s.now a.starts.now a.worked.now))
    (crew_before a.s.now a.starts.now a.worked.now (not_read a.s.now c.in_err-plan.ensures)))

pub returns-in_err-opened : goal.returns-in_err-opened
returns-in_err-opened c =
    let a = c.args in
    passed c.from_residual-in_err-opened.ensures
    ∙ sym (ap (λ (f : Fault). checked_of f (crew_found a.s.now a.starts.now a.worked.now))
    (crew_before a.s.now a.starts.now a.worked.now
    (not_opened a.s.now _ c.in_err-opened.ensures c.in_ok-plan.ensures)))

pub bad_lists-requires : goal.bad_lists-requires
bad_lists-requires c =
    (opened_fits c.args.s.now (opened_is c.args.s.now _ c.in_ok-opened.ensures c.in_ok-plan.ensures).1).0

pub returns-then-bad_lists : goal.returns-then-bad_lists
returns-then-bad_lists c =
    let a = c.args in
    let held = opened_is a.s.now _ c.in_ok-opened.ensures c.in_ok-plan.ensures in
    crew_refused a.s.now a.starts.now a.worked.now held.0 held.1 c.bad_lists.ensures c.if-bad_lists.true

pub found_in-requires : goal.found_in-requires
found_in-requires c =
    let a = c.args in
    let held = opened_is a.s.now _ c.in_ok-opened.ensures c.in_ok-plan.ensures in
    looks a.s.now a.starts.now a.worked.now held.0 held.1 c.bad_lists.ensures c.if-bad_lists.false

pub returns : goal.returns
returns c =
    let a = c.args in
    let held = opened_is a.s.now _ c.in_ok-opened.ensures c.in_ok-plan.ensures in
    crew_done a.s.now a.starts.now a.worked.now held.0 held.1 c.bad_lists.ensures c.if-bad_lists.false c.found_in.ensures
