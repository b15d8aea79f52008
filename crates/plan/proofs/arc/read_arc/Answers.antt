-- `plan::arc::read_arc` meets its contract: each exit is one way through the chain of rules.
use mathlib.Core.Path.{sym, ◌∙◌}
use native.Mathlib.Omega.{arith}
use Rattle.plan.specs.model.Lists.{type_number}
use Rattle.plan.proofs.ReaderLoops.{passed, rule_err, given_fine, arc_record, arc_stored}
use Rattle.plan.proofs.arc.read_arc.Goals as goal

pub returns-in_err-arc_cause-clause-value : goal.returns-in_err-arc_cause-clause-value
returns-in_err-arc_cause-clause-value c =
    rw (passed c.from_residual.ensures) (sym (rule_err _ _ (sym c.arc_cause.ensures ∙ c.in_err-arc_cause.was)))

pub has_arc-requires : goal.has_arc-requires
has_arc-requires c =
    let a = c.args in
    arc_record (type_number a.of) a.place a.m a.r.now (given_fine c.arc_cause.ensures c.in_ok-arc_cause.was)
    (omega arith) c.requires

pub store_arc-requires : goal.store_arc-requires
store_arc-requires c =
    let a = c.args in
    arc_record (type_number a.of) a.place a.m a.r.now (given_fine c.arc_cause.ensures c.in_ok-arc_cause.was)
    (omega arith) c.requires

pub returns-clause-rows_after : goal.returns-clause-rows_after
returns-clause-rows_after c =
    let a = c.args in
    arc_stored (type_number a.of) a.place a.m a.r.now a.rows.now
    (given_fine c.arc_cause.ensures c.in_ok-arc_cause.was) c.store_arc.ensures
