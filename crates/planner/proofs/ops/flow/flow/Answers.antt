-- `planner::ops::flow::flow` meets its contract, from what was opened and what the solver hands over.
use mathlib.Core.Path.{sym, ap}
use Prim.Native.Nat.{◌-◌}
use native.Mathlib.Omega.{arith}
use lib.ListN.{length}
use Rattle.planner.specs.Faults.{is_fine}
use Rattle.planner.specs.Open.{plan_in}
use Rattle.planner.specs.Flow.{flow_count, record_bytes, flow_out}
use Rattle.planner.proofs.OutputLaws.{passed, refused, done}
use Rattle.planner.proofs.OpenLaws.{not_read, not_opened, opened_is}
use Rattle.planner.proofs.QuotedNeeds.{opened_fits}
use Rattle.planner.proofs.FlowLaws.{flow_turns, positive, flow_asked, written}
use Rattle.planner.proofs.SheetFaults.{flow_before}
use Rattle.planner.proofs.ops.flow.flow.Goals as goal

pub returns-in_err-plan : goal.returns-in_err-plan
unfolding flow_out
returns-in_err-plan c =
    let s = c.args.s.now in
    let k = c.args.kind - 1 in
    let w = refused (flow_count (plan_in s) k) (record_bytes (plan_in s) k) c.args.out.now
    (flow_before s _ c.args.kind (length c.args.out.now) (not_read s c.in_err-plan.ensures))
    (passed c.from_residual.ensures) in
    record { value = w.0; out_after = w.1 }

pub returns-in_err-opened : goal.returns-in_err-opened
unfolding flow_out
returns-in_err-opened c =
    let s = c.args.s.now in
    let k = c.args.kind - 1 in
    let w = refused (flow_count (plan_in s) k) (record_bytes (plan_in s) k) c.args.out.now
    (flow_before s _ c.args.kind (length c.args.out.now) (not_opened s _ c.in_err-opened.ensures c.in_ok-plan.ensures))
    (passed c.from_residual-in_err-opened.ensures) in
    record { value = w.0; out_after = w.1 }

pub flow_length-needed-requires : goal.flow_length-needed-requires
flow_length-needed-requires c =
    (opened_fits c.args.s.now (opened_is c.args.s.now _ c.in_ok-opened.ensures c.in_ok-plan.ensures).1).0

pub kind_shown-requires : goal.kind_shown-requires
kind_shown-requires c =
    opened_fits c.args.s.now (opened_is c.args.s.now _ c.in_ok-opened.ensures c.in_ok-plan.ensures).1

pub returns-in_err-kind_shown : goal.returns-in_err-kind_shown
unfolding flow_out
returns-in_err-kind_shown c =
    let s = c.args.s.now in
    let k = c.args.kind - 1 in
    let held = opened_is s _ c.in_ok-opened.ensures c.in_ok-plan.ensures in
    let bytes = c.shared_slice_known-1.given in
    let w = refused (flow_count (plan_in s) k) (record_bytes (plan_in s) k) c.args.out.now
    (sym (flow_turns s c.args.kind c.args.out.now
    (λ i. omega (arith, bytes i)) held.1 held.0 c.flow_length-needed.ensures c.in_err-kind_shown.ensures))
    (passed c.from_residual-in_err-kind_shown.ensures) in
    record { value = w.0; out_after = w.1 }

pub overflow_sub-kind : goal.overflow_sub-kind
overflow_sub-kind c =
    let s = c.args.s.now in
    let held = opened_is s _ c.in_ok-opened.ensures c.in_ok-plan.ensures in
    let bytes = c.shared_slice_known-1.given in
    positive s c.args.kind c.args.out.now (λ i. omega (arith, bytes i)) held.1
    (sym (ap is_fine (flow_turns s c.args.kind c.args.out.now
    (λ i. omega (arith, bytes i)) held.1 held.0 c.flow_length-needed.ensures c.in_ok-kind_shown.ensures)))

pub write_records-requires : goal.write_records-requires
write_records-requires c =
    let s = c.args.s.now in
    let held = opened_is s _ c.in_ok-opened.ensures c.in_ok-plan.ensures in
    let bytes = c.shared_slice_known-1.given in
    flow_asked s c.args.kind c.args.out.now (λ i. omega (arith, bytes i)) held.1
    (sym (ap is_fine (flow_turns s c.args.kind c.args.out.now
    (λ i. omega (arith, bytes i)) held.1 held.0 c.flow_length-needed.ensures c.in_ok-kind_shown.ensures)))

pub returns : goal.returns
unfolding flow_out
returns c =
    let s = c.args.s.now in
    let k = c.args.kind - 1 in
    let held = opened_is s _ c.in_ok-opened.ensures c.in_ok-plan.ensures in
    let bytes = c.shared_slice_known-1.given in
    let fine = flow_turns s c.args.kind c.args.out.now
    (λ i. omega (arith, bytes i)) held.1 held.0 c.flow_length-needed.ensures c.in_ok-kind_shown.ensures in
    let put = written s c.args.kind c.args.out.now (λ i. omega (arith, bytes i)) held.1
    (sym (ap is_fine fine)) c.write_records.ensures in
    let w = done (flow_count (plan_in s) k) (record_bytes (plan_in s) k) c.args.out.now (sym fine) put.0 put.1 in
    record { value = w.0; out_after = w.1 }
