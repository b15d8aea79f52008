-- `planner::ops::sheet::sheet` meets its contract, from what was opened, the starts and the flow.
use mathlib.Core.Path.{sym, ap}
use Prim.Native.Nat.{◌-◌}
use native.Mathlib.Omega.{arith}
use lib.ListN.{length}
use Rattle.crew_sheet.specs.Sheet.{page_bytes, sheet_page}
use Rattle.planner.specs.Faults.{is_fine}
use Rattle.planner.specs.Open.{plan_in}
use Rattle.planner.specs.Starts.{start_numbers}
use Rattle.planner.specs.Flow.{flow_count, record_bytes}
use Rattle.planner.specs.Sheet.{sheet_pages, sheet_out}
use Rattle.planner.proofs.OutputLaws.{passed, refused}
use Rattle.planner.proofs.OpenLaws.{not_read, not_opened, opened_is}
use Rattle.planner.proofs.QuotedNeeds.{opened_fits}
use Rattle.planner.proofs.FlowLaws.{kind_turns}
use Rattle.planner.proofs.SheetFaults.{sheet_kind, sheet_before}
use Rattle.planner.proofs.SheetLaws.{counts, starts_asked, records_asked, print_asked, printed}
use Rattle.planner.proofs.ops.sheet.sheet.Goals as goal

pub returns-in_err-plan : goal.returns-in_err-plan
unfolding sheet_out
returns-in_err-plan c =
    let a = c.args in
    let s = a.s.now in
    let q = plan_in s in
    let w = refused (sheet_pages s a.kind)
    (sheet_page (record_bytes q (a.kind - 1)) (start_numbers s) (flow_count q (a.kind - 1)) a.kind a.page) a.out.now
    (sheet_before s _ a.kind a.page (length a.out.now) (not_read s c.in_err-plan.ensures))
    (passed c.from_residual.ensures) in
    record { value = w.0; out_after = w.1 }

pub returns-in_err-opened : goal.returns-in_err-opened
unfolding sheet_out
returns-in_err-opened c =
    let a = c.args in
    let s = a.s.now in
    let q = plan_in s in
    let w = refused (sheet_pages s a.kind)
    (sheet_page (record_bytes q (a.kind - 1)) (start_numbers s) (flow_count q (a.kind - 1)) a.kind a.page) a.out.now
    (sheet_before s _ a.kind a.page (length a.out.now) (not_opened s _ c.in_err-opened.ensures c.in_ok-plan.ensures))
    (passed c.from_residual-in_err-opened.ensures) in
    record { value = w.0; out_after = w.1 }

pub kind_shown-requires : goal.kind_shown-requires
kind_shown-requires c =
    opened_fits c.args.s.now (opened_is c.args.s.now _ c.in_ok-opened.ensures c.in_ok-plan.ensures).1

pub returns-in_err-kind_shown : goal.returns-in_err-kind_shown
unfolding sheet_out
returns-in_err-kind_shown c =
    let a = c.args in
    let s = a.s.now in
    let q = plan_in s in
    let held = opened_is s _ c.in_ok-opened.ensures c.in_ok-plan.ensures in
    let bytes = c.shared_slice_known-1.given in
    let w = refused (sheet_pages s a.kind)
    (sheet_page (record_bytes q (a.kind - 1)) (start_numbers s) (flow_count q (a.kind - 1)) a.kind a.page) a.out.now
    (sheet_kind s a.kind a.page (length a.out.now) _
    (sym (kind_turns s a.kind a.out.now (λ i. omega (arith, bytes i)) held.1 held.0
    (length a.out.now) page_bytes c.in_err-kind_shown.ensures)))
    (passed c.from_residual-in_err-kind_shown.ensures) in
    record { value = w.0; out_after = w.1 }

pub starts_of-starts-requires : goal.starts_of-starts-requires
starts_of-starts-requires c =
    let a = c.args in
    let held = opened_is a.s.now _ c.in_ok-opened.ensures c.in_ok-plan.ensures in
    let bytes = c.shared_slice_known-1.given in
    starts_asked a.s.now a.kind a.page a.out.now (λ i. omega (arith, bytes i)) held.1
    (sym (ap is_fine (kind_turns a.s.now a.kind a.out.now (λ i. omega (arith, bytes i)) held.1 held.0
    (length a.out.now) page_bytes c.in_ok-kind_shown.ensures)))

pub overflow_sub-kind : goal.overflow_sub-kind
overflow_sub-kind c =
    let a = c.args in
    let held = opened_is a.s.now _ c.in_ok-opened.ensures c.in_ok-plan.ensures in
    let bytes = c.shared_slice_known-1.given in
    counts a.s.now a.kind a.page a.out.now (λ i. omega (arith, bytes i)) held.1
    (sym (ap is_fine (kind_turns a.s.now a.kind a.out.now (λ i. omega (arith, bytes i)) held.1 held.0
    (length a.out.now) page_bytes c.in_ok-kind_shown.ensures)))

pub write_records-n-requires : goal.write_records-n-requires
write_records-n-requires c =
    let a = c.args in
    let held = opened_is a.s.now _ c.in_ok-opened.ensures c.in_ok-plan.ensures in
    let bytes = c.shared_slice_known-1.given in
    records_asked a.s.now a.kind a.page a.out.now (λ i. omega (arith, bytes i)) held.1
    (sym (ap is_fine (kind_turns a.s.now a.kind a.out.now (λ i. omega (arith, bytes i)) held.1 held.0
    (length a.out.now) page_bytes c.in_ok-kind_shown.ensures)))

pub print_page-requires : goal.print_page-requires
print_page-requires c =
    let a = c.args in
    let held = opened_is a.s.now _ c.in_ok-opened.ensures c.in_ok-plan.ensures in
    let bytes = c.shared_slice_known-1.given in
    print_asked a.s.now a.kind a.page a.out.now (λ i. omega (arith, bytes i)) held.1
    (sym (ap is_fine (kind_turns a.s.now a.kind a.out.now (λ i. omega (arith, bytes i)) held.1 held.0
    (length a.out.now) page_bytes c.in_ok-kind_shown.ensures)))
    c.write_records-n.ensures c.starts_of-starts.ensures

pub returns : goal.returns
returns c =
    let a = c.args in
    let held = opened_is a.s.now _ c.in_ok-opened.ensures c.in_ok-plan.ensures in
    let bytes = c.shared_slice_known-1.given in
    let w = printed a.s.now a.kind a.page a.out.now (λ i. omega (arith, bytes i)) held.1
    (sym (ap is_fine (kind_turns a.s.now a.kind a.out.now (λ i. omega (arith, bytes i)) held.1 held.0
    (length a.out.now) page_bytes c.in_ok-kind_shown.ensures)))
    c.write_records-n.ensures c.starts_of-starts.ensures c.print_page.ensures.value c.print_page.ensures.out_after in
    record { value = w.0; out_after = w.1 }
