-- `planner::ops::overload::overload` meets its contract, from what was opened and what the kinds need.
use mathlib.Core.Path.{sym, ◌∙◌}
use native.Mathlib.Omega.{arith}
use lib.ListN.{length}
use Rattle.planner.specs.Open.{plan_in}
use Rattle.planner.specs.Overload.{over_count, over_bytes, overload_out}
use Rattle.planner.proofs.OutputLaws.{passed, refused, done}
use Rattle.planner.proofs.OpenLaws.{not_read, not_opened, opened_is}
use Rattle.planner.proofs.QuotedNeeds.{opened_fits}
use Rattle.planner.proofs.OverloadLaws.{overload_before, overload_short, room, counted, written}
use Rattle.planner.proofs.ops.overload.overload.Goals as goal

pub returns-in_err-plan : goal.returns-in_err-plan
unfolding overload_out
returns-in_err-plan c =
    let s = c.args.s.now in
    let w = refused (over_count (plan_in s)) (over_bytes (plan_in s)) c.args.out.now
    (overload_before s (length c.args.out.now) (not_read s c.in_err-plan.ensures)) (passed c.from_residual.ensures) in
    record { value = w.0; out_after = w.1 }

pub returns-in_err-opened : goal.returns-in_err-opened
unfolding overload_out
returns-in_err-opened c =
    let s = c.args.s.now in
    let w = refused (over_count (plan_in s)) (over_bytes (plan_in s)) c.args.out.now
    (overload_before s (length c.args.out.now) (not_opened s _ c.in_err-opened.ensures c.in_ok-plan.ensures))
    (passed c.from_residual-in_err-opened.ensures) in
    record { value = w.0; out_after = w.1 }

pub returns-in_err-enough : goal.returns-in_err-enough
unfolding overload_out
returns-in_err-enough c =
    let s = c.args.s.now in
    let held = opened_is s _ c.in_ok-opened.ensures c.in_ok-plan.ensures in
    let w = refused (over_count (plan_in s)) (over_bytes (plan_in s)) c.args.out.now
    (sym (overload_short s c.args.out.now held.0 c.in_err-enough.ensures))
    (passed c.from_residual-in_err-enough.ensures) in
    record { value = w.0; out_after = w.1 }

pub lowest_overload-over-requires : goal.lowest_overload-over-requires
lowest_overload-over-requires c =
    opened_fits c.args.s.now (opened_is c.args.s.now _ c.in_ok-opened.ensures c.in_ok-plan.ensures).1

pub put_overload-requires : goal.put_overload-requires
put_overload-requires c =
    let s = c.args.s.now in
    room s c.args.out.now (opened_is s _ c.in_ok-opened.ensures c.in_ok-plan.ensures).0
    (overload_short s c.args.out.now
    (opened_is s _ c.in_ok-opened.ensures c.in_ok-plan.ensures).0 c.in_ok-enough.ensures)

pub returns : goal.returns
unfolding overload_out
returns c =
    let s = c.args.s.now in
    let held = opened_is s _ c.in_ok-opened.ensures c.in_ok-plan.ensures in
    let bytes = c.shared_slice_known-1.given in
    let shown = counted s c.args.out.now held.0 (λ i. omega (arith, bytes i)) held.1 c.lowest_overload-over.ensures in
    let put = written s c.args.out.now held.0 (λ i. omega (arith, bytes i)) held.1 c.lowest_overload-over.ensures in
    let w = done (over_count (plan_in s)) (over_bytes (plan_in s)) c.args.out.now
    (sym (overload_short s c.args.out.now held.0 c.in_ok-enough.ensures))
    (c.put_overload.ensures.0 ∙ shown) (c.put_overload.ensures.1 ∙ put) in
    record { value = w.0; out_after = w.1 }
