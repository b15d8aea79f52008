-- `planner::ops::starts::starts` meets its contract, from what was opened and what the schedule gave.
use mathlib.Core.Path.{sym}
use native.Mathlib.Omega.{arith}
use lib.ListN.{length}
use Rattle.planner.specs.Starts.{needed, start_numbers, starts_out}
use Rattle.planner.proofs.OutputLaws.{passed, refused, done_over}
use Rattle.planner.proofs.OpenLaws.{not_read, not_opened, opened_is, opens_readable}
use Rattle.planner.proofs.QuotedNeeds.{opened_fits}
use Rattle.planner.proofs.StartsLaws.{length_numbers, starts_before, starts_short, counted, written, room, free, small, fits}
use Rattle.planner.proofs.ops.starts.starts.Goals as goal

pub returns-in_err-plan : goal.returns-in_err-plan
unfolding starts_out
returns-in_err-plan c =
    let s = c.args.s.now in
    let w = refused (needed s) (start_numbers s) c.args.out.now
    (starts_before s (length c.args.out.now) (not_read s c.in_err-plan.ensures)) (passed c.from_residual.ensures) in
    record { value = w.0; out_after = w.1 }

pub returns-in_err-opened : goal.returns-in_err-opened
unfolding starts_out
returns-in_err-opened c =
    let s = c.args.s.now in
    let w = refused (needed s) (start_numbers s) c.args.out.now
    (starts_before s (length c.args.out.now) (not_opened s _ c.in_err-opened.ensures c.in_ok-plan.ensures))
    (passed c.from_residual-in_err-opened.ensures) in
    record { value = w.0; out_after = w.1 }

pub overflow_add-needed : goal.overflow_add-needed
overflow_add-needed c = record {
  fits = omega
      (arith, (opened_fits c.args.s.now (opened_is c.args.s.now _ c.in_ok-opened.ensures c.in_ok-plan.ensures).1).0);
}

pub returns-in_err-enough : goal.returns-in_err-enough
unfolding starts_out
returns-in_err-enough c =
    let s = c.args.s.now in
    let held = opened_is s _ c.in_ok-opened.ensures c.in_ok-plan.ensures in
    let w = refused (needed s) (start_numbers s) c.args.out.now
    (sym (starts_short s c.args.out.now held.0 held.1 c.in_err-enough.ensures))
    (passed c.from_residual-in_err-enough.ensures) in
    record { value = w.0; out_after = w.1 }

pub first_starts-first-requires : goal.first_starts-first-requires
first_starts-first-requires c =
    let s = c.args.s.now in
    let held = opened_is s _ c.in_ok-opened.ensures c.in_ok-plan.ensures in
    let bytes = c.shared_slice_known-1.given in (
      opens_readable s held.0,
      free s c.args.out.now held.0 held.1,
      small s c.args.out.now held.0 held.1
          (λ i. omega (arith, bytes i)),
    )

pub end_start-end-requires : goal.end_start-end-requires
end_start-end-requires c =
    let s = c.args.s.now in
    let held = opened_is s _ c.in_ok-opened.ensures c.in_ok-plan.ensures in
    let bytes = c.shared_slice_known-1.given in
    record {
      m_le_elements = (opened_fits s held.1).0;
      finishes_fit = fits s c.args.out.now held.0 held.1
          (λ i. omega (arith, bytes i)) c.first_starts-first.ensures;
    }

pub put_starts-requires : goal.put_starts-requires
put_starts-requires c =
    let s = c.args.s.now in
    let held = opened_is s _ c.in_ok-opened.ensures c.in_ok-plan.ensures in (
      (opened_fits s held.1).0,
      room s c.args.out.now held.0 held.1
          (starts_short s c.args.out.now held.0 held.1 c.in_ok-enough.ensures),
    )

pub returns : goal.returns
unfolding starts_out
returns c =
    let s = c.args.s.now in
    let held = opened_is s _ c.in_ok-opened.ensures c.in_ok-plan.ensures in
    let w = done_over (needed s) (start_numbers s) c.args.out.now
    (sym (starts_short s c.args.out.now held.0 held.1 c.in_ok-enough.ensures))
    (counted s c.args.out.now held.0 held.1) (length_numbers s)
    (written s c.args.out.now held.0 held.1 c.first_starts-first.ensures c.end_start-end.ensures c.put_starts.ensures) in
    record { value = w.0; out_after = w.1 }
