-- `planner::ops::trim::trim` meets its contract, from what was opened, what is left of the extra arcs and what was
-- written.
use mathlib.Core.Path.{sym, ap}
use native.Mathlib.Omega.{arith}
use lib.ListN.{length}
use Rattle.plan.specs.Records.{record_count}
use Rattle.planner.specs.Faults.{is_fine}
use Rattle.planner.specs.Trim.{trimmed_file, trim_out}
use Rattle.planner.proofs.OutputLaws.{passed, refused, done}
use Rattle.planner.proofs.OpenLaws.{not_read, not_opened, opened_is}
use Rattle.planner.proofs.QuotedNeeds.{opened_fits}
use Rattle.planner.proofs.TrimLaws.{trim_before, trim_nine, trim_seven, left_asked, write_asked, written}
use Rattle.planner.proofs.ops.trim.trim.Goals as goal

pub returns-in_err-plan : goal.returns-in_err-plan
unfolding trim_out
returns-in_err-plan c =
    let s = c.args.s.now in
    let w = refused (record_count (trimmed_file s)) (trimmed_file s) c.args.out.now
    (trim_before s (length c.args.out.now) _ (not_read s c.in_err-plan.ensures)) (passed c.from_residual.ensures) in
    record { value = w.0; out_after = w.1 }

pub returns-in_err-opened : goal.returns-in_err-opened
unfolding trim_out
returns-in_err-opened c =
    let s = c.args.s.now in
    let w = refused (record_count (trimmed_file s)) (trimmed_file s) c.args.out.now
    (trim_before s (length c.args.out.now) _ (not_opened s _ c.in_err-opened.ensures c.in_ok-plan.ensures))
    (passed c.from_residual-in_err-opened.ensures) in
    record { value = w.0; out_after = w.1 }

pub returns-in_err-enough : goal.returns-in_err-enough
unfolding trim_out
returns-in_err-enough c =
    let s = c.args.s.now in
    let held = opened_is s _ c.in_ok-opened.ensures c.in_ok-plan.ensures in
    let bytes = c.shared_slice_known-1.given in
    let w = refused (record_count (trimmed_file s)) (trimmed_file s) c.args.out.now
    (trim_nine s c.args.out.now (λ i. omega (arith, bytes i)) held.0 held.1 c.in_err-enough.ensures)
    (passed c.from_residual-in_err-enough.ensures) in
    record { value = w.0; out_after = w.1 }

pub not_overloaded-requires : goal.not_overloaded-requires
not_overloaded-requires c =
    opened_fits c.args.s.now (opened_is c.args.s.now _ c.in_ok-opened.ensures c.in_ok-plan.ensures).1

pub returns-in_err-not_overloaded : goal.returns-in_err-not_overloaded
unfolding trim_out
returns-in_err-not_overloaded c =
    let s = c.args.s.now in
    let held = opened_is s _ c.in_ok-opened.ensures c.in_ok-plan.ensures in
    let bytes = c.shared_slice_known-1.given in
    let w = refused (record_count (trimmed_file s)) (trimmed_file s) c.args.out.now
    (sym (trim_seven s c.args.out.now
    (λ i. omega (arith, bytes i)) held.0 held.1 c.in_ok-enough.ensures c.in_err-not_overloaded.ensures))
    (passed c.from_residual-in_err-not_overloaded.ensures) in
    record { value = w.0; out_after = w.1 }

pub extra_left-extra-requires : goal.extra_left-extra-requires
extra_left-extra-requires c =
    let s = c.args.s.now in
    let held = opened_is s _ c.in_ok-opened.ensures c.in_ok-plan.ensures in
    let bytes = c.shared_slice_known-1.given in
    left_asked s c.args.out.now (λ i. omega (arith, bytes i)) held.0 held.1
    (sym (ap is_fine (trim_seven s c.args.out.now
    (λ i. omega (arith, bytes i)) held.0 held.1 c.in_ok-enough.ensures c.in_ok-not_overloaded.ensures)))

pub write_staying-requires : goal.write_staying-requires
write_staying-requires c =
    let s = c.args.s.now in
    let held = opened_is s _ c.in_ok-opened.ensures c.in_ok-plan.ensures in
    let bytes = c.shared_slice_known-1.given in
    write_asked s c.args.out.now (λ i. omega (arith, bytes i)) held.0 held.1
    (sym (ap is_fine (trim_seven s c.args.out.now
    (λ i. omega (arith, bytes i)) held.0 held.1 c.in_ok-enough.ensures c.in_ok-not_overloaded.ensures)))

pub returns : goal.returns
unfolding trim_out
returns c =
    let s = c.args.s.now in
    let held = opened_is s _ c.in_ok-opened.ensures c.in_ok-plan.ensures in
    let bytes = c.shared_slice_known-1.given in
    let fine = trim_seven s c.args.out.now
    (λ i. omega (arith, bytes i)) held.0 held.1 c.in_ok-enough.ensures c.in_ok-not_overloaded.ensures in
    let put = written s c.args.out.now (λ i. omega (arith, bytes i)) held.0 held.1
    (sym (ap is_fine fine)) c.extra_left-extra.ensures c.write_staying.ensures.value c.write_staying.ensures.out_after in
    let w = done (record_count (trimmed_file s)) (trimmed_file s) c.args.out.now (sym fine) put.0 put.1 in
    record { value = w.0; out_after = w.1 }
