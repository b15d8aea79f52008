-- `planner::ops::needs::needs` meets its contract, from what was opened and what the kinds need.
use mathlib.Core.Path.{◌≡◌, sym, ap, ◌∙◌}
use mathlib.Core.List.{List, ◌++◌}
use Prim.Native.Nat.{ℕ, ◌≤◌}
use native.Mathlib.Omega.{arith}
use lib.ListN.{length, drop}
use lib.Seq.{length-take-le}
use borrow.Author.Rules.{rules}
use Rattle.planner.specs.Open.{plan_in}
use Rattle.planner.specs.Needs.{need_numbers, needs_out}
use Rattle.planner.proofs.OutputLaws.{passed, refused, done_over}
use Rattle.planner.proofs.OpenLaws.{not_read, not_opened, opened_is}
use Rattle.planner.proofs.QuotedNeeds.{opened_fits}
use Rattle.planner.proofs.NeedsLaws.{length_numbers, needs_before, needs_short, room, counted, written}
use Rattle.planner.proofs.ops.needs.needs.Goals.{After-numbers-1}
use Rattle.planner.proofs.ops.needs.needs.Goals as goal

pub returns-in_err-plan : goal.returns-in_err-plan
unfolding needs_out
returns-in_err-plan c =
    let s = c.args.s.now in
    let w = refused (plan_in s).kinds (need_numbers s) c.args.out.now
    (needs_before s (length c.args.out.now) (not_read s c.in_err-plan.ensures)) (passed c.from_residual.ensures) in
    record { value = w.0; out_after = w.1 }

pub returns-in_err-opened : goal.returns-in_err-opened
unfolding needs_out
returns-in_err-opened c =
    let s = c.args.s.now in
    let w = refused (plan_in s).kinds (need_numbers s) c.args.out.now
    (needs_before s (length c.args.out.now) (not_opened s _ c.in_err-opened.ensures c.in_ok-plan.ensures))
    (passed c.from_residual-in_err-opened.ensures) in
    record { value = w.0; out_after = w.1 }

pub returns-in_err-enough : goal.returns-in_err-enough
unfolding needs_out
returns-in_err-enough c =
    let s = c.args.s.now in
    let held = opened_is s _ c.in_ok-opened.ensures c.in_ok-plan.ensures in
    let w = refused (plan_in s).kinds (need_numbers s) c.args.out.now
    (sym (needs_short s c.args.out.now held.0 held.1 c.in_err-enough.ensures))
    (passed c.from_residual-in_err-enough.ensures) in
    record { value = w.0; out_after = w.1 }

pub needs_of-numbers-requires : goal.needs_of-numbers-requires
needs_of-numbers-requires c =
    opened_fits c.args.s.now (opened_is c.args.s.now _ c.in_ok-opened.ensures c.in_ok-plan.ensures).1

-- the needs have room for a number of each kind
numbers_room : (c : After-numbers-1) → c.in_ok-opened.opened.plan.now.kinds ≤ length c.needs_of-numbers.result
numbers_room c =
    let few = opened_fits c.args.s.now (opened_is c.args.s.now _ c.in_ok-opened.ensures c.in_ok-plan.ensures).1 in
    let long : length c.needs_of-numbers.result ≡ 8 = search rules in
    omega (arith, few.1)

pub slice_bounds-numbers-end : goal.slice_bounds-numbers-end
slice_bounds-numbers-end c =
    let few = opened_fits c.args.s.now (opened_is c.args.s.now _ c.in_ok-opened.ensures c.in_ok-plan.ensures).1 in
    let long : length c.needs_of-numbers.result ≡ 8 = search rules in
    omega (arith, few.1)

pub slice_bounds-copy_from_slice-end-3 : goal.slice_bounds-copy_from_slice-end-3
slice_bounds-copy_from_slice-end-3 c = sym (length-take-le _ c.needs_of-numbers.result (numbers_room c))

pub copy_from_slice-requires : goal.copy_from_slice-requires
copy_from_slice-requires c =
    let s = c.args.s.now in
    let held = opened_is s _ c.in_ok-opened.ensures c.in_ok-plan.ensures in
    length-take-le _ c.args.out.now
    (room s c.args.out.now held.0 held.1 (needs_short s c.args.out.now held.0 held.1 c.in_ok-enough.ensures))
    ∙ sym (length-take-le _ c.needs_of-numbers.result (numbers_room c))

pub returns : goal.returns
unfolding needs_out
returns c =
    let s = c.args.s.now in
    let held = opened_is s _ c.in_ok-opened.ensures c.in_ok-plan.ensures in
    let w = done_over (plan_in s).kinds (need_numbers s) c.args.out.now
    (sym (needs_short s c.args.out.now held.0 held.1 c.in_ok-enough.ensures))
    (counted s c.args.out.now held.0 held.1) (length_numbers s)
    (written s c.args.out.now held.0 held.1
    (λ i. omega (arith, c.shared_slice_known-1.given i)) c.needs_of-numbers.ensures
    (ap (λ (l : List ℕ). l ++ drop c.in_ok-opened.opened.plan.now.kinds c.args.out.now) c.copy_from_slice.ensures.after)) in
    record { value = w.0; out_after = w.1 }
