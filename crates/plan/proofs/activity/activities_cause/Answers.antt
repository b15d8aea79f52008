-- `plan::activity::activities_cause` meets its contract: no record before the place of the loop is refused.
use mathlib.Core.Path.{◌∙◌}
use mathlib.Core.List.{[]}
use native.Mathlib.Omega.{arith}
use lib.ListN.{length, get_or}
use Rattle.plan.specs.Records.{record_at}
use Rattle.plan.specs.Causes.{activity_cause}
use Rattle.plan.proofs.RecordLists.{activity_own}
use Rattle.plan.proofs.RecordRules.{activity_placed}
use Rattle.plan.proofs.ReaderLoops.{passed, given_fine, given_stop, given_again, refusal_end}
use Rattle.plan.proofs.activity.activities_cause.Goals as goal

pub loop-place-init : goal.loop-place-init
loop-place-init c = (omega arith, λ s R k l. absurd (omega arith))

pub returns-in_err-activity_cause-clause-value : goal.returns-in_err-activity_cause-clause-value
returns-in_err-activity_cause-clause-value c =
    λ s R.
    let rs = c.args.found.now in
    let i = c.loop-place.place in
    let found = c.activity_cause.ensures ∙ activity_own (get_or rs i []) (record_at s i) (R i (omega arith)) i in
    rw (passed c.from_residual.ensures)
    (given_stop (length rs) (λ k. activity_cause k (record_at s k)) i (c.loop-place.invariant.1 s R) found
    (omega arith) c.in_err-activity_cause.was)

pub loop-place-preserved : goal.loop-place-preserved
loop-place-preserved c =
    let rs = c.args.found.now in
    let i = c.loop-place.place in (
      activity_placed i (get_or rs i []) (given_fine c.activity_cause.ensures c.in_ok-activity_cause.was),
      λ s R.
          let found = c.activity_cause.ensures ∙ activity_own (get_or rs i []) (record_at s i) (R i (omega arith)) i in
          given_again (length rs) (λ k. activity_cause k (record_at s k)) i
          (c.loop-place.invariant.1 s R) found c.in_ok-activity_cause.was,
    )

pub returns-clause-value : goal.returns-clause-value
returns-clause-value c =
    λ s R.
    refusal_end (length c.args.found.now) (λ k. activity_cause k (record_at s k)) c.loop-place.place
    (c.loop-place.invariant.1 s R) (omega arith) (omega arith)
