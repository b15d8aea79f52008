-- `plan::file::read_file` meets its contract: what follows the answer on the activities is what
-- the definition has follow it.
use mathlib.Core.Path.{◌≡◌, refl, sym, subst}
use mathlib.Core.List.{List}
use Prim.Native.Nat.{ℕ, ◌-◌}
use native.Mathlib.Omega.{arith}
use lib.ListN.{length}
use Rattle.plan.specs.Records.{record_at, leading}
use Rattle.plan.specs.model.Plans.{empty_plan}
use Rattle.plan.specs.model.Lists.{RecordsOf}
use Rattle.plan.specs.model.Phases.{file_of}
use Rattle.plan.proofs.RecordLists.{front_records, later_records}
use Rattle.plan.proofs.ReaderLoops.{passed, given_on, given_refused}
use Rattle.plan.proofs.file.read_file.Goals.{After-split_at}
use Rattle.plan.proofs.file.read_file.Goals as goal

-- the records are parted: activities, and the rest
module _ (c : After-split_at) (s : List ℕ) (R : RecordsOf s c.args.records.now) where
  abbrev m : ℕ
  m = c.leading_records-m.result

  run : m ≡ leading 1 (length c.args.records.now) s
  run = c.leading_records-m.ensures.value s R

  front : RecordsOf s c.split_at.result.0.now
  front = rw c.split_at.ensures.front
      (front_records s c.args.records.now R m (omega (arith, c.leading_records-m.ensures.upper_bound)))

  rest : RecordsOf (record_at s m) c.split_at.result.1.now
  rest = subst (λ (x : List (List ℕ)). RecordsOf (record_at s m) x) (sym c.split_at.ensures.back)
      (later_records s c.args.records.now R m)

  left : length c.split_at.result.1.now ≡ length c.args.records.now - m
  left = omega (arith, c.split_at.ensures.back_len)

pub returns-in_err-activities_cause : goal.returns-in_err-activities_cause
unfolding file_of
returns-in_err-activities_cause c =
    λ s R.
    let d = (goal.at.returns-in_err-activities_cause c).After-split_at in
    let activities = rw (c.split_at.ensures.front_len, run d s R) at
    (c.activities_cause.ensures.value s (front d s R)) in
    rw (passed c.from_residual.ensures) (given_refused activities _ c.in_err-activities_cause.was)

pub store_durations-requires : goal.store_durations-requires
store_durations-requires c = omega (arith, c.in_ok-activities_cause.ensures.few)

pub store_demands-requires : goal.store_demands-requires
store_demands-requires c = omega (arith, c.in_ok-activities_cause.ensures.few)

pub read_rest-requires : goal.read_rest-requires
unfolding empty_plan
read_rest-requires c =
    (omega (arith, c.in_ok-activities_cause.ensures.few), omega arith, rw c.empty-plan.ensures refl, rw c.empty-plan.ensures refl)

pub returns-in_err-read_rest : goal.returns-in_err-read_rest
unfolding file_of empty_plan
returns-in_err-read_rest c =
    λ s R.
    let d = (goal.at.returns-in_err-read_rest c).After-split_at in
    let len = c.split_at.ensures.front_len in
    let activities = rw (len, run d s R) at (c.activities_cause.ensures.value s (front d s R)) in
    rw (passed c.from_residual-in_err-read_rest.ensures)
    (given_on activities _ c.in_ok-activities_cause.was
    (simp (
      c.in_err-read_rest.was,
      c.store_durations.ensures s (front d s R),
      c.store_demands.ensures s
          (front d s R),
      c.empty-plan.ensures,
      len,
      left d s R,
      run d s R,
    ) at (c.read_rest.ensures _ (rest d s R))))

pub returns : goal.returns
unfolding file_of empty_plan
returns c =
    λ s R.
    let d = (goal.at.returns c).After-split_at in
    let len = c.split_at.ensures.front_len in
    let activities = rw (len, run d s R) at (c.activities_cause.ensures.value s (front d s R)) in
    given_on activities _ c.in_ok-activities_cause.was
    (simp (
      c.in_ok-read_rest.was,
      c.store_durations.ensures s (front d s R),
      c.store_demands.ensures s
          (front d s R),
      c.empty-plan.ensures,
      len,
      left d s R,
      run d s R,
    ) at (c.read_rest.ensures _ (rest d s R)))
