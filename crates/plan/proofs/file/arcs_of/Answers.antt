-- `plan::file::arcs_of` meets its contract: the arcs follow the activities and the crew record.
use mathlib.Core.Path.{◌≡◌, ap, ◌∙◌}
use Prim.Native.Nat.{ℕ, ◌+◌, ◌≤◌}
use native.Mathlib.Omega.{arith}
use lib.ListN.{length}
use Rattle.plan.specs.Records.{activity_count, leading}
use Rattle.plan.proofs.RecordLists.{later_records}
use Rattle.plan.proofs.Waits.{arcs_there}
use Rattle.plan.proofs.file.arcs_of.Goals.{After-leading_records-m}
use Rattle.plan.proofs.file.arcs_of.Goals as goal

-- the activities are counted
module _ (c : After-leading_records-m) where
  counted : c.leading_records-m.result ≡ activity_count c.args.s.now
  counted =
      c.leading_records-m.ensures.value c.args.s.now c.records_of-records.ensures.value
      ∙ ap (λ (n : ℕ). leading 1 n c.args.s.now) c.records_of-records.ensures.number

  there : c.leading_records-m.result + 1 ≤ length c.records_of-records.result.now
  there = omega (arith, counted, arcs_there c.args.s.now c.requires, c.records_of-records.ensures.number)

pub split_at-requires : goal.split_at-requires
split_at-requires c = there (goal.at.split_at-requires c).After-leading_records-m

pub returns-clause-value : goal.returns-clause-value
returns-clause-value c =
    let s = c.args.s.now in
    let h = counted (goal.at.returns-clause-value c).After-leading_records-m in
    rw (c.split_at.ensures.back, h)
    (later_records s c.records_of-records.result.now c.records_of-records.ensures.value (activity_count s + 1))

pub returns-clause-number : goal.returns-clause-number
returns-clause-number c =
    let h = counted (goal.at.returns-clause-number c).After-leading_records-m in
    omega (arith, h, c.split_at.ensures.back_len, c.records_of-records.ensures.number)
