-- Milestones: a readable file's demand nobody, and what 12 means.
use mathlib.Core.Path.{◌≡◌, refl, ◌∙◌, subst}
use mathlib.Core.Bool.{Bool, true, false, not, ◌||◌}
use mathlib.Core.List.{List}
use Prim.Native.Nat.{ℕ, ◌<◌}
use native.Mathlib.Omega.{arith}
use lib.ListN.{length}
use lib.Dec.{ltb}
use borrow.Author.Tests.{lt-ltb, le-ltb, ltb-true, ltb-false}
use Rattle.words.proofs.Tests.{by_test, clash}
use Rattle.words.proofs.Firsts.{some_found, some_here}
use Rattle.std.specs.Prelude.{Err}
use Rattle.plan.specs.declared.Cause.{Cause}
use Rattle.plan.specs.declared.Cause.TheVariants.{MilestoneDemand}
use Rattle.plan.specs.Records.{record_at, activity_count, activity_fields, activity_timed, demand_in, demands_some, duration_in}
use Rattle.plan.specs.Causes.{rule, activity_cause, is_length, answer_of}
use Rattle.plan.specs.Numbers.{told_by, place_of}
use Rattle.plan.specs.Meaning.{Readable, Milestone, file_duration, file_demand}
use Rattle.plan.specs.Refused.{FirstFault, DemandingMilestone}
use Rattle.plan.proofs.RecordRules.{rule_kept, rule_before, at_activity, cause_holds}
use Rattle.plan.proofs.Parts.{activities_within, activity_fine}
use Rattle.plan.proofs.Said.{readable_faultless}
use Rattle.plan.proofs.Refused.{refused_holds, fault_refused}

-- ---- the rule: what is demanded is demanded for some time

-- it is broken exactly where a record takes no time and demands something of one of the eight kinds
not_timed : (r : List ℕ) (k : ℕ) → k < 8 → duration_in r ≡ 0 → 0 < demand_in r k → activity_timed r ≡ false
unfolding demands_some
not_timed r k h z d = rw (le-ltb 0 (duration_in r) (omega arith), some_here 8 (λ x. ltb 0 (demand_in r x)) k h (lt-ltb 0 (demand_in r k) d)) refl

timed_not : (r : List ℕ) → activity_timed r ≡ false → (duration_in r ≡ 0) × ((k : ℕ) × (k < 8) × (0 < demand_in r k))
unfolding demands_some
timed_not r e =
    let w = go (ltb 0 (duration_in r)) (demands_some r) e in
    let f = some_found 8 (λ k. ltb 0 (demand_in r k)) w.1 in
    (omega (arith, ltb-false 0 (duration_in r) w.0), (f.0, f.1, ltb-true 0 (demand_in r f.0) f.2))
  where
    go : (a b : Bool) → a || not b ≡ false → (a ≡ false) × (b ≡ true)
    go true b e = clash refl e
    go false true e = (refl, refl)
    go false false e = clash refl e

-- A READABLE FILE'S MILESTONES DEMAND NOBODY
pub milestone_idle : (s : List ℕ) → Readable s → (i k : ℕ) → i < activity_count s → k < 8 → Milestone s i
    → file_demand s k i ≡ 0
unfolding file_duration file_demand activity_cause
milestone_idle s e i k h l z =
    let r = record_at s i in
    by_test (ltb 0 (demand_in r k))
    (λ t. clash (rule_kept _ _ _ (rule_before _ _ _ (activity_fine s (readable_faultless s e) i h))) (not_timed r k l z (ltb-true 0 (demand_in r k) t)))
    (λ t. omega (arith, ltb-false 0 (demand_in r k) t))

-- ---- 12 OF A FILE, both ways

pub demanding_refused : (s : List ℕ) (p : ℕ) → DemandingMilestone s p → answer_of s ≡ Err (MilestoneDemand p)
unfolding file_duration file_demand activity_cause rule
demanding_refused s p D =
    fault_refused s p (MilestoneDemand p) D.legal
    (record {
      there = omega (arith, D.activity, activities_within s);
      fault = at_activity s p D.activity ∙ rw (D.fields, not_timed (record_at s p) D.kind D.one_of_eight D.timeless D.demands) refl;
      refused = refl;
      before = D.before;
    })

pub refused_demanding : (s : List ℕ) (p : ℕ) → answer_of s ≡ Err (MilestoneDemand p) → DemandingMilestone s p
unfolding file_duration file_demand
refused_demanding s p e =
    refused_holds Means s (MilestoneDemand p) (λ q. omega arith) (λ q. omega arith) e
    (λ legal q F. cause_holds Means s q (λ x. absurd (omega arith)) (λ x. absurd (omega arith)) (at_record legal q F) (λ x. absurd (omega arith)) (λ _ _ _ x. absurd (omega arith))) refl refl
  where
    Means : Cause → Type 0
    Means c = (told_by c).number ≡ 12 → place_of (told_by c) ≡ p → DemandingMilestone s p

    at_record : is_length (length s) ≡ true → (q : ℕ) → FirstFault s q (Err (MilestoneDemand p)) → q < activity_count s
        → activity_fields q (record_at s q) ≡ true
        → activity_timed (record_at s q) ≡ false → Means (MilestoneDemand q)
    at_record legal q F activity fields broken _ here =
        let d = timed_not (record_at s q) broken in
        subst (DemandingMilestone s) here
        (record {
          legal = legal;
          before = F.before;
          activity = activity;
          fields = fields;
          timeless = d.0;
          kind = d.1.0;
          one_of_eight = d.1.1;
          demands = d.1.2;
        })
