-- The parts of a file none of whose records has a cause: activities, the crew, job arcs, extra arcs.
use mathlib.Core.Path.{◌≡◌, refl, sym, ap, ◌∙◌, subst}
use mathlib.Core.Bool.{true, false, false≢true}
use mathlib.Core.List.{List}
use mathlib.Core.Logic.{◌⊎◌, ⊎_elim, ◌≢◌}
use Prim.Native.Nat.{ℕ, ◌+◌, ◌-◌, ◌≤◌, ◌<◌}
use native.Mathlib.Nat.{eq-or-lt_of_le}
use native.Mathlib.Omega.{arith}
use native.Mathlib.Decide.{dec_lt}
use lib.ListN.{replicate}
use borrow.Author.Tests.{eq-eqb, ne_eqb}
use Rattle.words.specs.model.Loops.{upto}
use Rattle.words.proofs.Tests.{cond_true, cond_false, false_of_not}
use Rattle.records.specs.Bytes.{byte}
use Rattle.order.specs.Stored.{elements, cells}
use Rattle.std.specs.Prelude.{Ok, Err}
use Rattle.plan.specs.declared.Cause.TheVariants.{RecordType}
use Rattle.plan.specs.Records.{record_at, record_count, type_at, activity_count, job_count, due_type, activities, arc_repeats, demands_of}
use Rattle.plan.specs.model.ArcRows.{arcs_up_to, arc_rows}
use Rattle.plan.specs.Causes.{Answer, is_readable, activity_cause, cause_at, first_refusal, followed_by, crew_there, records_cause}
use Rattle.plan.specs.model.Phases.{put_arc}
use Rattle.plan.proofs.Refusals.{followed_left, followed_right, all_readable, none_refused}
use Rattle.plan.proofs.Places.{record_on, leading_le, leading_typed}
use Rattle.plan.proofs.RecordRules.{rule_kept, rule_before, few_activities, CrewKept, crew_kept, ArcKept, arc_kept, at_activity, at_crew, at_arc, due_extra}
use Rattle.plan.proofs.Arcs.{arcs_none, arcs_none_before, arcs_run}

-- no record has a cause, and the crew record is there
pub record Faultless (s : List ℕ) : Type 0 where
  pub fine : (p : ℕ) → p < record_count s → is_readable (cause_at s p) ≡ true
  pub crewed : activity_count s < record_count s

pub activities_within : (s : List ℕ) → activity_count s ≤ record_count s
activities_within s = leading_le 1 (record_count s) s

-- the missing crew record
pub crew_missing : (s : List ℕ) → activity_count s ≡ record_count s → crew_there s ≡ Err (RecordType (record_count s))
crew_missing s e = cond_true (Err (RecordType (record_count s))) (Ok tt) (eq-eqb (activity_count s) (record_count s) e)

pub crew_there_lem : (s : List ℕ) → activity_count s < record_count s → crew_there s ≡ Ok tt
crew_there_lem s h = cond_false (Err (RecordType (record_count s))) (Ok tt)
    (ne_eqb (activity_count s) (record_count s) (λ e. omega arith))

pub crew_or_missing : (s : List ℕ) → (activity_count s ≡ record_count s) ⊎ (activity_count s < record_count s)
crew_or_missing s = eq-or-lt_of_le (activities_within s)

-- that is what it says that the records have no cause, and the other way round
pub faultless : (s : List ℕ) → is_readable (records_cause s) ≡ true → Faultless s
unfolding records_cause
faultless s e =
    let f = followed_left (first_refusal (record_count s) (cause_at s)) (crew_there s) e in
    let c = followed_right (first_refusal (record_count s) (cause_at s)) (crew_there s) e in
    record {
      fine = all_readable (record_count s) (cause_at s) f;
      crewed = ⊎_elim (λ q. absurd (false≢true (sym (ap is_readable (crew_missing s q)) ∙ c))) (λ l. l) (crew_or_missing s);
    }

pub faultless_says : (s : List ℕ) → Faultless s → records_cause s ≡ Ok tt
unfolding records_cause
faultless_says s F = ap (λ (a : Answer). followed_by a (crew_there s)) (none_refused (record_count s) (cause_at s) F.fine) ∙ crew_there_lem s F.crewed

-- ---- the records, by their places

pub activity_typed : (s : List ℕ) (p : ℕ) → p < activity_count s → type_at s p ≡ 1
activity_typed s p h = leading_typed 1 (record_count s) s p h

-- the records after the crew record that are counted as job arcs
pub job_typed : (s : List ℕ) (i : ℕ) → i < job_count s → type_at s (activity_count s + 1 + i) ≡ 3
job_typed s i h =
    let a : ℕ = activity_count s + 1 in
    ap (λ (r : List ℕ). byte r 0) (sym (record_on s a i)) ∙ leading_typed 3 (record_count s - a) (record_at s a) i h

-- where the record after the activities is a crew record, no arc stands before the first that is due
module _ (s : List ℕ) (crewed : type_at s (activity_count s) ≡ 2) where
  pub no_arc : (type p : ℕ) → 3 ≤ type → p ≤ activity_count s → type_at s p ≢ type
  no_arc type p t h e =
      ⊎_elim
      (λ q. omega (arith, subst (λ (x : ℕ). type_at s x ≡ 2) (sym q) crewed))
      (λ l. omega (arith, activity_typed s p l))
      (eq-or-lt_of_le h)

  -- nor an extra arc before the first that is due
  pub no_extra : (p : ℕ) → p < activity_count s + 1 + job_count s → type_at s p ≢ 4
  no_extra p h e = go (dec_lt (activity_count s) p)
    where
      go : Dec (activity_count s < p) → ⊥
      go (yes l) =
          let q : activity_count s + 1 + (p - (activity_count s + 1)) ≡ p = omega arith in
          omega (arith, subst (λ (x : ℕ). type_at s x ≡ 3) q (job_typed s (p - (activity_count s + 1)) (omega arith)))
      go (no l) = no_arc 4 p (omega arith) (omega arith) e

  no_job_before : arcs_up_to s 3 (activity_count s + 1) ≡ replicate (cells elements) 0
  no_job_before = arcs_none_before s 3 (activity_count s + 1) (λ p l. no_arc 3 p (omega arith) (omega arith))

  no_extra_before : arcs_up_to s 4 (activity_count s + 1 + job_count s) ≡ replicate (cells elements) 0
  no_extra_before = arcs_none_before s 4 (activity_count s + 1 + job_count s) no_extra

module _ (s : List ℕ) (F : Faultless s) where
  pub activity_fine : (p : ℕ) → p < activity_count s → is_readable (activity_cause p (record_at s p)) ≡ true
  activity_fine p h = rw (at_activity s p h) at (F.fine p (omega (arith, F.crewed)))

  pub few : activity_count s ≤ activities
  few = few_activities (activity_count s) s activity_fine

  pub crew_fine : CrewKept (demands_of s) (record_at s (activity_count s))
  crew_fine = crew_kept (activity_count s) (demands_of s) (record_at s (activity_count s)) (rw (at_crew s (activity_count s) refl) at (F.fine (activity_count s) F.crewed))

  pub arc_fine : (p : ℕ) → activity_count s < p → p < record_count s → ArcKept (due_type s p) (activity_count s) (record_at s p)
  arc_fine p h l = arc_kept (due_type s p) p (activity_count s) (record_at s p) (rule_before _ _ _ (rw (at_arc s p h) at (F.fine p l)))

  pub arc_new : (p : ℕ) → activity_count s < p → p < record_count s → arc_repeats s p ≡ false
  arc_new p h l = false_of_not (arc_repeats s p) (rule_kept _ _ _ (rw (at_arc s p h) at (F.fine p l)))

  pub extra_typed : (p : ℕ) → activity_count s < p → p < record_count s → activity_count s + 1 + job_count s ≤ p → type_at s p ≡ 4
  extra_typed p h l b = (arc_fine p h l).typed ∙ due_extra s p b

  -- ---- the rows of its arcs, as the loop stores them

  module _ (x : ℕ) (e : record_count s ≡ activity_count s + 1 + job_count s + x) where
    pub job_rows : upto (put_arc 3 (record_at s (activity_count s + 1))) (job_count s) (replicate (cells elements) 0) ≡ arc_rows s 3
    job_rows =
        let m : ℕ = activity_count s in
        let j : ℕ = job_count s in
        sym (
        ap (arcs_up_to s 3) e
        ∙ arcs_none s 3 (m + 1 + j) x (λ i l q. omega (arith, extra_typed (m + 1 + j + i) (omega arith) (omega arith) (omega arith)))
        ∙ arcs_run s 3 (m + 1) j
        ∙ ap (upto (put_arc 3 (record_at s (m + 1))) j) (no_job_before s crew_fine.typed)
        )

    pub extra_rows : upto (put_arc 4 (record_at s (activity_count s + 1 + job_count s))) x (replicate (cells elements) 0) ≡ arc_rows s 4
    extra_rows =
        let a : ℕ = activity_count s + 1 + job_count s in
        sym (ap (arcs_up_to s 4) e ∙ arcs_run s 4 a x ∙ ap (upto (put_arc 4 (record_at s a)) x) (no_extra_before s crew_fine.typed))
