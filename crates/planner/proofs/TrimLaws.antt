-- Trim: when it goes on, and what it answers and writes, from what the code holds.
use mathlib.Core.Path.{◌≡◌, sym, ap, ◌∙◌}
use mathlib.Core.Bool.{true, false, not}
use mathlib.Core.List.{List}
use mathlib.Core.Logic.{◌≢◌}
use Prim.Native.Nat.{ℕ, ◌≤◌, ◌<◌}
use lib.Dec.{ltb}
use lib.ListN.{length}
use native.Mathlib.Omega.{arith}
use Rattle.std.specs.Prelude.{Ok, Err}
use Rattle.words.specs.Members.{count}
use Rattle.words.proofs.Counts.{count_le}
use Rattle.records.specs.Bytes.{AreBytes}
use Rattle.records.specs.Records.{starting_with}
use Rattle.plan.specs.Records.{record_count}
use Rattle.plan.specs.Meaning.{Readable}
use Rattle.plan.specs.Filtered.{filtered}
use Rattle.plan.specs.model.ArcRows.{stays_by}
use Rattle.plan.proofs.Filtered.{filtered_count, stays_arcs}
use Rattle.planner.specs.Faults.{Fault, is_fine, or_short}
use Rattle.planner.specs.Open.{plan_in, fault_of, Opens}
use Rattle.planner.specs.Need.{is_overloaded, over_cause, or_overloaded}
use Rattle.planner.specs.Answers.{cause_number}
use Rattle.planner.specs.Verdict.{is_accepted}
use Rattle.planner.specs.Trim.{trimmed_rows, trimmed_file, trim_fault}
use Rattle.planner.specs.model.Opening.{Held, opened_of, overload_in, or_found}
use Rattle.planner.specs.declared.Cause.{Cause}
use Rattle.planner.specs.declared.Cause.TheVariants.{Short}
use Rattle.planner.proofs.FaultLaws.{cause_fine, cause_before, cause_next, cause_none, from_before, short_fine, short_next, short_none}
use Rattle.planner.proofs.OpenLaws.{opens_readable, opens_short, opens_plan, goes_open}
use Rattle.planner.proofs.QuotedNeeds.{weighed_held}
use Rattle.planner.proofs.AcceptedLaws.{accepted_by}

-- ---- when it goes on

module _ (s : List ℕ) (n : ℕ) where
  abbrev pub roomy : Fault
  roomy = or_short (fault_of s) n (length s)

  pub trim_fine : is_fine (trim_fault s n) ≡ true → Opens s × (length s ≤ n) × (is_overloaded (plan_in s) ≡ false)
  unfolding trim_fault
  trim_fine e =
      let w = cause_fine roomy (is_overloaded (plan_in s)) (over_cause (plan_in s)) e in
      let r = short_fine (fault_of s) n (length s) w.0 in
      (r.0, r.1, w.1)

  pub fine_trim : Opens s → length s ≤ n → is_overloaded (plan_in s) ≡ false → trim_fault s n ≡ Ok tt
  unfolding trim_fault
  fine_trim o l e = cause_none roomy (is_overloaded (plan_in s)) (over_cause (plan_in s)) (ap is_fine (short_none (fault_of s) n (length s) o l)) e

  -- the causes of the opening are the file's; then 9, by the file's length, and 7
  pub trim_before : (c : Cause) → fault_of s ≡ Err c → trim_fault s n ≡ Err c
  unfolding trim_fault
  trim_before c e = cause_before roomy (is_overloaded (plan_in s)) (over_cause (plan_in s)) c (cause_before (fault_of s) (ltb n (length s)) (Short (length s)) c e)

  pub trim_from : (c : Cause) → cause_number c ≢ 7 → cause_number c ≢ 9 → trim_fault s n ≡ Err c → fault_of s ≡ Err c
  unfolding trim_fault over_cause
  trim_from c seven nine e =
      from_before (fault_of s) (ltb n (length s)) (Short (length s)) c nine (from_before roomy (is_overloaded (plan_in s)) (over_cause (plan_in s)) c seven e)

  pub trim_short : Opens s → n < length s → trim_fault s n ≡ Err (Short (length s))
  unfolding trim_fault
  trim_short o h = cause_before roomy (is_overloaded (plan_in s)) (over_cause (plan_in s)) (Short (length s)) (short_next (fault_of s) n (length s) o h)

  pub trim_over : Opens s → length s ≤ n → is_overloaded (plan_in s) ≡ true
      → trim_fault s n ≡ Err (over_cause (plan_in s))
  unfolding trim_fault
  trim_over o h e = cause_next roomy (is_overloaded (plan_in s)) (over_cause (plan_in s)) (ap is_fine (short_none (fault_of s) n (length s) o h)) e

-- a trimmed file has few records
pub trim_few : (s : List ℕ) (n : ℕ) → is_fine (trim_fault s n) ≡ true → record_count (trimmed_file s) ≤ 2048
unfolding trimmed_file
trim_few s n e =
    let o = (trim_fine s n e).0 in
    let r = opens_readable s o in
    omega (arith, filtered_count (stays_by (trimmed_rows s) s) s r (stays_arcs s r (trimmed_rows s)), count_le (record_count s) (stays_by (trimmed_rows s) s), opens_short s o)

-- ---- what the code holds: `o` is the plan that was opened

module _ (s out : List ℕ) (bytes : AreBytes s) (opens : Opens s) {o : Held} (held : o ≡ opened_of s) where
  -- 9 in its turn
  pub trim_nine : {c : Cause} → Err c ≡ or_short (Ok tt) (length out) (length s) → trim_fault s (length out) ≡ Err c
  unfolding trim_fault
  trim_nine {c} e =
      cause_before (roomy s (length out)) (is_overloaded (plan_in s)) (over_cause (plan_in s)) c
      (sym (e ∙ goes_open s opens (λ f. or_short f (length out) (length s))))

  -- and then 7
  pub trim_seven : {f : Fault} → Ok tt ≡ or_short (Ok tt) (length out) (length s)
      → f ≡ or_found (Ok tt) (overload_in o.order o.plan) o.plan.kinds → f ≡ trim_fault s (length out)
  unfolding trim_fault
  trim_seven nine seven =
      weighed_held s held bytes (Ok tt) (λ _. opens) seven
      ∙ ap (λ (x : Fault). or_overloaded x (plan_in s))
      (nine ∙ goes_open s opens (λ f. or_short f (length out) (length s)))

  module _ (e : is_fine (trim_fault s (length out)) ≡ true) where
    goes : Opens s × (length s ≤ length out) × (is_overloaded (plan_in s) ≡ false)
    goes = trim_fine s (length out) e

    -- what the considering of the pairs asks, and what the writing does
    pub left_asked : Opens s × (o ≡ opened_of s) × (is_accepted o.plan ≡ true)
    left_asked = (goes.0, held, rw held (accepted_by (plan_in s) (opens_plan s goes.0) ∙ ap not goes.2))

    pub write_asked : Readable s × (length s ≤ length out)
    write_asked = (opens_readable s goes.0, goes.1)

    pub written : {extra after : List ℕ} {n : ℕ} → extra ≡ trimmed_rows s → n ≡ count (record_count s) (stays_by extra s) → after ≡ starting_with (filtered (stays_by extra s) s) out
        → (n ≡ record_count (trimmed_file s)) × (after ≡ starting_with (trimmed_file s) out)
    unfolding trimmed_file
    written {extra} left c w =
        let r = opens_readable s goes.0 in (
          c ∙ sym (filtered_count (stays_by extra s) s r (stays_arcs s r extra)) ∙ ap (λ (x : List ℕ). record_count (filtered (stays_by x s) s)) left,
          w ∙ ap (λ (x : List ℕ). starting_with (filtered (stays_by x s) s) out) left,
        )
