-- What a refusal says, in plain words: which of these it is, is `refused_means` of
-- proofs/Refused.antt; 12, in `refused_demanding` of proofs/Milestones.antt, and 13, in
-- `refused_repeated` of proofs/RepeatedArcs.antt.
use Rattle.std.specs.Prelude.{◌≡◌, true, false, List, ℕ, ◌+◌, ◌<◌, length}
use Rattle.records.specs.Bytes.{byte}
use Rattle.plan.specs.declared.Cause.{Cause}
use Rattle.plan.specs.declared.Cause.TheVariants.{Length, RecordType}
use Rattle.plan.specs.Records.{record_at, record_count, type_at, activity_count, activity_fields, due_type}
use Rattle.plan.specs.Causes.{Answer, is_readable, arc_cause, cause_at, is_length}
use Rattle.plan.specs.Meaning.{Milestone, file_demand, Names}

-- "length 0, not a multiple of 24, or over 49,152"
pub record WrongLength (s : List ℕ) (c : Cause) : Type 0 where
  pub wrong : is_length (length s) ≡ false
  pub cause : c ≡ Length

-- at a record: it is the first record with a fault, and the answer is its first fault
pub record FirstFault (s : List ℕ) (p : ℕ) (a : Answer) : Type 0 where
  pub there : p < record_count s
  pub fault : cause_at s p ≡ a
  pub refused : is_readable a ≡ false
  pub before : (x : ℕ) → x < p → is_readable (cause_at s x) ≡ true

-- 12, "duration 0 with a demand, with the place, in each record after 3 and before 4" (02, change 2): no
-- record before place p has a fault, the one there is an activity's whose fields keep their rules, it takes
-- no time, and it demands something of one of the eight kinds
pub record DemandingMilestone (s : List ℕ) (p : ℕ) : Type 0 where
  pub legal : is_length (length s) ≡ true
  pub before : (x : ℕ) → x < p → is_readable (cause_at s x) ≡ true
  pub activity : p < activity_count s
  pub fields : activity_fields p (record_at s p) ≡ true
  pub timeless : Milestone s p
  pub kind : ℕ
  pub one_of_eight : kind < 8
  pub demands : 0 < file_demand s kind p

-- 13, "with the place of the later record, in each record after 4" (02, change 3): no record before place p
-- has a fault, the one there is an arc that has none by itself, from one element to another, and an earlier
-- record of the same type names the pair
pub record RepeatedPair (s : List ℕ) (p : ℕ) : Type 0 where
  pub legal : is_length (length s) ≡ true
  pub there : p < record_count s
  pub before : (x : ℕ) → x < p → is_readable (cause_at s x) ≡ true
  pub arc : activity_count s < p
  pub own : is_readable (arc_cause (due_type s p) p (activity_count s) (record_at s p)) ≡ true
  pub from : ℕ
  pub to : ℕ
  pub from_here : byte (record_at s p) 1 ≡ from + 1
  pub to_here : byte (record_at s p) 2 ≡ to + 1
  pub earlier : Names s p (type_at s p) from to

-- "crew record missing (place: record count)": no record has a fault, and each is an activity
pub record CrewMissing (s : List ℕ) (c : Cause) : Type 0 where
  pub legal : is_length (length s) ≡ true
  pub fine : (p : ℕ) → p < record_count s → is_readable (cause_at s p) ≡ true
  pub activities : (p : ℕ) → p < record_count s → type_at s p ≡ 1
  pub cause : c ≡ RecordType (record_count s)
