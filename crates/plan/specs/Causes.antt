-- The causes of a refusal, 1 to 4, 12 and 13, each with its place, and the answer:
-- the first of them, or readable.
use Rattle.std.specs.Prelude.{Bool, true, false, not, cond, ◌&&◌, Result, Ok, Err}
use Rattle.std.specs.Prelude.{List, ℕ, ◌%◌, eqb, leb, ltb, length}
use Rattle.words.specs.Members.{first}
use Rattle.records.specs.Bytes.{byte}
use Rattle.plan.specs.declared.Cause.{Cause}
use Rattle.plan.specs.declared.Cause.TheVariants.{Length, RecordType, Field}
use Rattle.plan.specs.declared.Cause.TheVariants.{MilestoneDemand, Spare, RepeatedArc}
use Rattle.plan.specs.Records.{record_at, record_count, activity_count, activity_fields, activity_timed}
use Rattle.plan.specs.Records.{activity_spare, crew_fields, crew_spare, arc_fields, arc_spare, arc_repeats}
use Rattle.plan.specs.Records.{due_type, demands_of}

-- what is said of a rule, a record or a file: that it is fine, or the cause of a refusal
abbrev pub Answer : Type 0
Answer = Result (Unit {0}) Cause

-- "records in file order, 2, 3, 4 within each", 12 "in each record after 3 and before 4" (02, change 2),
-- and 13 "in each record after 4" (02, change 3): the rules of a record are tested in turn. Where none
-- before it was broken, a broken rule gives its cause.
unfoldable pub rule : Answer → Bool → Cause → Answer
rule (Ok _) true cause = Ok tt
rule (Ok _) false cause = Err cause
rule (Err c) kept cause = Err c

abbrev pub is_readable : Answer → Bool
is_readable (Ok _) = true
is_readable (Err c) = false

-- one of the activity records that the file begins with; its type is 1
unfoldable pub activity_cause : ℕ → List ℕ → Answer
activity_cause place r =
    let fields = rule (Ok tt) (activity_fields place r) (Field place) in
    let timed = rule fields (activity_timed r) (MilestoneDemand place) in
    rule timed (activity_spare r) (Spare place)

-- the record after them, which has to be the crew record
unfoldable pub crew_cause : ℕ → List ℕ → List ℕ → Answer
crew_cause place demand r =
    let typed = rule (Ok tt) (eqb (byte r 0) 2) (RecordType place) in
    let fields = rule typed (crew_fields demand r) (Field place) in
    rule fields (crew_spare r) (Spare place)

-- a record after that, which has to be an arc of the type that is due:
-- the rules that it keeps or breaks by itself
unfoldable pub arc_cause : ℕ → ℕ → ℕ → List ℕ → Answer
arc_cause type place m r =
    let typed = rule (Ok tt) (eqb (byte r 0) type) (RecordType place) in
    let fields = rule typed (arc_fields m r) (Field place) in
    rule fields (arc_spare r) (Spare place)

-- the cause of the record at a place; that of an arc may also be that an earlier record names its pair
unfoldable pub cause_at : List ℕ → ℕ → Answer
cause_at s p =
    let activity = activity_cause p (record_at s p) in
    let crew = crew_cause p (demands_of s) (record_at s p) in
    let arc = rule (arc_cause (due_type s p) p (activity_count s) (record_at s p))
    (not (arc_repeats s p)) (RepeatedArc p) in
    cond (ltb p (activity_count s)) activity (cond (eqb p (activity_count s)) crew arc)

-- the first refusal among f 0, .., f (n - 1)
unfoldable pub first_refusal : ℕ → (ℕ → Answer) → Answer
first_refusal n f =
    let p = first n (λ i. not (is_readable (f i))) in
    let refusal = f p in
    cond (ltb p n) refusal (Ok tt)

-- what follows where nothing was refused
abbrev pub followed_by : Answer → Answer → Answer
followed_by (Ok _) next = next
followed_by (Err c) next = Err c

-- "crew record missing (place: record count)"
abbrev pub crew_there : List ℕ → Answer
crew_there s = cond (eqb (activity_count s) (record_count s)) (Err (RecordType (record_count s))) (Ok tt)

-- the first record with a cause, and its first cause; then a missing crew record
unfoldable pub records_cause : List ℕ → Answer
records_cause s = followed_by (first_refusal (record_count s) (cause_at s)) (crew_there s)

-- cause 1: "length 0, not a multiple of 24, or over 49,152"
unfoldable pub is_length : ℕ → Bool
is_length n = ltb 0 n && (leb n 49152 && eqb (n % 24) 0)

-- THE ANSWER: the length first, then the records
unfoldable pub answer_of : List ℕ → Answer
answer_of s =
    let records = records_cause s in
    cond (is_length (length s)) records (Err Length)
