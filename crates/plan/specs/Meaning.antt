-- What a file says, in plain words: when it is readable, which durations, demands and availabilities, and
-- which arcs with which waits. THE ONE HOME of what is in force: everything above speaks of a file in
-- these words, and no table of a plan is needed for them. What a refusal says is Refused. Element i is
-- activity i + 1, kind k is kind k + 1.
-- Whoever uses a plan cites the laws of `proofs/Said.antt` and `proofs/Refused.antt`; the words stay shut, so
-- that none of it goes by where a record stands.
use Rattle.std.specs.Prelude.{◌≡◌, Bool, true, cond, ◌&&◌, List, ℕ, zero, suc, ◌+◌, ◌<◌, max, eqb}
use Rattle.order.specs.Before.{Joined}
use Rattle.records.specs.Bytes.{byte}
use Rattle.plan.specs.Records.{record_at, record_count, type_at, activity_count}
use Rattle.plan.specs.Records.{duration_in, demand_in, available_in, wait_in}
use Rattle.plan.specs.Causes.{is_readable, answer_of}

-- "It is readable when it meets none of causes 1 to 4", nor 12 and 13 of document 02
abbrev pub Readable : List ℕ → Type 0
Readable s = is_readable (answer_of s) ≡ true

-- ---- the activities and the crew of a file

-- which record speaks for element i: its own, the one at place i
abbrev pub activity_record : List ℕ → ℕ → List ℕ
activity_record s i = record_at s i

-- the crew record follows the activities
abbrev pub crew_record : List ℕ → List ℕ
crew_record s = record_at s (activity_count s)

-- "2–3 duration": that of element i
unfoldable pub file_duration : List ℕ → ℕ → ℕ
file_duration s i = duration_in (activity_record s i)

-- A MILESTONE: "takes no time" (02, change 2). It is one by its duration in the file, not by its demands:
-- that it has none, is what 12 sees to (`milestone_idle` of proofs/Milestones.antt), and an activity without
-- demands that takes time is none.
abbrev pub Milestone : List ℕ → ℕ → Type 0
Milestone s i = file_duration s i ≡ 0

-- "4–19 eight demands of two bytes, kinds 1 to 8": what element i demands of kind k
unfoldable pub file_demand : List ℕ → ℕ → ℕ → ℕ
file_demand s k i = demand_in (activity_record s i) k

-- "byte 1 the count K of kinds"
unfoldable pub file_kinds : List ℕ → ℕ
file_kinds s = byte (crew_record s) 1

-- "4–19 eight availabilities": how much of kind k is available
unfoldable pub file_available : List ℕ → ℕ → ℕ
file_available s k = available_in (crew_record s) k

-- ---- the arcs of a file

-- one of the first n records is of a type and names the arc from element i to element j
-- (activity i + 1 to activity j + 1)
pub record Names (s : List ℕ) (n type i j : ℕ) : Type 0 where
  pub place : ℕ
  pub there : place < n
  pub typed : type_at s place ≡ type
  pub from : byte (record_at s place) 1 ≡ i + 1
  pub to : byte (record_at s place) 2 ≡ j + 1

-- a job arc record names the pair
unfoldable pub JobArc : List ℕ → ℕ → ℕ → Type 0
JobArc s i j = Names s (record_count s) 3 i j

-- an extra arc record names the pair
unfoldable pub ExtraArc : List ℕ → ℕ → ℕ → Type 0
ExtraArc s i j = Names s (record_count s) 4 i j

abbrev pub FileArc : List ℕ → ℕ → ℕ → Type 0
FileArc s = Joined (JobArc s) (ExtraArc s)

-- ---- the waits on them: "A relined coin chute must cure before the next job." (02, change 5)

-- the record at place p is of a type and names the arc from element i to element j
abbrev pub names_at : List ℕ → ℕ → ℕ → ℕ → ℕ → Bool
names_at s type i j p =
    eqb (type_at s p) type
    && (eqb (byte (record_at s p) 1) (i + 1) && eqb (byte (record_at s p) 2) (j + 1))

-- the wait that the first n records give the arc of a type from i to j: that of the last that names it, and 0
-- where none does. (In a readable file one at most does, by 13: `wait_of` of proofs/Waits.antt.)
unfoldable pub wait_up_to : List ℕ → ℕ → ℕ → ℕ → ℕ → ℕ
wait_up_to s type i j zero = 0
wait_up_to s type i j (suc n) = cond (names_at s type i j n) (wait_in (record_at s n)) (wait_up_to s type i j n)

-- the wait on the job arc from i to j, and that on the extra arc
unfoldable pub job_wait : List ℕ → ℕ → ℕ → ℕ
job_wait s i j = wait_up_to s 3 i j (record_count s)

unfoldable pub extra_wait : List ℕ → ℕ → ℕ → ℕ
extra_wait s i j = wait_up_to s 4 i j (record_count s)

-- "Where a job arc and an extra arc share a pair, both waits bind.": that is, the longer does
abbrev pub file_wait : List ℕ → ℕ → ℕ → ℕ
file_wait s i j = max (job_wait s i j) (extra_wait s i j)
