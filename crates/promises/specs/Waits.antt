-- CHANGE 5 of document 02, "Waits on arcs", about a planner P: `WaitSentence P`. Ours keeps it: `waits_keep`
-- of proofs/WaitsHold.antt. What a file's waits are is plan's Meaning, and when a crew keeps arcs with them
-- is `KeepsArcs` of planner's Times: by that rule demand 2 speaks of starts and crew checks (Paper), and
-- demand 3 of every crew and of some crew (PriceList). Here is what the waits are worth, and who does not
-- read them. Quotations are from document 02, change 5.
use Rattle.std.specs.Prelude.{◌≡◌, List, ◌↔◌, ℕ, ◌+◌, ◌*◌, ◌^◌, ◌≤◌, ◌<◌, length, get_or}
use Rattle.order.specs.Before.{Acyclic}
use Rattle.records.specs.Bytes.{AreBytes, field}
use Rattle.plan.specs.Records.{record_at, record_count, activity_count, activities}
use Rattle.plan.specs.Meaning.{Readable, Names, JobArc, ExtraArc, FileArc, job_wait, extra_wait, file_wait}
use Rattle.plan.specs.Differing.{OnlyInWaits}
use Rattle.flow_math.specs.Kept.{Keeps}
use Rattle.planner.specs.Times.{KeepsArcs}
use Rattle.promises.specs.Planner.{Planner}
use Rattle.promises.specs.Same.{SamePlan, WritesAlike}

-- of a readable plan
pub record FileWaits (s : List ℕ) : Type 0 where
  -- "Bytes 4–5 of both arc records become a wait of 0 to 65,535 periods": the wait on an arc is what those
  -- bytes of the record that names it say, and 0 where none does
  pub job : (i j : ℕ) (n : Names s (record_count s) 3 i j)
      → job_wait s i j ≡ field (record_at s n.place) 4 2
  pub extra : (i j : ℕ) (n : Names s (record_count s) 4 i j)
      → extra_wait s i j ≡ field (record_at s n.place) 4 2
  pub no_job : (i j : ℕ) → (JobArc s i j → ⊥) → job_wait s i j ≡ 0
  pub no_extra : (i j : ℕ) → (ExtraArc s i j → ⊥) → extra_wait s i j ≡ 0
  pub most : (i j : ℕ) → file_wait s i j ≤ 65535
  -- "An arc is kept when start plus duration plus wait is at most the next start. Where a job arc and an
  -- extra arc share a pair, both waits bind.": whoever keeps the file's arcs keeps the job arcs with theirs
  -- and the extra arcs with theirs, and the other way round
  pub both : (x w : ℕ → ℕ)
      → KeepsArcs s x w
      ↔ (Keeps (JobArc s) x (λ i j. w i + job_wait s i j)
      × Keeps (ExtraArc s) x (λ i j. w i + extra_wait s i j))
  -- the sums of a crew check, whose starts and worked durations are 32-bit,
  -- never wrap in the 64 bits of the code
  pub sum_fits : (x w : ℕ → ℕ) (i j : ℕ) → x i < 2 ^ 32 → w i < 2 ^ 32 → x i + w i + file_wait s i j < 2 ^ 64

-- and without a circle: no start is later than so many durations, with a wait after each, as there can be
-- activities; and all numbers that Starts writes, the end's too, fit 32 bits
pub record StartsFit (P : Planner) (s out : List ℕ) : Type 0 where
  pub latest : (i : ℕ) → i < activity_count s → get_or (P.starts.left s out) i 0 ≤ activities * (65535 + 65535)
  pub fits : (i : ℕ) → i ≤ activity_count s → get_or (P.starts.left s out) i 0 < 2 ^ 32

-- ---- "Need and flow do not read waits."

-- of both files, answers and what is left of what was lent
pub record QuotedAlike (P : Planner) (s t : List ℕ) : Type 0 where
  pub verdict : P.verdict s ≡ P.verdict t
  pub needs : WritesAlike P.needs s t
  pub overload : WritesAlike P.overload s t
  pub flow : (kind : ℕ) → WritesAlike (P.flow kind) s t

-- ---- the sentence

pub record WaitSentence (P : Planner) : Type 0 where
  pub waits : (s : List ℕ) → AreBytes s → Readable s → FileWaits s
  pub starts : (s : List ℕ) → AreBytes s → Readable s → Acyclic (FileArc s)
      → (out : List ℕ) → activity_count s + 1 ≤ length out → StartsFit P s out
  -- plans that say the same but for their waits (SamePlan does not speak of these); and any bytes that differ
  -- only in waits, readable or not
  pub plans : (s t : List ℕ) → Readable s → Readable t → SamePlan s t → QuotedAlike P s t
  pub bytes : (s t : List ℕ) → OnlyInWaits s t → QuotedAlike P s t
