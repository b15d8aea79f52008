-- Starts, durations and crews of a file, in the file's own terms: its arcs and demands are those of plan's
-- Meaning. No operation is named here. Element i is activity i + 1, kind k is kind k + 1; x i is the start of
-- element i and w i its duration, in any whole numbers.
use Rattle.std.specs.Prelude.{◌≡◌, List, ℕ, ◌+◌, ◌≤◌, ◌<◌}
use Rattle.plan.specs.Records.{activity_count}
use Rattle.plan.specs.Meaning.{FileArc, file_wait, file_demand, Milestone}
use Rattle.flow_math.specs.Kept.{Keeps}
use Rattle.flow_math.specs.Crew.{occupied}

-- how long after the start of i an arc of the file from i to j lets j start: the duration of i, and the wait
-- on the arc. What keeps a file's arcs, and what breaks one, goes by this alone.
abbrev pub arc_weight : List ℕ → (ℕ → ℕ) → ℕ → ℕ → ℕ
arc_weight s w i j = w i + file_wait s i j

-- "It keeps every arc: for each arc i to j, job or extra," (01, Crew check) "An arc is kept when start plus
-- duration plus wait is at most the next start." (02, change 5)
abbrev pub KeepsArcs : List ℕ → (ℕ → ℕ) → (ℕ → ℕ) → Type 0
KeepsArcs s x w = Keeps (FileArc s) x (arc_weight s w)

-- "where every wait is 0" (02, change 5)
abbrev pub NoWaits : List ℕ → Type 0
NoWaits s = (i j : ℕ) → file_wait s i j ≡ 0

-- "durations of one or more except for milestones, which keep 0" (02, change 2):
-- the durations in which a crew can work
pub record Workable (s : List ℕ) (w : ℕ → ℕ) : Type 0 where
  pub milestones : (i : ℕ) → i < activity_count s → Milestone s i → w i ≡ 0
  pub others : (i : ℕ) → i < activity_count s → (Milestone s i → ⊥) → 1 ≤ w i

-- "A crew in demand 3 is one start and one duration .. for each activity, in any whole numbers",
-- the durations as above. "The quote must now hold for crews that keep arcs together with their waits"
-- (02, change 5)
pub record FileCrew (s : List ℕ) (x w : ℕ → ℕ) : Type 0 where
  pub works : Workable s w
  pub keeps : KeepsArcs s x w

-- "What is occupied of a kind in a period, here and in demand 3, is the sum of that kind's demands over the
-- activities at work.": who is at work in a period, and the sum, are flow_math's Crew
abbrev pub crew_occupies : List ℕ → ℕ → (ℕ → ℕ) → (ℕ → ℕ) → ℕ → ℕ
crew_occupies s k x w t = occupied (activity_count s) (file_demand s k) x w t
