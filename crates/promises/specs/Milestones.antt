-- CHANGE 2 of document 02, "Milestones", about a planner P: `MilestoneSentence P`. Ours keeps it:
-- `milestones_keep` of proofs/MilestonesHold.antt. In which durations a crew can work, and a crew check
-- takes, is `Workable` of planner's Times, of which demands 2 and 3 speak; here is what follows for
-- milestones, and 12. Quotations are from document 02, change 2.
use Rattle.std.specs.Prelude.{◌≡◌, false, List, [], ◌∷◌, ℕ, ◌+◌, ◌≤◌, ◌<◌, length, get_or, Ok}
use Rattle.order.specs.Before.{Before, Acyclic}
use Rattle.records.specs.Bytes.{AreBytes}
use Rattle.plan.specs.Records.{activity_count}
use Rattle.plan.specs.Refused.{DemandingMilestone}
use Rattle.plan.specs.Meaning.{Readable, Milestone, FileArc, file_kinds, file_duration, file_demand}
use Rattle.flow_math.specs.Crew.{active}
use Rattle.kinds.specs.Reading.{units_read}
use Rattle.planner.specs.Answers.{crew_check_numbers}
use Rattle.planner.specs.Times.{FileCrew}
use Rattle.promises.specs.Planner.{Planner}
use Rattle.promises.specs.Paper.{EveryGives, SomeGives}

-- of any bytes: "12, duration 0 with a demand, with the place, in each record after 3 and before 4" (plan's
-- Refused says when) every operation gives there, whatever is lent or asked, and none gives it otherwise
pub record Twelve (P : Planner) (s : List ℕ) : Type 0 where
  pub twelve : (p : ℕ) → DemandingMilestone s p → EveryGives P s (12 ∷ p ∷ [])
  pub twelve_means : (p : ℕ) → SomeGives P s (12 ∷ p ∷ []) → DemandingMilestone s p

-- of a readable plan without a circle, and its milestone i
pub record Milestones (P : Planner) (s : List ℕ) (i : ℕ) : Type 0 where
  -- ""Hall handed back" takes no time and nobody."
  pub nobody : (k : ℕ) → k < 8 → file_demand s k i ≡ 0
  -- and nobody is handed over to it or by it: in the flow of any kind, as its n records say
  pub takes_over : (k : ℕ) → k < file_kinds s
      → (out : List ℕ) (n : ℕ) → (P.flow (k + 1)).answer s (length out) ≡ Ok n
      → (u : ℕ) → u < activity_count s + 2 → units_read n ((P.flow (k + 1)).left s out) u (i + 1) ≡ 0
  pub hands_over : (k : ℕ) → k < file_kinds s
      → (out : List ℕ) (n : ℕ) → (P.flow (k + 1)).answer s (length out) ≡ Ok n
      → (v : ℕ) → v < activity_count s + 2 → units_read n ((P.flow (k + 1)).left s out) (i + 1) v ≡ 0
  -- "A milestone is never at work": in no period of any crew
  pub never : (x w : ℕ → ℕ) → FileCrew s x w → (t : ℕ) → active x w t i ≡ false
  -- "and still passes order on": what it waits for is before what waits for it, so that no unrelated set
  -- holds both; and is done before that starts, of every crew and of the earliest starts
  pub orders : (h j : ℕ) → FileArc s h i → FileArc s i j → Before (FileArc s) h j
  pub passes : (x w : ℕ → ℕ) → FileCrew s x w → (h j : ℕ) → FileArc s h i → FileArc s i j → x h + w h ≤ x j
  pub starts : (out : List ℕ) → activity_count s + 1 ≤ length out → (h j : ℕ) → FileArc s h i → FileArc s i j
      → get_or (P.starts.left s out) h 0 + file_duration s h ≤ get_or (P.starts.left s out) j 0
  -- "10 is .. given .. for a worked duration above 0 on a milestone"
  pub ten : (starts worked : List ℕ) → 0 < get_or worked i 0
      → crew_check_numbers (P.crew_check s starts worked) ≡ 10 ∷ activity_count s ∷ []

-- and of an activity i that is none, with demands or without
pub record NoMilestone (P : Planner) (s : List ℕ) (i : ℕ) : Type 0 where
  -- "Number 10 is still given for a worked 0 on any other activity"
  pub ten : (starts worked : List ℕ) → get_or worked i 0 ≡ 0
      → crew_check_numbers (P.crew_check s starts worked) ≡ 10 ∷ activity_count s ∷ []

pub record MilestoneSentence (P : Planner) : Type 0 where
  pub refused : (s : List ℕ) → Twelve P s
  pub milestones : (s : List ℕ) → AreBytes s → Readable s → Acyclic (FileArc s)
      → (i : ℕ) → i < activity_count s → Milestone s i → Milestones P s i
  pub others : (s : List ℕ) → AreBytes s → Readable s → Acyclic (FileArc s)
      → (i : ℕ) → i < activity_count s → (Milestone s i → ⊥) → NoMilestone P s i
