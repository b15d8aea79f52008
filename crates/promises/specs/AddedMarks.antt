-- CHANGE 6 of document 02, "Added means added", about a planner P: `AddedSentence P`. Ours keeps it:
-- `added_keep` of proofs/AddedMarksHold.antt. When a pair is added is `Added` of planner's File, by
-- what comes before what by the job arcs. Here it is said of every record that Flow writes; and then
-- what the marked pairs are in the paper, where A is the job order, X are the extra arcs, f is the flow
-- shown, of all kinds, and T(E) is what comes before what by E. Quotations are from document 02,
-- change 6, where no other is named.
use Rattle.std.specs.Prelude.{◌≡◌, List, ◌↔◌, ℕ, ◌+◌, ◌<◌, length, Ok}
use Rattle.order.specs.Before.{Before, Joined, Acyclic}
use Rattle.records.specs.Bytes.{AreBytes}
use Rattle.records.specs.Records.{from_of, to_of, added_of}
use Rattle.plan.specs.Records.{activity_count}
use Rattle.plan.specs.Meaning.{Readable, JobArc, FileArc}
use Rattle.planner.specs.File.{Added}
use Rattle.promises.specs.Planner.{Planner}

-- Flow writes, of some kind (`kind` counts from 0: the file's number is `kind + 1`) and to whatever it is
-- lent, a record from node u to node v with this added mark
pub record Writes (P : Planner) (s : List ℕ) (u v mark : ℕ) : Type 0 where
  pub kind : ℕ
  pub lent : List ℕ
  pub count : ℕ
  pub answers : (P.flow (kind + 1)).answer s (length lent) ≡ Ok count
  pub place : ℕ
  pub written : place < count
  pub from_is : from_of ((P.flow (kind + 1)).left s lent) place ≡ u
  pub to_is : to_of ((P.flow (kind + 1)).left s lent) place ≡ v
  pub mark_is : added_of ((P.flow (kind + 1)).left s lent) place ≡ mark

-- "The added mark shall be 1 exactly where both ends are activities and the sender is not before the receiver
-- in the job order, directly or through others."; else it is 0
pub record AddedMarks (P : Planner) (s : List ℕ) : Type 0 where
  pub one : (u v mark : ℕ) → Writes P s u v mark → (mark ≡ 1) ↔ Added s u v
  pub zero : (u v mark : ℕ) → Writes P s u v mark → (mark ≡ 0) ↔ (Added s u v → ⊥)

-- ---- "That is how the paper takes its set A, as a full order."

-- the marked pairs of activities i + 1 and j + 1: the paper's C(f), "the flow-carrying arcs that do not
-- coincide with technological precedence constraints" (000, 2.1)
abbrev pub Marked : Planner → List ℕ → ℕ → ℕ → Type 0
Marked P s i j = Writes P s (i + 1) (j + 1) 1

pub record FullOrder (P : Planner) (s : List ℕ) : Type 0 where
  -- the job order together with the marked pairs lies within the plan order:
  -- "A ∪ C(f) ⊆ T(A ∪ X)" (000, theorem 2)
  pub within : (i j : ℕ) → Joined (Before (JobArc s)) (Marked P s) i j → Before (FileArc s) i j
  -- so "G(N, A ∪ C(f)) is acyclic", by which the paper calls a flow feasible (000, 2.1)
  pub feasible : Acyclic (Joined (Before (JobArc s)) (Marked P s))
  -- and the handovers between activities that are not marked lie within the job order: C(f) is all that
  -- carries flow and is not in A
  pub unmarked : (i j : ℕ) → i < activity_count s → j < activity_count s
      → Writes P s (i + 1) (j + 1) 0 → Before (JobArc s) i j

-- ---- the sentence

abbrev pub AddedSentence : Planner → Type 0
AddedSentence P =
    (s : List ℕ) → AreBytes s → Readable s → Acyclic (FileArc s) → AddedMarks P s × FullOrder P s
