-- CHANGE 7 of document 02, "Trim the extra arcs", about a planner P and its operation T:
-- `TrimSentence P T`. Ours keeps it: `trim_keeps` of proofs/TrimHolds.antt. What is written is said by its
-- bytes, which are records of the given file in their order (`Selected` of plan's Filtered), by what a file
-- of these bytes says (plan's Meaning), and by what Verdict says of it and of other files. That every choice
-- of arcs can be left out of a readable file, is plan's law of a filtered file (proofs/Filtered.antt).
-- Quotations are from document 02, change 7.
use Rattle.std.specs.Prelude.{◌≡◌, [], ◌∷◌, ◌++◌, ◌⊎◌, ◌↔◌, ◌*◌, ◌≤◌, ◌<◌}
use Rattle.std.specs.Prelude.{List, ℕ, length, take, drop, Ok, Err}
use Rattle.order.specs.Before.{Acyclic}
use Rattle.records.specs.Bytes.{AreBytes}
use Rattle.plan.specs.Records.{activity_count}
use Rattle.plan.specs.Meaning.{Readable, ExtraArc, FileArc, file_kinds, job_wait, extra_wait}
use Rattle.plan.specs.Filtered.{Selected}
use Rattle.planner.specs.Results.{accepted}
use Rattle.planner.specs.Answers.{cause_number, output_numbers}
use Rattle.planner.specs.declared.Cause.{Cause}
use Rattle.promises.specs.Planner.{Writing, Planner}
use Rattle.promises.specs.EveryInput.{OneOf, opening, AnswersBy, KeepsLent}
use Rattle.promises.specs.Same.{SameWork}

-- Verdict accepts the plan
abbrev pub Accepts : Planner → List ℕ → Type 0
Accepts P s = P.verdict s ≡ accepted (activity_count s) (file_kinds s)

-- Verdict refuses it as overloaded, by 7
abbrev pub Overloads : Planner → List ℕ → Type 0
Overloads P s = (c : Cause) × (P.verdict s ≡ Err c) × (cause_number c ≡ 7)

-- ---- leaving out extra arcs of wait 0

-- t says what s says, but for some extra arcs of wait 0 that it lacks
pub record LeavesOut (s t : List ℕ) : Type 0 where
  pub work : SameWork s t
  pub job_waits : (i j : ℕ) → job_wait s i j ≡ job_wait t i j
  pub fewer : (i j : ℕ) → ExtraArc t i j → ExtraArc s i j
  pub waits : (i j : ℕ) → ExtraArc t i j → extra_wait s i j ≡ extra_wait t i j
  pub free : (i j : ℕ) → ExtraArc s i j → (ExtraArc t i j → ⊥) → extra_wait s i j ≡ 0

-- the extra arc from i to j is one of those
abbrev pub Gone : List ℕ → List ℕ → ℕ → ℕ → Type 0
Gone s t i j = ExtraArc s i j × (ExtraArc t i j → ⊥)

-- ---- "considers its extra arcs by from, then to"

abbrev pub Sooner : ℕ → ℕ → ℕ → ℕ → Type 0
Sooner a b i j = (a < i) ⊎ ((a ≡ i) × (b < j))

-- u says "the plan then left" where the arc from i to j of s is considered, and t is the trimmed plan: the
-- sooner arcs are those of t, the later ones those of s, and this one is out
pub record ThenLeft (s t : List ℕ) (i j : ℕ) (u : List ℕ) : Type 0 where
  pub work : SameWork s u
  pub sooner : (a b : ℕ) → Sooner a b i j → ExtraArc u a b ↔ ExtraArc t a b
  pub out : ExtraArc u i j → ⊥
  pub later : (a b : ℕ) → Sooner i j a b → ExtraArc u a b ↔ ExtraArc s a b

-- ---- THE TRIMMED PLAN t of an accepted plan s

pub record Trimmed (P : Planner) (s t : List ℕ) : Type 0 where
  -- "with its other records in their order"
  pub selected : Selected s t
  pub readable : Readable t
  -- the same activities, crew and job arcs; of the extra arcs some of wait 0 are gone ("an arc with a
  -- longer wait always remains")
  pub leaves : LeavesOut s t
  -- "Each arc with wait 0 is taken out if the plan then left is still accepted": and only then. (There is a
  -- file that says that plan, and whichever does, decides.)
  pub then_left : (i j : ℕ) → ExtraArc s i j → extra_wait s i j ≡ 0
      → (u : List ℕ) × AreBytes u × Readable u × ThenLeft s t i j u
  pub goes : (i j : ℕ) → ExtraArc s i j → extra_wait s i j ≡ 0
      → (u : List ℕ) → AreBytes u → Readable u → ThenLeft s t i j u
      → Accepts P u → ExtraArc t i j → ⊥
  pub stays : (i j : ℕ) → ExtraArc s i j → extra_wait s i j ≡ 0
      → (u : List ℕ) → AreBytes u → Readable u → ThenLeft s t i j u
      → Overloads P u → ExtraArc t i j
  -- "Wanted of it: it is accepted,
  pub accepted : Accepts P t
  -- and no plan made from it by leaving out one or more extra arcs of wait 0 is accepted." (And each of these
  -- arcs can be left out by itself.)
  pub one_less : (i j : ℕ) → ExtraArc t i j → extra_wait t i j ≡ 0
      → (u : List ℕ) × AreBytes u × Readable u × LeavesOut t u × Gone t u i j
  pub least : (u : List ℕ) → AreBytes u → Readable u → LeavesOut t u
      → (i j : ℕ) → Gone t u i j → Overloads P u

-- what is written: "to the front of the lent bytes",
-- "its record count is returned and the bytes after it are unchanged"
pub record Trims (P : Planner) (T : Writing) (s out : List ℕ) : Type 0 where
  pub count : ℕ
  pub answers : T.answer s (length out) ≡ Ok count
  pub trimmed : Trimmed P s (take (24 * count) (T.left s out))
  pub no_longer : 24 * count ≤ length s
  pub rest : drop (24 * count) (T.left s out) ≡ drop (24 * count) out
  pub room : length (T.left s out) ≡ length out
  -- so trimming it again changes nothing
  pub again : (more : List ℕ)
      → let t = take (24 * count) (T.left s out) in
      length t ≤ length more
      → (T.answer t (length more) ≡ Ok count) × (T.left t more ≡ t ++ drop (length t) more)

-- ---- the sentence

pub record TrimSentence (P : Planner) (T : Writing) : Type 0 where
  -- demand 1 of document 00, of this operation: a result or a numbered refusal, and a refusal
  -- leaves every lent byte as before
  pub one : AnswersBy (opening ++ 9 ∷ 7 ∷ []) T
  pub kept : KeepsLent T
  -- the numbers of the opening it gives exactly where Verdict gives them, with the same values
  pub opens : (s : List ℕ) (n : ℕ) (c : Cause) → OneOf opening (cause_number c)
      → (P.verdict s ≡ Err c) ↔ (T.answer s n ≡ Err c)
  -- "9 comes after the circles and needs the given file's length; 7 comes last.",
  -- and is Verdict's, with the same set
  pub short : (s : List ℕ) → Readable s → Acyclic (FileArc s) → (n : ℕ) → n < length s
      → output_numbers (T.answer s n) ≡ 9 ∷ length s ∷ []
  pub overloaded : (s : List ℕ) → Readable s → Acyclic (FileArc s) → (n : ℕ) → length s ≤ n
      → (c : Cause) → P.verdict s ≡ Err c → T.answer s n ≡ Err c
  -- "Trim takes an accepted plan"
  pub trims : (s : List ℕ) → AreBytes s → Accepts P s
      → (out : List ℕ) → length s ≤ length out → Trims P T s out
