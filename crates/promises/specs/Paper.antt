-- DEMAND 2 of document 00, about a planner P: "Order, flows, earliest starts and the crew check are those of
-- the paper on resource flows that 01 condenses.", in the file's own terms, for every readable plan
-- (`PaperSentence P`). Since change 5 of document 02 an arc can have a wait: "Demand 2 holds them and the
-- crew check to the paper where every wait is 0." What is said of starts and crew checks is therefore said of
-- a rule by which arcs are kept (`Rule`): of the file's, with its waits, for every plan, and of the paper's
-- where every wait is 0 (`PaperTimes`). Ours meets it: `paper` of proofs/PaperHolds.antt. What is at work and
-- what is occupied in a period is here what it is in demand 3: `crew_occupies` of Times. By which steps it is
-- added up is `LoadSentence L` (02, change 4); ours meets it: `loads`, beside `paper`. Quotations are from
-- document 01, where no other is named.
use Rattle.std.specs.Prelude.{◌≡◌, ◌&&◌, [], ◌∷◌, ◌⊎◌, ◌↔◌, ◌+◌, ◌-◌, ◌^◌, ◌≤◌, ◌<◌}
use Rattle.std.specs.Prelude.{Bool, true, cond, List, ℕ, length, get_or, drop, Ok}
use Rattle.words.specs.Sums.{sum}
use Rattle.order.specs.Before.{Before, Acyclic}
use Rattle.records.specs.Bytes.{AreBytes}
use Rattle.plan.specs.Meaning.{Readable, JobArc, FileArc, file_kinds, file_demand, file_available, file_duration}
use Rattle.plan.specs.Records.{activity_count}
use Rattle.schedule.specs.Lists.{LargestOr0, FinishOf, at}
use Rattle.schedule.specs.declared.Checked.TheVariants.{Fits, Broken, Overload}
use Rattle.kinds.specs.Reading.{units_read}
use Rattle.flow_math.specs.Kept.{Keeps}
use Rattle.flow_math.specs.Breaks.{FirstBroken}
use Rattle.flow_math.specs.Crew.{active}
use Rattle.planner.specs.File.{FileFlow}
use Rattle.planner.specs.Times.{arc_weight, NoWaits, Workable, crew_occupies}
use Rattle.planner.specs.Answers.{verdict_numbers, output_numbers, crew_check_numbers}
use Rattle.promises.specs.Planner.{Planner}

-- ---- order: the causes 5 and 6

-- i is before itself, and nothing below i is: "lowest activity before itself"
pub record Lowest (A : ℕ → ℕ → Type 0) (i : ℕ) : Type 0 where
  pub round : Before A i i
  pub none : (x : ℕ) → x < i → Before A x x → ⊥

-- every operation answers these numbers, whatever is lent or asked
pub record EveryGives (P : Planner) (s numbers : List ℕ) : Type 0 where
  pub verdict : verdict_numbers (P.verdict s) ≡ numbers
  pub needs : (n : ℕ) → output_numbers (P.needs.answer s n) ≡ numbers
  pub starts : (n : ℕ) → output_numbers (P.starts.answer s n) ≡ numbers
  pub overload : (n : ℕ) → output_numbers (P.overload.answer s n) ≡ numbers
  pub flow : (kind n : ℕ) → output_numbers ((P.flow kind).answer s n) ≡ numbers
  pub crew_check : (starts worked : List ℕ) → crew_check_numbers (P.crew_check s starts worked) ≡ numbers

-- some operation does, for something that is lent or asked
abbrev pub SomeGives : Planner → List ℕ → List ℕ → Type 0
SomeGives P s numbers =
    (verdict_numbers (P.verdict s) ≡ numbers)
    ⊎ (((n : ℕ) × (output_numbers (P.needs.answer s n) ≡ numbers))
    ⊎ (((n : ℕ) × (output_numbers (P.starts.answer s n) ≡ numbers))
    ⊎ (((n : ℕ) × (output_numbers (P.overload.answer s n) ≡ numbers))
    ⊎ (((kind : ℕ) × (n : ℕ) × (output_numbers ((P.flow kind).answer s n) ≡ numbers))
    ⊎ ((starts : List ℕ) × (worked : List ℕ)
    × (crew_check_numbers (P.crew_check s starts worked) ≡ numbers))))))

-- "lowest activity before itself there", where a circle is: activity i + 1
pub record Circles (P : Planner) (s : List ℕ) : Type 0 where
  -- "circle in the job order | 5"
  pub five : (i : ℕ) → Lowest (JobArc s) i → EveryGives P s (5 ∷ (i + 1) ∷ [])
  pub five_means : (i : ℕ) → SomeGives P s (5 ∷ (i + 1) ∷ []) → Lowest (JobArc s) i
  -- "circle in the plan order only | 6"
  pub six : (i : ℕ) → Acyclic (JobArc s) → Lowest (FileArc s) i → EveryGives P s (6 ∷ (i + 1) ∷ [])
  pub six_means : (i : ℕ) → SomeGives P s (6 ∷ (i + 1) ∷ []) → Acyclic (JobArc s) × Lowest (FileArc s) i

-- ---- the rule by which an arc is kept

-- in the durations w, how long after the start of i the arc from i to j lets j start. `arc_weight s` is the
-- file's: the duration, and the wait on the arc
abbrev pub Rule : Type 0
Rule = (ℕ → ℕ) → ℕ → ℕ → ℕ

-- the paper's: "the start of i plus its duration is at most the start of j" (Crew check)
abbrev pub paper_rule : Rule
paper_rule w i j = w i

-- ---- earliest starts, as Starts writes them to what it is lent: number i is the start of activity i + 1,
-- and number m that of the end

-- "Earliest starts are the least that keep all arcs,
-- and the end still follows the last finish." (02, change 5)
pub record EarliestStarts (P : Planner) (s : List ℕ) (rule : Rule) (out : List ℕ) : Type 0 where
  -- "Starts: m+1 numbers, activities 1 to m and then the end."
  pub answers : P.starts.answer s (length out) ≡ Ok (activity_count s + 1)
  -- "the end starts at the largest finish of all, or at 0."
  pub end : LargestOr0 (FinishOf (λ i. i < activity_count s) (at (P.starts.left s out)) (file_duration s))
      (get_or (P.starts.left s out) (activity_count s) 0)
  -- "Every schedule that keeps the arcs with the file's durations starts each no earlier.": nor the end, and
  -- the starts themselves are such a schedule
  pub least : (x : ℕ → ℕ) → Keeps (FileArc s) x (rule (file_duration s))
      → (i : ℕ) → i < activity_count s → get_or (P.starts.left s out) i 0 ≤ x i
  pub end_least : (x : ℕ → ℕ) → Keeps (FileArc s) x (rule (file_duration s))
      → (last : ℕ) → ((i : ℕ) → i < activity_count s → x i + file_duration s i ≤ last)
      → get_or (P.starts.left s out) (activity_count s) 0 ≤ last
  pub keep : Keeps (FileArc s) (at (P.starts.left s out)) (rule (file_duration s))
  -- "Numbers go to the front of the lent 32-bit slice, ..; the rest is unchanged"
  pub rest : drop (activity_count s + 1) (P.starts.left s out) ≡ drop (activity_count s + 1) out
  pub room : length (P.starts.left s out) ≡ length out

-- ---- crew check: "Given m starts and m worked durations", of one or more except for milestones,
-- which keep 0 (02, change 2)

pub record RightLists (s starts worked : List ℕ) : Type 0 where
  pub starts_all : length starts ≡ activity_count s
  pub worked_all : length worked ≡ activity_count s
  pub working : Workable s (at worked)

-- "whose occupied sum exceeds the availability": of kind k + 1 in period t
abbrev pub IsOver : List ℕ → List ℕ → List ℕ → ℕ → ℕ → Type 0
IsOver s starts worked t k = file_available s k < crew_occupies s k (at starts) (at worked) t

abbrev pub NotOver : List ℕ → List ℕ → List ℕ → ℕ → ℕ → Type 0
NotOver s starts worked t k = crew_occupies s k (at starts) (at worked) t ≤ file_available s k

-- in no period 1, 2, .. any kind of 1 to K is
abbrev pub NeverOver : List ℕ → List ℕ → List ℕ → Type 0
NeverOver s starts worked = (t k : ℕ) → 1 ≤ t → k < file_kinds s → NotOver s starts worked t k

-- "the first period, then lowest kind"
pub record FirstOverload (s starts worked : List ℕ) (t k : ℕ) : Type 0 where
  pub period : 1 ≤ t
  pub kind : k < file_kinds s
  pub over : IsOver s starts worked t k
  pub sooner : (u x : ℕ) → 1 ≤ u → u < t → x < file_kinds s → NotOver s starts worked u x
  pub lower : (x : ℕ) → x < k → NotOver s starts worked t x

pub record CrewCheck (P : Planner) (s : List ℕ) (rule : Rule) (starts worked : List ℕ) : Type 0 where
  -- "lists not m long, or a worked duration 0 | 10 | m"; a milestone's is 0, and 10 is given where it is not
  pub ten : (crew_check_numbers (P.crew_check s starts worked) ≡ 10 ∷ activity_count s ∷ [])
      ↔ (RightLists s starts worked → ⊥)
  -- "fits": exactly when every arc is kept, and no period of any kind is over
  pub fits : RightLists s starts worked
      → (P.crew_check s starts worked ≡ Ok Fits)
      ↔ (Keeps (FileArc s) (at starts) (rule (at worked)) × NeverOver s starts worked)
  -- "find the first arc i to j, by from and then to, with start of i plus its duration greater than the start
  -- of j.": by the rule, that is
  pub broken : RightLists s starts worked → (i j : ℕ)
      → (P.crew_check s starts worked ≡ Ok (Broken (i + 1) (j + 1)))
      ↔ FirstBroken (FileArc s) (at starts) (rule (at worked)) i j
  -- "If none, find the first period, then lowest kind, whose occupied sum exceeds the availability."
  pub overload : RightLists s starts worked → (t k : ℕ)
      → (P.crew_check s starts worked ≡ Ok (Overload t (k + 1)))
      ↔ (Keeps (FileArc s) (at starts) (rule (at worked)) × FirstOverload s starts worked t k)

-- ---- the load of a period: "its steps shall follow the text of section 1 of source document 000: started
-- by t−1, then finished no sooner than t, then added kind by kind" (02, change 4)

-- THE STEPS of a planner: a test of a start and a time; one of a start, a worked duration and a period; and
-- the load that is so added, by a plan, starts, worked durations and a period, a number for each kind. No
-- operation answers them, so they are no part of a Planner. Ours are `our_steps` of Ours.
pub record LoadSteps : Type 0 where
  pub begun_by : ℕ → ℕ → Bool
  pub unfinished_at : ℕ → ℕ → ℕ → Bool
  pub load : List ℕ → List ℕ → List ℕ → ℕ → List ℕ

-- activity i + 1 passes both tests in period t, the one by t − 1 and then the one by t
abbrev pub passes : LoadSteps → List ℕ → List ℕ → ℕ → ℕ → Bool
passes L starts worked t i =
    L.begun_by (at starts i) (t - 1) && L.unfinished_at (at starts i) (at worked i) t

pub record PeriodLoad (L : LoadSteps) (s starts worked : List ℕ) (t : ℕ) : Type 0 where
  -- "A(s, t) = {i ∈ N : s_i ≤ (t − 1)
  pub started : (i : ℕ) → i < activity_count s
      → (L.begun_by (at starts i) (t - 1) ≡ true) ↔ (at starts i ≤ t - 1)
  -- ∧ s_i + d_i ≥ t}, the activities that are active during period t" (000, section 1)
  pub finished : (i : ℕ) → i < activity_count s
      → (L.unfinished_at (at starts i) (at worked i) t ≡ true) ↔ (t ≤ at starts i + at worked i)
  -- "an activity passes both tests exactly when it is at work,
  pub an_activity : (i : ℕ) → i < activity_count s
      → passes L starts worked t i ≡ active (at starts) (at worked) t i
  -- and the load so added
  pub added : (k : ℕ) → k < file_kinds s
      → at (L.load s starts worked t) k
      ≡ sum (activity_count s) (λ i. cond (passes L starts worked t i) (file_demand s k i) 0)
  -- is the paper's sum for every period and kind": what is occupied, by which the crew check answers
  -- (`IsOver`) and of which demand 3 speaks
  pub paper_sum : (k : ℕ) → k < file_kinds s
      → at (L.load s starts worked t) k ≡ crew_occupies s k (at starts) (at worked) t
  -- "Sums never wrap.": neither the load, nor start plus duration, which are 32-bit,
  -- in the 64 bits of the code
  pub load_fits : (k : ℕ) → k < file_kinds s → at (L.load s starts worked t) k < 2 ^ 64
  pub finish_fits : (i : ℕ) → at starts i < 2 ^ 32 → at worked i < 2 ^ 32 → at starts i + at worked i < 2 ^ 64

-- "for all starts and durations the crew check takes", in every period t = 1, 2, ..
abbrev pub LoadSentence : LoadSteps → Type 0
LoadSentence L =
    (s : List ℕ) → AreBytes s → Readable s → (starts worked : List ℕ) → RightLists s starts worked
    → (t : ℕ) → 1 ≤ t → PeriodLoad L s starts worked t

-- ---- the sentence

-- where every wait is 0, they are the paper's
pub record PaperTimes (P : Planner) (s : List ℕ) : Type 0 where
  pub starts : (out : List ℕ) → activity_count s + 1 ≤ length out → EarliestStarts P s paper_rule out
  -- "An activity starts at the largest finish (start plus duration) of those before it, or at 0"
  pub largest : (out : List ℕ) → activity_count s + 1 ≤ length out → (j : ℕ) → j < activity_count s
      → LargestOr0 (FinishOf (λ i. Before (FileArc s) i j) (at (P.starts.left s out)) (file_duration s))
      (get_or (P.starts.left s out) j 0)
  pub crews : (starts worked : List ℕ) → CrewCheck P s paper_rule starts worked

pub record Paper (P : Planner) (s : List ℕ) : Type 0 where
  -- "For kind k, a flow gives each pair (i, j) a whole number of units (000, equations 1 and 2).": the
  -- records that Flow writes, read back
  pub flows : (k : ℕ) (out : List ℕ) (n : ℕ) → (P.flow (k + 1)).answer s (length out) ≡ Ok n
      → FileFlow s k (units_read n ((P.flow (k + 1)).left s out))
  pub starts : (out : List ℕ) → activity_count s + 1 ≤ length out → EarliestStarts P s (arc_weight s) out
  pub crews : (starts worked : List ℕ) → CrewCheck P s (arc_weight s) starts worked
  -- "Demand 2 holds them and the crew check to the paper where every wait is 0." (02, change 5)
  pub times : NoWaits s → PaperTimes P s

abbrev pub PaperSentence : Planner → Type 0
PaperSentence P = (s : List ℕ) → AreBytes s → Readable s → Circles P s × (Acyclic (FileArc s) → Paper P s)
