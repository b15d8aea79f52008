-- THE PRICE-LIST SENTENCE: demand 3 of document 00, sentence by sentence, about what the operations of a
-- planner P answer and write, for every readable plan without a circle (`PriceListSentence P`). Ours meets
-- it: `price_list` of proofs/PriceListHolds.antt. The hollow planners of document 01 do not: Hollow. Two
-- planners that meet it refuse the same plans: `same_verdict` of proofs/DemandsHold.antt. Sets, crews, flows
-- and the file's fields are those of planner's File and Times.
use Rattle.std.specs.Prelude.{◌≡◌, [], ◌∷◌, ◌↔◌, ◌+◌, ◌-◌, ◌≤◌, ◌<◌}
use Rattle.std.specs.Prelude.{Bool, true, List, ℕ, length, get_or, replicate, Ok, Err}
use Rattle.words.specs.Bits.{bit}
use Rattle.words.specs.Members.{count}
use Rattle.order.specs.Stored.{elements}
use Rattle.order.specs.Before.{Acyclic}
use Rattle.records.specs.Bytes.{AreBytes, byte, field}
use Rattle.plan.specs.Meaning.{Readable, FileArc, file_kinds, file_demand, file_available}
use Rattle.plan.specs.Records.{activity_count}
use Rattle.kinds.specs.Reading.{units_read}
use Rattle.planner.specs.Results.{accepted}
use Rattle.planner.specs.Numbers.{numbers_of}
use Rattle.planner.specs.File.{Unrelated, demand_sum, FileFlow, flow_length}
use Rattle.planner.specs.Times.{FileCrew, crew_occupies}
use Rattle.promises.specs.Planner.{Planner}
use Rattle.planner.specs.declared.Cause.{Cause}

-- the quoted need of kind k: what Needs writes at k where K numbers are lent
abbrev pub quoted_need : Planner → List ℕ → ℕ → ℕ
quoted_need P s k = get_or (P.needs.left s (replicate (file_kinds s) 0)) k 0

-- the need of kind k exceeds what is available
abbrev pub Exceeds : Planner → List ℕ → ℕ → Type 0
Exceeds P s k = (k < file_kinds s) × (file_available s k < quoted_need P s k)

-- no need does
abbrev pub Enough : Planner → List ℕ → Type 0
Enough P s = (k : ℕ) → k < file_kinds s → quoted_need P s k ≤ file_available s k

-- a cause is 7, with these values
abbrev pub IsSeven : Cause → ℕ → ℕ → ℕ → ℕ → Type 0
IsSeven c kind need set size = numbers_of c ≡ 7 ∷ kind ∷ need ∷ set ∷ size ∷ []

-- "The set shown, by whichever operation, is unrelated, belongs to the lowest such kind, has that need as its
-- sum, and holds only activities that demand the kind." (01, Need and overload) "A set is a 64-bit word, bit
-- i−1 for activity i, and its size is the count of ones."
pub record Shown (P : Planner) (s : List ℕ) (kind need set size : ℕ) : Type 0 where
  pub index : ℕ
  pub kind_is : kind ≡ index + 1
  pub exceeds : Exceeds P s index
  pub lowest : (k : ℕ) → k < index → quoted_need P s k ≤ file_available s k
  pub need_is : need ≡ quoted_need P s index
  pub unrelated : Unrelated s (bit set)
  pub demands : demand_sum s index (bit set) ≡ need
  pub members : (i : ℕ) → bit set i ≡ true → (i < activity_count s) × (0 < file_demand s index i)
  pub size_is : size ≡ count elements (bit set)

pub record PriceList (P : Planner) (s : List ℕ) : Type 0 where
  -- "They share one number for each kind of worker, the quoted need, as Needs writes it.": whatever
  -- is lent, if it is long enough
  pub answers : (out : List ℕ) → file_kinds s ≤ length out
      → P.needs.answer s (length out) ≡ Ok (file_kinds s)
  pub writes : (out : List ℕ) → file_kinds s ≤ length out
      → (k : ℕ) → k < file_kinds s → get_or (P.needs.left s out) k 0 ≡ quoted_need P s k
  -- "It is the greatest demand of any set of activities no two of which are ordered: some such set demands
  -- exactly that, and every other at most as much."
  pub some_set : (k : ℕ) → k < file_kinds s
      → (S : ℕ → Bool) × Unrelated s S × (demand_sum s k S ≡ quoted_need P s k)
  pub every_set : (k : ℕ) → k < file_kinds s
      → (S : ℕ → Bool) → Unrelated s S → demand_sum s k S ≤ quoted_need P s k
  -- "No crew has more of that kind occupied in any period, and some crew has exactly that in some period."
  pub no_crew : (k : ℕ) → k < file_kinds s → (starts worked : ℕ → ℕ) → FileCrew s starts worked
      → (t : ℕ) → 1 ≤ t → crew_occupies s k starts worked t ≤ quoted_need P s k
  pub some_crew : (k : ℕ) → k < file_kinds s
      → (starts : ℕ → ℕ) × (worked : ℕ → ℕ) × (t : ℕ)
      × FileCrew s starts worked × (1 ≤ t) × (crew_occupies s k starts worked t ≡ quoted_need P s k)
  -- "Verdict refuses the plan as overloaded exactly when some need exceeds what is available, and shows such
  -- a set that demands exactly this need."
  pub refuses : ((c : Cause) × (P.verdict s ≡ Err c)) ↔ ((k : ℕ) × Exceeds P s k)
  pub shows : (c : Cause) → P.verdict s ≡ Err c
      → (kind : ℕ) × (need : ℕ) × (set : ℕ) × (size : ℕ)
      × IsSeven c kind need set size × Shown P s kind need set size
  -- "Any set that Overload or Flow shows is one too.": in the record that Overload writes,
  -- and in a refusal of Flow as 7
  pub overload_shows : (out : List ℕ) → P.overload.answer s (length out) ≡ Ok 1
      → Shown P s
      (byte (P.overload.left s out) 1) (field (P.overload.left s out) 4 4)
      (field (P.overload.left s out) 8 8) (byte (P.overload.left s out) 2)
  pub flow_shows : (kind₀ n : ℕ) (c : Cause) (kind need set size : ℕ)
      → (P.flow kind₀).answer s n ≡ Err c → IsSeven c kind need set size → Shown P s kind need set size
  -- "Otherwise Verdict accepts,
  pub accepts : Enough P s → P.verdict s ≡ accepted (activity_count s) (file_kinds s)
  -- and the flow shown for a kind meets the paper's equations, passes units only along the order,
  -- and leaves exactly available minus need unused.": a flow is shown for each kind, and its n records,
  -- read back, say so
  pub flows : Enough P s → (k : ℕ) → k < file_kinds s
      → (out : List ℕ) → flow_length (activity_count s) ≤ length out
      → (n : ℕ) × ((P.flow (k + 1)).answer s (length out) ≡ Ok n)
  pub meets : (k : ℕ) (out : List ℕ) (n : ℕ) → (P.flow (k + 1)).answer s (length out) ≡ Ok n
      → FileFlow s k (units_read n ((P.flow (k + 1)).left s out))
  pub unused : (k : ℕ) (out : List ℕ) (n : ℕ) → (P.flow (k + 1)).answer s (length out) ≡ Ok n
      → units_read n ((P.flow (k + 1)).left s out) 0 (activity_count s + 1)
      ≡ file_available s k - quoted_need P s k

-- "The desk holds any readable plan without a circle.":
-- of every such plan, a file of bytes, all of this holds
abbrev pub PriceListSentence : Planner → Type 0
PriceListSentence P = (s : List ℕ) → AreBytes s → Readable s → Acyclic (FileArc s) → PriceList P s
