-- A plan's arrays: arcs as a table of sets, a wait for each pair of elements, a duration for each element,
-- and a demand for each kind and element.
use Rattle.std.specs.Prelude.{◌≡◌, List, ℕ, ◌+◌, ◌*◌, ◌^◌, ◌≤◌, ◌<◌, length}
use Rattle.words.specs.Tables.{table}
use Rattle.order.specs.Rows.{after}
use Rattle.schedule.specs.Lists.{at}
use Rattle.schedule.specs.Network.{Network}
use Rattle.schedule.specs.Starts.{earliest_of}
use Rattle.schedule.specs.Checks.{Work}
use Rattle.order.specs.Stored.{elements}

-- ---- for the earliest starts

-- the network of all elements with an arc from i to each member of row i
abbrev pub net_of : List ℕ → (ℕ → ℕ → ℕ) → Network
net_of rows weight = record { elements = elements; arc = after rows; weight = weight }

-- the weight of an arc without a wait: the duration of the element that it comes from
abbrev pub by_duration : List ℕ → ℕ → ℕ → ℕ
by_duration durations i j = at durations i

-- the weight of an arc with a wait: the duration of the element that it comes from, and the wait on the arc
-- from i to j, which stands at elements * j + i (the arcs into j together)
abbrev pub with_waits : List ℕ → List ℕ → ℕ → ℕ → ℕ
with_waits durations waits i j = at durations i + at waits (elements * j + i)

-- the earliest starts of all elements
unfoldable pub starts_of : List ℕ → (ℕ → ℕ → ℕ) → List ℕ
starts_of rows weight = table elements (earliest_of (net_of rows weight))

-- each of the numbers is at most b (a file's durations and waits are at most 65,535)
abbrev pub AllAtMost : ℕ → List ℕ → Type 0
AllAtMost b xs = (i : ℕ) → at xs i ≤ b

-- no start and weight together pass 32 bits
abbrev pub FinishesFit : List ℕ → (ℕ → ℕ → ℕ) → Type 0
FinishesFit starts weight = (i j : ℕ) → i < elements → at starts i + weight i j < 2 ^ 32

-- ---- for the crew check: "Given m starts and m worked durations"

-- a start and a worked duration for each activity, of which there are no more than elements
pub record Listed (starts worked : List ℕ) : Type 0 where
  pub few : length starts ≤ elements
  pub paired : length worked ≡ length starts

-- the network of as many elements as there are starts
abbrev pub crew_net : List ℕ → (ℕ → ℕ → ℕ) → List ℕ → Network
crew_net rows weight starts = record { elements = length starts; arc = after rows; weight = weight }

-- the work of the crew: the demand of the element i for kind k stands at elements * k + i
abbrev pub work_of : List ℕ → List ℕ → List ℕ → List ℕ → Work
work_of demands available starts worked =
    record {
      count = length starts;
      start = at starts;
      worked = at worked;
      kinds = 8;
      demand = λ k i. at demands (elements * k + i);
      available = at available;
    }
