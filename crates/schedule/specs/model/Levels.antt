-- ONLY FOR THE PROOFS OF THE CODE: the words and lists by which it comes to the earliest starts, level by
-- level, and how it finds the first period. Nothing here is needed to read what the crate promises.
use Rattle.std.specs.Prelude.{◌≡◌, true, false, cond, List, ℕ, suc, ◌≤◌, ◌<◌, ltb, set, Option, Some, None}
use Rattle.std.specs.Int.Bits.{bit_or}
use Rattle.words.specs.Bits.{bit, minus}
use Rattle.words.specs.Tables.{table}
use Rattle.words.specs.model.Loops.{each, upto}
use Rattle.order.specs.Stored.{row}
use Rattle.schedule.specs.Network.{Network, Schedule, Ranked}
use Rattle.schedule.specs.Starts.{asked, earliest_of}
use Rattle.schedule.specs.Checks.{Work, lowest_kind, overloaded}
use Rattle.schedule.specs.model.Arrays.{net_of}
use Rattle.order.specs.Stored.{elements, everyone}

-- ---- earliest starts. `done` is the word of the elements that have their start.

-- the row of the element i, as far as it still keeps others waiting: not at all once i is done
abbrev pub open_row : ℕ → ℕ → ℕ → ℕ
open_row done i w = cond (bit done i) 0 w

-- the elements that have an arc from one of the first n that is not done
unfoldable pub waiting_for : ℕ → List ℕ → ℕ → ℕ
waiting_for n rows done = upto (λ i w. bit_or w (open_row done i (row rows i))) n 0

-- the elements that are not done, and whose arcs all come from elements that are
unfoldable pub ready_of : List ℕ → ℕ → ℕ
ready_of rows done = minus (minus (everyone) (waiting_for elements rows done)) done

-- one level: each ready element gets what the arcs ask of it by the starts s, in the list l
abbrev pub place : Network → Schedule → List ℕ → ℕ → List ℕ
place g s l j = set l j (asked g s j)

abbrev pub placed : Network → Schedule → List ℕ → ℕ → List ℕ
placed g s l ready = each elements (place g s) l ready

-- the starts of those that are done, and 0 for the others
unfoldable pub starts_by : Network → ℕ → List ℕ
starts_by g done = table elements (λ i. cond (bit done i) (earliest_of g i) 0)

-- each element of rank below r is done, by whatever rank rises along every arc
abbrev pub RanksDone : List ℕ → (ℕ → ℕ → ℕ) → ℕ → ℕ → Type 0
RanksDone rows weight done r =
    (R : Ranked (net_of rows weight)) (j : ℕ) → j < elements → R.rank j < r → bit done j ≡ true

-- ---- the first period. What is occupied rises only after a start,
-- so only the periods that follow one are tried.

-- what is found: nothing, or an overloaded period and the lowest kind that is exceeded in it, no later than
-- any overloaded period that follows the start of one of the first n
abbrev pub Soonest : Work → ℕ → Option (ℕ × ℕ) → Type 0
Soonest c n None = (i : ℕ) → i < n → overloaded c (suc (c.start i)) ≡ false
Soonest c n (Some f) =
    (overloaded c f.0 ≡ true)
    × (f.1 ≡ lowest_kind c f.0)
    × ((i : ℕ) → i < n → overloaded c (suc (c.start i)) ≡ true → f.0 ≤ suc (c.start i))

-- the sooner of what is found and another period, each with its kind
abbrev pub sooner_over : Option (ℕ × ℕ) → ℕ × ℕ → ℕ × ℕ
sooner_over None o = o
sooner_over (Some f) o = cond (ltb o.0 f.0) o f
