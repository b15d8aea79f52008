-- Starts: what it answers, and what the lent numbers then hold.
use Rattle.std.specs.Prelude.{cond, List, ℕ, ◌+◌, ltb, length, get_or}
use Rattle.words.specs.Tables.{table}
use Rattle.schedule.specs.Starts.{end_of}
use Rattle.schedule.specs.model.Arrays.{starts_of}
use Rattle.schedule.specs.Lists.{at}
use Rattle.planner.specs.Faults.{Fault, or_short}
use Rattle.planner.specs.Results.{Output}
use Rattle.planner.specs.Open.{plan_in, rows_of, fault_of}
use Rattle.planner.specs.Times.{arc_weight}
use Rattle.planner.specs.Output.{output_of, lent_after}

-- "Starts: m+1 numbers, activities 1 to m and then the end."
abbrev pub needed : List ℕ → ℕ
needed s = (plan_in s).count + 1

-- "Needs, Starts, Overload: 9."; n numbers are lent
unfoldable pub starts_fault : List ℕ → ℕ → Fault
starts_fault s n = or_short (fault_of s) n (needed s)

-- THE ANSWER
abbrev pub starts_answer : List ℕ → ℕ → Output
starts_answer s n = output_of (starts_fault s n) (needed s)

-- the earliest starts of all elements, by the plan's arcs, and the file's durations and waits
abbrev pub first_starts : List ℕ → List ℕ
first_starts s = starts_of (rows_of s) (arc_weight s (at (plan_in s).duration))

-- the start of the end: "the end still follows the last finish" (02, change 5)
abbrev pub end_start : List ℕ → ℕ
end_start s = end_of (plan_in s).count (at (first_starts s)) (at (plan_in s).duration)

-- the first m of the starts, and one number more
unfoldable pub with_end : ℕ → List ℕ → ℕ → List ℕ
with_end m starts end = table (m + 1) (λ i. cond (ltb i m) (get_or starts i 0) end)

unfoldable pub start_numbers : List ℕ → List ℕ
start_numbers s = with_end (plan_in s).count (first_starts s) (end_start s)

-- THE LENT NUMBERS
unfoldable pub starts_out : List ℕ → List ℕ → List ℕ
starts_out s out = lent_after (starts_fault s (length out)) (start_numbers s) out
