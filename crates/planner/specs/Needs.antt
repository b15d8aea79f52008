-- Needs: what it answers, and what the lent numbers then hold.
use Rattle.std.specs.Prelude.{List, ℕ, length}
use Rattle.words.specs.Tables.{table}
use Rattle.planner.specs.Faults.{Fault, or_short}
use Rattle.planner.specs.Results.{Output}
use Rattle.planner.specs.Open.{plan_in, fault_of}
use Rattle.planner.specs.Output.{output_of, lent_after}
use Rattle.planner.specs.Need.{need_for}

-- "Needs, Starts, Overload: 9.": "Lengths needed: K"; n numbers are lent
unfoldable pub needs_fault : List ℕ → ℕ → Fault
needs_fault s n = or_short (fault_of s) n (plan_in s).kinds

-- THE ANSWER
abbrev pub needs_answer : List ℕ → ℕ → Output
needs_answer s n = output_of (needs_fault s n) (plan_in s).kinds

-- "Needs: K numbers, the need of each kind from 1 to K."
unfoldable pub need_numbers : List ℕ → List ℕ
need_numbers s = table (plan_in s).kinds (need_for (plan_in s))

-- THE LENT NUMBERS
unfoldable pub needs_out : List ℕ → List ℕ → List ℕ
needs_out s out = lent_after (needs_fault s (length out)) (need_numbers s) out
