-- Overload: what it answers, and what the lent bytes then hold.
use Rattle.std.specs.Prelude.{cond, List, [], ℕ, ◌+◌, length}
use Rattle.order.specs.Stored.{number_of}
use Rattle.order.specs.Sets.{size_of}
use Rattle.records.specs.Records.{overload_record}
use Rattle.plan.specs.declared.Plan.{Plan}
use Rattle.planner.specs.Faults.{Fault, or_short}
use Rattle.planner.specs.Results.{Output}
use Rattle.planner.specs.Open.{plan_in, fault_of}
use Rattle.planner.specs.Output.{output_of, lent_after}
use Rattle.planner.specs.Need.{need_for, over_kind, is_overloaded, shown_set}

-- "Needs, Starts, Overload: 9.": "24 bytes for Overload", also where the plan is accepted; n bytes are lent
unfoldable pub overload_fault : List ℕ → ℕ → Fault
overload_fault s n = or_short (fault_of s) n 24

-- "Overload: its record, or "none" when accepted.": how many records that are, and their bytes
unfoldable pub over_count : Plan → ℕ
over_count q = cond (is_overloaded q) 1 0

unfoldable pub over_bytes : Plan → List ℕ
over_bytes q =
    let bytes = overload_record (over_kind q + 1) (size_of (shown_set q (over_kind q)))
    (need_for q (over_kind q)) (number_of (shown_set q (over_kind q))) in
    cond (is_overloaded q) bytes []

-- THE ANSWER
abbrev pub overload_answer : List ℕ → ℕ → Output
overload_answer s n = output_of (overload_fault s n) (over_count (plan_in s))

-- THE LENT BYTES
unfoldable pub overload_out : List ℕ → List ℕ → List ℕ
overload_out s out = lent_after (overload_fault s (length out)) (over_bytes (plan_in s)) out
