-- Trim (document 02, change 7): what it answers, and what the lent bytes then hold.
-- Quotations are from there.
use Rattle.std.specs.Prelude.{Bool, cond, ◌&&◌, List, ℕ, zero, suc, ◌*◌, ◌/◌, ◌%◌, eqb, length}
use Rattle.order.specs.Stored.{elements}
use Rattle.order.specs.Rows.{after}
use Rattle.order.specs.Orders.{without_arc}
use Rattle.plan.specs.Records.{record_count}
use Rattle.plan.specs.Meaning.{extra_wait}
use Rattle.plan.specs.Filtered.{filtered}
use Rattle.plan.specs.model.ArcRows.{stays_by}
use Rattle.plan.specs.model.Plans.{with_extra}
use Rattle.planner.specs.Faults.{Fault, or_short}
use Rattle.planner.specs.Results.{Output}
use Rattle.planner.specs.Open.{plan_in, fault_of}
use Rattle.planner.specs.Need.{or_overloaded}
use Rattle.planner.specs.Verdict.{is_accepted}
use Rattle.planner.specs.Output.{output_of, lent_after}

-- "its extra arcs by from, then to": the pairs of elements count as 0, 1, 2, ..; pair x is that from
-- x / elements to x % elements
abbrev pub pair_from : ℕ → ℕ
pair_from x = x / elements

abbrev pub pair_to : ℕ → ℕ
pair_to x = x % elements

-- "Each arc with wait 0": an extra arc of the file that may go, by its own wait; a job arc of the
-- same pair has one of its own
unfoldable pub may_go : List ℕ → ℕ → ℕ → Bool
may_go s i j = after (plan_in s).extra i j && eqb (extra_wait s i j) 0

-- ".. is taken out if the plan then left is still accepted; an arc with a longer wait always remains.": the
-- extra arcs that are left of those of some rows, after pair x
unfoldable pub trim_step : List ℕ → ℕ → List ℕ → List ℕ
trim_step s x extra =
    let less = without_arc extra (pair_from x) (pair_to x) in
    cond (may_go s (pair_from x) (pair_to x) && is_accepted (with_extra (plan_in s) less)) less extra

-- those of the file that are left when the first n pairs have been considered
unfoldable pub trim_up_to : List ℕ → ℕ → List ℕ
trim_up_to s zero = (plan_in s).extra
trim_up_to s (suc x) = trim_step s x (trim_up_to s x)

-- and when all have: an arc is from an activity
unfoldable pub trimmed_rows : List ℕ → List ℕ
trimmed_rows s = trim_up_to s (elements * (plan_in s).count)

-- THE TRIMMED FILE: "with its other records in their order"
unfoldable pub trimmed_file : List ℕ → List ℕ
trimmed_file s = filtered (stays_by (trimmed_rows s) s) s

-- "9 comes after the circles and needs the given file's length; 7 comes last."; n bytes are lent
unfoldable pub trim_fault : List ℕ → ℕ → Fault
trim_fault s n = or_overloaded (or_short (fault_of s) n (length s)) (plan_in s)

-- THE ANSWER: "its record count is returned"
abbrev pub trim_answer : List ℕ → ℕ → Output
trim_answer s n = output_of (trim_fault s n) (record_count (trimmed_file s))

-- THE LENT BYTES: "written to the front of the lent bytes", "and the bytes after it are unchanged"
unfoldable pub trim_out : List ℕ → List ℕ → List ℕ
trim_out s out = lent_after (trim_fault s (length out)) (trimmed_file s) out
