-- Crew check: what it answers.
use Rattle.std.specs.Prelude.{Bool, not, cond, ◌||◌, List, ℕ, ltb, eqb, length, get_or}
use Rattle.words.specs.Members.{some}
use Rattle.schedule.specs.Lists.{at}
use Rattle.schedule.specs.Network.{Network}
use Rattle.schedule.specs.Checks.{Work, check_of}
use Rattle.schedule.specs.model.Arrays.{crew_net, work_of}
use Rattle.schedule.specs.declared.Checked.{Checked}
use Rattle.planner.specs.Times.{arc_weight}
use Rattle.planner.specs.Faults.{Fault, outcome, or_cause}
use Rattle.planner.specs.Results.{CrewChecked}
use Rattle.planner.specs.Open.{plan_in, rows_of, fault_of}
use Rattle.planner.specs.declared.Cause.TheVariants.{Lists}

-- "10 is still given for a worked 0 on any other activity, and for a worked duration above 0 on a milestone"
-- (02, change 2): of an activity that has the duration d in the file and is worked in w
abbrev pub misworked : ℕ → ℕ → Bool
misworked d w = cond (eqb d 0) (ltb 0 w) (eqb w 0)

-- of some activity
unfoldable pub some_misworked : List ℕ → List ℕ → Bool
some_misworked durations worked = some (length worked) (λ i. misworked (get_or durations i 0) (get_or worked i 0))

-- "lists not m long, or a worked duration 0", by the rule above; the plan's durations are given
unfoldable pub bad_lists : ℕ → List ℕ → List ℕ → List ℕ → Bool
bad_lists m durations starts worked =
    not (eqb (length starts) m) || (not (eqb (length worked) m) || some_misworked durations worked)

-- "Crew check: 10.": the causes of the opening, then 10, which returns m
unfoldable pub crew_check_fault : List ℕ → List ℕ → List ℕ → Fault
crew_check_fault s starts worked =
    or_cause (fault_of s) (bad_lists (plan_in s).count (plan_in s).duration starts worked)
    (Lists (plan_in s).count)

-- the work of the crew, by the plan's demands and availabilities
abbrev pub crew_work : List ℕ → List ℕ → List ℕ → Work
crew_work s starts worked = work_of (plan_in s).demand (plan_in s).available starts worked

-- and the arcs that it has to keep: the plan's, each with what it asks in the worked durations
abbrev pub crew_arcs : List ℕ → List ℕ → List ℕ → Network
crew_arcs s starts worked = crew_net (rows_of s) (arc_weight s (at worked)) starts

-- "fits, broken arc, or overload with period .. and kind"
unfoldable pub crew_found : List ℕ → List ℕ → List ℕ → Checked
crew_found s starts worked = check_of (crew_arcs s starts worked) (crew_work s starts worked)

abbrev pub checked_of : Fault → Checked → CrewChecked
checked_of f found = outcome f found

-- THE ANSWER
abbrev pub crew_check_answer : List ℕ → List ℕ → List ℕ → CrewChecked
crew_check_answer s starts worked = checked_of (crew_check_fault s starts worked) (crew_found s starts worked)
