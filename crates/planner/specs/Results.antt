-- What the operations answer with. (`Result` is the kit's.)
use Rattle.std.specs.Prelude.{ℕ, Result, Ok}
use Rattle.schedule.specs.declared.Checked.{Checked}
use Rattle.planner.specs.declared.Accepted.{Accepted}
use Rattle.planner.specs.declared.Cause.{Cause}

-- what the operations that write answer: so many numbers or records are written (of a sheet: so many pages
-- there are), or the cause of the refusal
abbrev pub Output : Type 0
Output = Result ℕ Cause

-- what Verdict answers: the plan is accepted, with m and K, or it is refused
abbrev pub Decision : Type 0
Decision = Result Accepted Cause

abbrev pub accepted : ℕ → ℕ → Decision
accepted m n = Ok (record { activities = m; kinds = n })

-- what Crew check answers: what was found, or why nothing was looked at
abbrev pub CrewChecked : Type 0
CrewChecked = Result Checked Cause
