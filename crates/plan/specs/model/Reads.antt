-- The reading of a file.
use Rattle.std.specs.Prelude.{cond, Result, Ok, Err, List, ℕ}
use Rattle.plan.specs.declared.Plan.{Plan}
use Rattle.plan.specs.declared.Cause.{Cause}
use Rattle.plan.specs.Causes.{Answer, is_readable, answer_of}
use Rattle.plan.specs.model.Plans.{plan_of, empty_plan}

-- the answer, and the plan where the file is readable
pub record Reading : Type 0 where
  pub plan : Plan
  pub answer : Answer

unfoldable pub read_of : List ℕ → Reading
read_of s =
    let plan = plan_of s in
    record { plan = cond (is_readable (answer_of s)) plan empty_plan; answer = answer_of s }

-- as the code gives it: the plan, or the cause of the refusal
abbrev pub given : Answer → Plan → Result Plan Cause
given (Ok _) q = Ok q
given (Err c) q = Err c

abbrev pub outcome : Reading → Result Plan Cause
outcome r = given r.answer r.plan
