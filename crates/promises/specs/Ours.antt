-- OUR PLANNER: what the code does, by its contracts in planner/src. Each part is the definition that the
-- contract of that operation names, so this file, and no other of the demands, reaches the definitions of
-- what the operations answer and write.
use Rattle.std.specs.Prelude.{[]}
use Rattle.schedule.specs.PeriodLoad.{started_by, finished_no_sooner, load_of}
use Rattle.schedule.specs.model.Arrays.{work_of}
use Rattle.planner.specs.Open.{plan_in}
use Rattle.planner.specs.Verdict.{verdict_answer}
use Rattle.planner.specs.Needs.{needs_answer, needs_out}
use Rattle.planner.specs.Starts.{starts_answer, starts_out}
use Rattle.planner.specs.Overload.{overload_answer, overload_out}
use Rattle.planner.specs.Flow.{flow_answer, flow_out}
use Rattle.planner.specs.CrewCheck.{crew_check_answer}
use Rattle.planner.specs.Sheet.{sheet_answer, sheet_out}
use Rattle.planner.specs.Trim.{trim_answer, trim_out}
use Rattle.promises.specs.Planner.{Writing, Planner}
use Rattle.promises.specs.Paper.{LoadSteps}
use Rattle.promises.specs.Sheet.{SheetOperation}

abbrev pub ours : Planner
ours =
    record {
      verdict = verdict_answer;
      needs = record { answer = needs_answer; left = needs_out };
      starts = record { answer = starts_answer; left = starts_out };
      overload = record { answer = overload_answer; left = overload_out };
      flow = λ kind. record { answer = λ s n. flow_answer s kind n; left = λ s out. flow_out s kind out };
      crew_check = crew_check_answer;
    }

-- its Sheet (document 02, change 1)
abbrev pub our_sheet : SheetOperation
our_sheet kind page =
    record { answer = λ s n. sheet_answer s kind page n; left = λ s out. sheet_out s kind page out }

-- its Trim (change 7)
abbrev pub our_trim : Writing
our_trim = record { answer = trim_answer; left = trim_out }

-- and the steps of its load sum (change 4), by the contracts in schedule/src/load.rt: `started_by`,
-- `finished_no_sooner`, and `period_load` on the plan's demands
abbrev pub our_steps : LoadSteps
our_steps =
    record {
      begun_by = started_by;
      unfinished_at = finished_no_sooner;
      load = λ s starts worked t. load_of (work_of (plan_in s).demand [] starts worked) t;
    }
