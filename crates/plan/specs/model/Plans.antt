-- The plan that a readable file says, as tables: of what is in force by Meaning, and of the arcs by ArcRows.
use Rattle.std.specs.Prelude.{cond, List, ℕ, ◌*◌, ◌/◌, ◌%◌, ltb, replicate}
use Rattle.words.specs.Tables.{table}
use Rattle.order.specs.Stored.{elements, cells}
use Rattle.plan.specs.declared.Plan.{Plan}
use Rattle.plan.specs.Records.{activity_count}
use Rattle.plan.specs.Meaning.{file_duration, file_demand, file_kinds, file_available}
use Rattle.plan.specs.model.ArcRows.{arc_rows}

unfoldable pub durations_of : List ℕ → List ℕ
durations_of s = table elements (λ i. cond (ltb i (activity_count s)) (file_duration s i) 0)

-- the demand of element i for kind k + 1 stands at elements * k + i. (`demands_of` of Records, which the crew
-- record is checked by, goes by the activity records.)
unfoldable pub demand_table : List ℕ → List ℕ
demand_table s =
    table (8 * elements)
    (λ x. cond (ltb (x % elements) (activity_count s)) (file_demand s (x / elements) (x % elements)) 0)

unfoldable pub available_of : List ℕ → List ℕ
available_of s = table 8 (file_available s)

unfoldable pub plan_of : List ℕ → Plan
plan_of s =
    record {
      count = activity_count s;
      kinds = file_kinds s;
      duration = durations_of s;
      demand = demand_table s;
      available = available_of s;
      job = arc_rows s 3;
      extra = arc_rows s 4;
    }

-- a plan with other extra arcs
abbrev pub with_extra : Plan → List ℕ → Plan
with_extra q extra =
    record {
      count = q.count;
      kinds = q.kinds;
      duration = q.duration;
      demand = q.demand;
      available = q.available;
      job = q.job;
      extra = extra;
    }

-- the plan that stands beside a refusal
unfoldable pub empty_plan : Plan
empty_plan =
    record {
      count = 0;
      kinds = 0;
      duration = replicate elements 0;
      demand = replicate (8 * elements) 0;
      available = replicate 8 0;
      job = replicate (cells elements) 0;
      extra = replicate (cells elements) 0;
    }
