-- What Sheet goes by: the starts of a plan, by the arcs of a file,
-- in room for those of all elements and of the end.
use Rattle.std.specs.Prelude.{List, ℕ, ◌+◌, replicate}
use Rattle.words.specs.Tables.{over}
use Rattle.order.specs.Stored.{elements}
use Rattle.plan.specs.declared.Plan.{Plan}
use Rattle.schedule.specs.Lists.{at}
use Rattle.schedule.specs.Starts.{end_of}
use Rattle.schedule.specs.model.Arrays.{starts_of}
use Rattle.planner.specs.Times.{arc_weight}
use Rattle.planner.specs.Starts.{with_end}

abbrev pub starts_in : List ℕ → List ℕ → Plan → List ℕ
starts_in s rows q =
    let first = starts_of rows (arc_weight s (at q.duration)) in
    over (q.count + 1)
    (with_end q.count first (end_of q.count (at first) (at q.duration)))
    (replicate (elements + 1) 0)
