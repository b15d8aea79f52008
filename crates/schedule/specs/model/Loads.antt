-- ONLY FOR THE PROOFS OF THE CODE: the load of a period as it grows, activity by activity and kind by kind.
use Rattle.std.specs.Prelude.{cond, List, ℕ, ◌+◌}
use Rattle.words.specs.Sums.{sum}
use Rattle.words.specs.Tables.{table}
use Rattle.schedule.specs.Lists.{at}
use Rattle.schedule.specs.Checks.{Work}
use Rattle.schedule.specs.PeriodLoad.{passes}

-- a load of so many kinds, to which an activity's demand d k is added, kind by kind
abbrev pub with_demands : ℕ → (ℕ → ℕ) → List ℕ → List ℕ
with_demands kinds d load = table kinds (λ k. at load k + d k)

-- the load of period t by the first n activities alone
abbrev pub load_up_to : Work → ℕ → ℕ → List ℕ
load_up_to c t n = table c.kinds (λ k. sum n (λ i. cond (passes c t i) (c.demand k i) 0))
