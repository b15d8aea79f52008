-- The load of a period, in the steps of the paper (document 000, section 1): "For period t ∈ N0, we define
-- A(s, t) = {i ∈ N : s_i ≤ (t − 1) ∧ s_i + d_i ≥ t}, the activities that are active during period t.", and of
-- each kind k the sum of r_ik over them; document 01 says "at work" and "occupied". The code takes these
-- steps in this order (src/load.rt). Who passes both tests is who is at work, and the load is what is
-- occupied: `both_tests` and `load_kind` of proofs/PeriodLoads.antt.
use Rattle.std.specs.Prelude.{Bool, cond, ◌&&◌, List, ℕ, ◌+◌, ◌-◌, leb}
use Rattle.words.specs.Sums.{sum}
use Rattle.words.specs.Tables.{table}
use Rattle.schedule.specs.Checks.{Work}

-- "s_i ≤ (t − 1)": the activity is started by the time t − 1, when period t begins
abbrev pub started_by : ℕ → ℕ → Bool
started_by start time = leb start time

-- "s_i + d_i ≥ t": it is finished no sooner than t
abbrev pub finished_no_sooner : ℕ → ℕ → ℕ → Bool
finished_no_sooner start worked t = leb t (start + worked)

-- i ∈ A(s, t): it passes both tests, in this order
abbrev pub passes : Work → ℕ → ℕ → Bool
passes c t i = started_by (c.start i) (t - 1) && finished_no_sooner (c.start i) (c.worked i) t

-- THE LOAD of period t: of each kind, the demands of those who pass both tests
abbrev pub load_of : Work → ℕ → List ℕ
load_of c t = table c.kinds (λ k. sum c.count (λ i. cond (passes c t i) (c.demand k i) 0))
