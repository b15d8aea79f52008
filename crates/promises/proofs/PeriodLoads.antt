-- The load of a period is added in the paper's steps, and is the paper's sum, in the file's own terms.
use mathlib.Core.Path.{◌≡◌, sym, ap, ◌∙◌}
use mathlib.Core.Bool.{Bool, cond}
use mathlib.Core.List.{List, []}
use Prim.Native.Nat.{ℕ, ◌+◌, ◌*◌, ◌-◌, ◌≤◌, ◌<◌}
use native.Mathlib.Omega.{arith}
use borrow.Author.Tests.{leb-true, le-leb}
use Rattle.words.specs.Sums.{sum}
use Rattle.words.proofs.Sums.{sum_cong, sum_bound}
use Rattle.words.proofs.Tests.{cond_least}
use Rattle.records.specs.Bytes.{AreBytes}
use Rattle.plan.specs.Records.{activity_count}
use Rattle.plan.specs.Meaning.{Readable, file_kinds, file_demand}
use Rattle.plan.proofs.Said.{file_demand_small}
use Rattle.flow_math.specs.Crew as crew
use Rattle.schedule.specs.Checks.{Work, at_work}
use Rattle.schedule.specs.Lists.{at}
use Rattle.schedule.specs.PeriodLoad.{load_of}
use Rattle.schedule.specs.model.Arrays.{work_of}
use Rattle.schedule.proofs.PeriodLoads.{both_tests, load_kind}
use Rattle.planner.specs.Open.{plan_in}
use Rattle.planner.specs.Times.{crew_occupies}
use Rattle.planner.proofs.OpenLaws.{count_few}
use Rattle.planner.proofs.CrewCheckLaws.{crew_occupied}
use Rattle.planner.proofs.QuotedNeeds.{count_in, kind_in}
use Rattle.promises.specs.Ours.{our_steps}
use Rattle.promises.specs.Paper.{RightLists, passes, PeriodLoad}

module _ (s : List ℕ) (small : AreBytes s) (r : Readable s) (starts worked : List ℕ) (R : RightLists s starts worked) (t : ℕ) (one : 1 ≤ t) where
  abbrev c : Work
  c = work_of (plan_in s).demand [] starts worked

  -- the paper's sum: over those at work
  the_sum : (k : ℕ) → k < file_kinds s → at (load_of c t) k ≡ crew_occupies s k (at starts) (at worked) t
  the_sum k h = load_kind c t k one (kind_in s r h) ∙ crew_occupied s starts worked r R.starts_all t k (kind_in s r h)

  -- it is the one over those who pass both tests
  sum_passing : (k : ℕ) → crew_occupies s k (at starts) (at worked) t ≡ sum (activity_count s) (λ i. cond (passes our_steps starts worked t i) (file_demand s k i) 0)
  unfolding crew.occupied
  sum_passing k = sum_cong (activity_count s) _ _ (λ i l. ap (λ (b : Bool). cond b (file_demand s k i) 0) (sym (both_tests c t i one)))

  -- no demand is above 65,535, and there are no more activities than elements
  sum_small : (k : ℕ) → crew_occupies s k (at starts) (at worked) t ≤ activity_count s * 65535
  unfolding crew.occupied
  sum_small k =
      sum_bound (activity_count s) 65535 (λ i. cond (at_work c t i) (file_demand s k i) 0) (λ i l. cond_least (at_work c t i) (file_demand s k i) 65535 (λ e. file_demand_small s small k i))

  pub period_load : PeriodLoad our_steps s starts worked t
  period_load =
      record {
        started = λ i l. (leb-true (at starts i) (t - 1), le-leb (at starts i) (t - 1));
        finished = λ i l. (leb-true t (at starts i + at worked i), le-leb t (at starts i + at worked i));
        an_activity = λ i l. both_tests c t i one;
        added = λ k h. the_sum k h ∙ sum_passing k;
        paper_sum = the_sum;
        load_fits = λ k h. omega (arith, the_sum k h, sum_small k, count_few s, count_in s r);
        finish_fits = λ i p q. omega arith;
      }
