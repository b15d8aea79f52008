-- CHANGE 5 OF DOCUMENT 02 HOLDS OF OURS: `waits_keep`.
use mathlib.Core.Path.{ap}
use mathlib.Core.List.{List}
use mathlib.Core.Logic.{◌↔◌, inl, inr, ⊎_elim, by_cases}
use Prim.Native.Nat.{ℕ, ◌+◌, ◌≤◌, ◌<◌}
use native.Mathlib.Decide.{dec_lt}
use native.Mathlib.Omega.{arith}
use lib.ListN.{length}
use Rattle.order.specs.Before.{Acyclic}
use Rattle.records.specs.Bytes.{AreBytes}
use Rattle.plan.specs.Records.{activity_count}
use Rattle.plan.specs.Meaning.{Readable, JobArc, ExtraArc, FileArc, job_wait, extra_wait}
use Rattle.plan.specs.Differing.{OnlyInWaits}
use Rattle.plan.specs.model.Reads.{read_of, Reading}
use Rattle.plan.proofs.Waits.{job_wait_lem, extra_wait_lem, no_job_wait, no_extra_wait, job_waits, extra_waits, file_wait_small}
use Rattle.plan.proofs.Differing.{only_in_waits}
use Rattle.flow_math.specs.Kept.{Keeps}
use Rattle.schedule.specs.Lists.{at}
use Rattle.schedule.proofs.Arrays.{starts_bound}
use Rattle.planner.specs.Times.{arc_weight, KeepsArcs}
use Rattle.planner.specs.Open.{plan_in, rows_of, Opens}
use Rattle.planner.specs.Starts.{first_starts, end_start, start_numbers}
use Rattle.planner.proofs.OpenLaws.{opens_small}
use Rattle.planner.proofs.TimesLaws.{weights_small}
use Rattle.planner.proofs.StartsLaws.{before_end, numbers_fit}
use Rattle.planner.proofs.QuotedNeeds.{count_in}
use Rattle.planner.proofs.FileOrders.{opens_when}
use Rattle.promises.specs.Ours.{ours}
use Rattle.promises.proofs.EarliestStarts.{number}
use Rattle.promises.proofs.EqualFlowsHold.{alike, answers, plans}
use Rattle.promises.specs.Waits.{FileWaits, StartsFit, QuotedAlike, WaitSentence}

-- ---- the waits of a readable plan

module _ (s : List ℕ) (small : AreBytes s) (r : Readable s) where
  -- where one type has a wait, an arc of that type is there to bind
  both : (x w : ℕ → ℕ) → KeepsArcs s x w ↔ (Keeps (JobArc s) x (λ i j. w i + job_wait s i j) × Keeps (ExtraArc s) x (λ i j. w i + extra_wait s i j))
  both x w = (
    (λ k. ((λ i j a. omega (arith, k i j (inl a))), (λ i j a. omega (arith, k i j (inr a))))),
    (λ h i j a.
        let own : x i + w i ≤ x j = ⊎_elim (λ b. omega (arith, h.0 i j b)) (λ b. omega (arith, h.1 i j b)) a in
        let job : x i + (w i + job_wait s i j) ≤ x j = by_cases (dec_lt 0 (job_wait s i j)) (λ l. h.0 i j (job_waits s i j l)) (λ l. omega arith) in
        let extra : x i + (w i + extra_wait s i j) ≤ x j = by_cases (dec_lt 0 (extra_wait s i j)) (λ l. h.1 i j (extra_waits s i j l)) (λ l. omega arith) in
        omega arith),
  )

  file_waits : FileWaits s
  file_waits =
      record {
        job = job_wait_lem s r;
        extra = extra_wait_lem s r;
        no_job = no_job_wait s;
        no_extra = no_extra_wait s;
        most = file_wait_small s small;
        both = both;
        sum_fits = λ x w i j a b. omega (arith, file_wait_small s small i j);
      }

-- ---- what Starts writes

module _ (s : List ℕ) (small : AreBytes s) (r : Readable s) (free : Acyclic (FileArc s)) (out : List ℕ) (l : activity_count s + 1 ≤ length out) where
  o : Opens s
  o = (opens_when s).1 (r, free)

  starts_fit : StartsFit ours s out
  unfolding start_numbers
  starts_fit =
      record {
        latest = λ i h.
            let c : i < (plan_in s).count = omega (arith, h, count_in s r) in
            omega (
              arith,
              number s o out l i (omega arith),
              before_end (plan_in s).count (first_starts s) (end_start s) i c,
              starts_bound (rows_of s) (arc_weight s (at (plan_in s).duration)) (65535 + 65535) (weights_small s small (plan_in s).duration (opens_small s small o)) i,
            );
        fits = λ i h. omega (arith, number s o out l i h, numbers_fit s small o i);
      }

-- ---- who does not read waits: files that differ only in them are read alike

only : (s t : List ℕ) → OnlyInWaits s t → QuotedAlike ours s t
unfolding read_of
only s t W = let e = only_in_waits s t W in alike s t (ap (λ (x : Reading). x.answer) e) (ap (λ (x : Reading). x.plan) e)

pub waits_keep : WaitSentence ours
waits_keep =
    record {
      waits = file_waits;
      starts = starts_fit;
      plans = λ s t e f same. alike s t (answers s t e f same) (plans s t e f same);
      bytes = only;
    }
