-- What the definitions of the operations mean, in the file's own terms: the arcs, the two orders, the starts.
use mathlib.Core.Path.{◌≡◌, sym, ap}
use mathlib.Core.List.{List}
use mathlib.Core.Logic.Iff
use mathlib.Core.Logic.{⊎_elim, ◌↔◌}
use Prim.Native.Nat.{ℕ, ◌≤◌, ◌<◌, ◌+◌}
use native.Mathlib.Omega.{arith}
use Rattle.words.proofs.Tests.{⊎-iff}
use Rattle.order.specs.Stored.{elements}
use Rattle.order.specs.Before.{Before, Acyclic}
use Rattle.order.specs.Arcs.{StrictOrder, Within}
use Rattle.order.specs.Orders.{Direct, OrderOf, is_before}
use Rattle.order.proofs.Before.{acyclic_joined, before_same, before_within}
use Rattle.order.proofs.Represents.{represents_same}
use Rattle.order.proofs.Orders.{direct_order, direct_joined, order_strict}
use Rattle.schedule.specs.Network.{Keeps}
use Rattle.schedule.specs.Lists.{LargestOr0, FinishOf, at}
use Rattle.schedule.specs.model.Arrays.{net_of}
use Rattle.schedule.proofs.Arrays as arrays
use Rattle.schedule.proofs.Starts as earliest
use Rattle.plan.specs.Meaning.{Readable, JobArc, ExtraArc, FileArc, file_duration}
use Rattle.planner.specs.Faults.{is_fine}
use Rattle.planner.specs.Open.{plan_in, rows_of, job_order, plan_order, read_fault, or_circle, fault_of, Opens}
use Rattle.planner.specs.declared.Cause.TheVariants.{JobCircle, PlanCircle}
use Rattle.planner.specs.Starts.{first_starts, end_start}
use Rattle.planner.specs.Times.{arc_weight, KeepsArcs, NoWaits}
use Rattle.planner.proofs.OpenLaws.{said_in, read_none, round_none, opens_readable, opens_plan}

-- ---- the arcs of the rows are the arcs of the file

module _ (s : List ℕ) (e : Readable s) where
  pub job_arcs : (i j : ℕ) → Direct (plan_in s).job i j ↔ JobArc s i j
  job_arcs = (said_in s e).job.named

  pub extra_arcs : (i j : ℕ) → Direct (plan_in s).extra i j ↔ ExtraArc s i j
  extra_arcs = (said_in s e).extra.named

  pub plan_arcs : (i j : ℕ) → Direct (rows_of s) i j ↔ FileArc s i j
  plan_arcs i j = Iff.trans (direct_joined (plan_in s).job (plan_in s).extra i j) (⊎-iff (job_arcs i j) (extra_arcs i j))

  -- an arc's ends are activities
  pub arc_ends : Within (plan_in s).count (FileArc s)
  arc_ends i j = ⊎_elim ((said_in s e).job.within i j) ((said_in s e).extra.within i j)

  -- ---- THE JOB ORDER AND THE PLAN ORDER are those of the file's arcs

  pub job_order_lem : OrderOf (job_order s) (JobArc s)
  job_order_lem = represents_same (direct_order (plan_in s).job) (before_same job_arcs)

  pub plan_order_lem : OrderOf (plan_order s) (FileArc s)
  plan_order_lem = represents_same (direct_order (rows_of s)) (before_same plan_arcs)

-- ---- WHERE NONE OF THE CAUSES 1 TO 6 IS MET, nothing is before itself by the file's arcs, and the plan order is a strict order

pub opens_acyclic : (s : List ℕ) → Opens s → Acyclic (FileArc s)
opens_acyclic s o i b = opens_plan s o i ((before_same (plan_arcs s (opens_readable s o)) i i).1 b)

pub opens_strict : (s : List ℕ) → Opens s → StrictOrder elements (is_before (plan_order s))
opens_strict s o = order_strict (plan_order_lem s (opens_readable s o)) (opens_acyclic s o)

-- ---- A PLAN MEETS NONE OF THE CAUSES 1 TO 6 exactly when it is readable and its arcs lead nothing back to itself

pub opens_when : (s : List ℕ) → Opens s ↔ (Readable s × Acyclic (FileArc s))
unfolding fault_of
opens_when s = ((λ o. (opens_readable s o, opens_acyclic s o)), back)
  where
    back : Readable s × Acyclic (FileArc s) → Opens s
    back h =
        let five = round_none (read_fault s) (job_order s) JobCircle (job_order_lem s h.0) (ap is_fine (read_none s h.0)) (acyclic_joined h.1) in
        ap is_fine (round_none (or_circle (read_fault s) (job_order s) JobCircle) (plan_order s) PlanCircle (plan_order_lem s h.0) (ap is_fine five) h.1)

-- ---- THE STARTS: the least that keep every arc of the file with the file's durations and waits. So is whatever starts the m activities as they do.

module _ (s : List ℕ) (o : Opens s) (x : ℕ → ℕ) (same : (i : ℕ) → i < (plan_in s).count → x i ≡ at (first_starts s) i) where
  readable : Readable s
  readable = opens_readable s o

  -- the same finish, by the plan's duration and by the file's
  finish : (i : ℕ) → i < (plan_in s).count → at (first_starts s) i + at (plan_in s).duration i ≡ x i + file_duration s i
  finish i l = omega (arith, same i l, (said_in s readable).duration i l)

  -- the weight of an arc, by the plan's durations
  abbrev weight : ℕ → ℕ → ℕ
  weight = arc_weight s (at (plan_in s).duration)

  -- they keep every arc of the file
  pub starts_keep : KeepsArcs s x (file_duration s)
  starts_keep i j a =
      let h = arc_ends s readable i j a in
      omega (
        arith,
        arrays.starts_keep (rows_of s) weight (opens_plan s o) i j ((plan_arcs s readable i j).1 a),
        finish i h.0,
        same j h.1,
      )

  -- whatever keeps every arc of the file starts each activity no earlier
  pub starts_least : (y : ℕ → ℕ) → KeepsArcs s y (file_duration s) → (i : ℕ) → i < (plan_in s).count → x i ≤ y i
  starts_least y k i h =
      omega (arith, same i h, arrays.starts_least (rows_of s) weight y keeps i (omega (arith, (said_in s readable).few)))
    where
      keeps : Keeps (net_of (rows_of s) weight) y
      keeps a b d =
          let f = (plan_arcs s readable a b).0 d in
          omega (arith, k a b f, (said_in s readable).duration a (arc_ends s readable a b f).0)

  -- WHERE EVERY WAIT IS 0, EACH STARTS AT THE LARGEST FINISH OF THOSE BEFORE IT, OR AT 0
  pub starts_largest : NoWaits s → (j : ℕ) → j < (plan_in s).count → LargestOr0 (FinishOf (λ i. Before (FileArc s) i j) x (file_duration s)) (x j)
  starts_largest none j h =
      let before = before_same (plan_arcs s readable) in
      earliest.largest_same (sym (same j h)) (λ i. before i j)
      (λ i b. finish i (before_within (plan_in s).count (arc_ends s readable) ((before i j).0 b)).0)
      (arrays.starts_largest (rows_of s) weight (at (plan_in s).duration) (λ i k. omega (arith, none i k)) (opens_plan s o) j (omega (arith, (said_in s readable).few)))

  -- THE END STARTS AT THE LARGEST FINISH OF ALL, OR AT 0
  pub end_largest : (e : ℕ) → e ≡ end_start s → LargestOr0 (FinishOf (λ i. i < (plan_in s).count) x (file_duration s)) e
  end_largest e q = earliest.largest_same (sym q) (λ i. Iff.rfl) finish (earliest.end_largest (plan_in s).count (at (first_starts s)) (at (plan_in s).duration))
