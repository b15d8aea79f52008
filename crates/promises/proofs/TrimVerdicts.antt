-- What Verdict says of a plan, and of plans that differ in extra arcs alone.
use mathlib.Core.Path.{◌≡◌, refl, sym, ap, ap₂, ◌∙◌}
use mathlib.Core.Bool.{true, false}
use mathlib.Core.List.{List}
use mathlib.Core.Logic.{inl, inr, ⊎_elim}
use Prim.Native.Nat.{ℕ}
use native.Mathlib.Omega.{arith}
use borrow.Author.Tests.{not-false}
use Rattle.std.specs.Prelude.{Ok, Err}
use Rattle.words.proofs.Tests.{fails}
use Rattle.records.specs.Bytes.{AreBytes}
use Rattle.order.specs.Before.{Acyclic}
use Rattle.order.proofs.Before.{before_map}
use Rattle.plan.specs.Meaning.{Readable, FileArc, file_kinds}
use Rattle.plan.specs.Records.{activity_count}
use Rattle.plan.specs.declared.Plan.{Plan}
use Rattle.plan.specs.model.ArcRows.{arc_rows}
use Rattle.plan.specs.model.Plans.{with_extra}
use Rattle.plan.proofs.Said.{plan_but}
use Rattle.planner.specs.Faults.{Fault, is_fine}
use Rattle.planner.specs.Results.{accepted}
use Rattle.planner.specs.Open.{plan_in, fault_of, Opens}
use Rattle.planner.specs.Need.{is_overloaded, over_cause}
use Rattle.planner.specs.Verdict.{is_accepted, verdict_fault, verdict_of}
use Rattle.planner.specs.declared.Cause.{Cause}
use Rattle.planner.proofs.FaultLaws.{fine_is, cause_fine}
use Rattle.planner.proofs.OpenLaws.{plan_in_lem, opens_plan}
use Rattle.planner.proofs.FileOrders.{opens_when}
use Rattle.planner.proofs.QuotedNeeds.{count_in, kinds_in}
use Rattle.planner.proofs.AcceptedLaws.{verdict_by_plan, accepted_by}
use Rattle.promises.specs.Ours.{ours}
use Rattle.promises.specs.Same.{SameWork}
use Rattle.promises.specs.Trim.{Accepts, Overloads, LeavesOut}
use Rattle.promises.proofs.PriceListHolds.{not_refused, verdict_refused}

-- ---- the answer, by the fault

pub accepted_fault : (f : Fault) (m n a b : ℕ) → verdict_of f m n ≡ accepted a b → f ≡ Ok tt
accepted_fault (Ok _) m n a b e = refl
accepted_fault (Err c) m n a b e = absurd (not_refused a b c (sym e))

pub refused_fault : (f : Fault) (m n : ℕ) (c : Cause) → verdict_of f m n ≡ Err c → f ≡ Err c
refused_fault (Ok _) m n c e = absurd (not_refused m n c e)
refused_fault (Err d) m n c e = let q : d ≡ c = cc in ap Err q

-- an accepted plan opens, and is not overloaded
pub accepts_opens : (s : List ℕ) → Accepts ours s → Opens s × (is_overloaded (plan_in s) ≡ false)
unfolding verdict_fault fault_of
accepts_opens s e =
    cause_fine (fault_of s) (is_overloaded (plan_in s)) (over_cause (plan_in s)) (ap is_fine (accepted_fault (verdict_fault s) (plan_in s).count (plan_in s).kinds (activity_count s) (file_kinds s) e))

-- ---- a readable plan is accepted exactly where the plan that it says is

module _ (s : List ℕ) (e : Readable s) where
  pub accepts_plan : Accepts ours s → is_accepted (plan_in s) ≡ true
  accepts_plan h = sym (verdict_by_plan s e) ∙ ap is_fine (accepted_fault (verdict_fault s) (plan_in s).count (plan_in s).kinds (activity_count s) (file_kinds s) h)

  pub plan_accepts : is_accepted (plan_in s) ≡ true → Accepts ours s
  plan_accepts t =
      ap (λ (f : Fault). verdict_of f (plan_in s).count (plan_in s).kinds) (fine_is (verdict_fault s) (verdict_by_plan s e ∙ t)) ∙ ap₂ accepted (count_in s e) (kinds_in s e)

  pub overloads_plan : Overloads ours s → is_accepted (plan_in s) ≡ false
  overloads_plan h = fails (is_accepted (plan_in s)) (λ t. not_refused (activity_count s) (file_kinds s) h.0 (sym (plan_accepts t) ∙ h.1))

  -- and without a circle refused exactly where it is not
  pub plan_overloads : AreBytes s → Acyclic (FileArc s) → is_accepted (plan_in s) ≡ false → Overloads ours s
  unfolding over_cause
  plan_overloads bytes free t =
      let o = (opens_when s).1 (e, free) in
      (over_cause (plan_in s), verdict_refused s bytes o (not-false (is_overloaded (plan_in s)) (sym (accepted_by (plan_in s) (opens_plan s o)) ∙ t)), refl)

-- ---- PLANS WITH THE SAME ACTIVITIES, CREW AND JOB ARCS are read alike but for the extra arcs

pub work_plan : (s u : List ℕ) → Readable s → Readable u → SameWork s u → plan_in u ≡ with_extra (plan_in s) (arc_rows u 4)
work_plan s u e f w =
    plan_in_lem u f
    ∙ plan_but u s f e (sym w.count) (sym w.kinds) (λ i l. sym (w.duration i (omega (arith, w.count)))) (λ k i h l. sym (w.demand k i h (omega (arith, w.count))))
    (λ k l. sym (w.available k l)) (λ i j. ((w.job i j).1, (w.job i j).0))
    ∙ ap (λ (q : Plan). with_extra q (arc_rows u 4)) (sym (plan_in_lem s e))

-- ---- fewer arcs make no circle

pub leaves_acyclic : (s u : List ℕ) → Acyclic (FileArc s) → LeavesOut s u → Acyclic (FileArc u)
leaves_acyclic s u free leaves i b = free i (before_map arc b)
  where
    arc : (i j : ℕ) → FileArc u i j → FileArc s i j
    arc i j = ⊎_elim (λ h. inl ((leaves.work.job i j).1 h)) (λ h. inr (leaves.fewer i j h))
