-- What each of the causes 5 and 6 means, in the file's own terms, and when a plan opens, with no cause of the
-- reader's and neither of these.
use mathlib.Core.Path.{◌≡◌, refl, sym, ap, ◌∙◌, subst}
use mathlib.Core.List.{List}
use mathlib.Core.Logic.{◌⊎◌, inl, inr, ⊎_elim}
use Prim.Native.Nat.{ℕ, ◌+◌, ◌≤◌, ◌<◌}
use native.Mathlib.Omega.{arith}
use native.Mathlib.Decide.{dec_lt}
use lib.Dec.{ltb}
use borrow.Author.Tests.{ltb-true, ltb-false}
use Rattle.std.specs.Prelude.{Err, Ok}
use Rattle.order.specs.Stored.{elements}
use Rattle.order.specs.Before.{Acyclic}
use Rattle.order.specs.Orders.{OrderOf, circle_of}
use Rattle.order.specs.declared.Order.{Order}
use Rattle.order.proofs.Orders.{circle_none, circle_lowest, circle_le}
use Rattle.plan.specs.Causes.{answer_of, Answer}
use Rattle.plan.specs.Meaning.{Readable, JobArc, FileArc}
use Rattle.plan.specs.declared.Cause.{Cause as Unread}
use Rattle.planner.specs.Faults.{is_fine}
use Rattle.planner.specs.Open.{unread_fault, read_fault, or_circle, job_order, plan_order, fault_of}
use Rattle.promises.specs.Paper.{Lowest}
use Rattle.planner.specs.declared.Cause.{Cause}
use Rattle.planner.specs.declared.Cause.TheVariants.{Unreadable, JobCircle, PlanCircle}
use Rattle.planner.proofs.FaultLaws.{cause_fine, cause_before, cause_from}
use Rattle.planner.proofs.OpenLaws.{read_fine, read_none, round_none, round_found}
use Rattle.planner.proofs.FileOrders.{job_order_lem, plan_order_lem}

-- ---- where a fault comes from: the reader (what its causes mean is in plan's proofs/Refused.antt), the job order, or else the plan order

abbrev FromReader : List ℕ → Cause → Type 0
FromReader s c = (u : Unread) × (answer_of s ≡ Err u) × (c ≡ Unreadable u)

abbrev FromJob : List ℕ → Cause → Type 0
FromJob s c = Readable s × (circle_of (job_order s) < elements) × (c ≡ JobCircle (circle_of (job_order s) + 1))

abbrev FromPlan : List ℕ → Cause → Type 0
FromPlan s c = Readable s × (elements ≤ circle_of (job_order s)) × (circle_of (plan_order s) < elements) × (c ≡ PlanCircle (circle_of (plan_order s) + 1))

fault_from : (s : List ℕ) (c : Cause) → fault_of s ≡ Err c → FromReader s c ⊎ (FromJob s c ⊎ FromPlan s c)
unfolding fault_of read_fault
fault_from s c e =
    ⊎_elim
    (λ d. ⊎_elim (λ r. inl (reads (answer_of s) refl r)) (λ w. inr (inl (sym (read_fine s) ∙ w.0, ltb-true job elements w.1, sym w.2))) (cause_from (read_fault s) (ltb job elements) (JobCircle (job + 1)) c d))
    (λ w.
    let v = cause_fine (read_fault s) (ltb job elements) (JobCircle (job + 1)) w.0 in
    inr (inr (sym (read_fine s) ∙ v.0, ltb-false job elements v.1, ltb-true whole elements w.1, sym w.2)))
    (cause_from (or_circle (read_fault s) (job_order s) JobCircle) (ltb whole elements) (PlanCircle (whole + 1)) c e)
  where
    job : ℕ
    job = circle_of (job_order s)

    whole : ℕ
    whole = circle_of (plan_order s)

    reads : (a : Answer) → answer_of s ≡ a → unread_fault a ≡ Err c → FromReader s c
    reads (Ok _) q r = absurd (let z : ◌≡◌ {A = ℕ} 0 1 = cc in omega arith)
    reads (Err u) q r = (u, q, cc)

-- of causes with other numbers
other : {A : Type 0} {c d : Cause} → c ≡ d → (c ≡ d → ◌≡◌ {A = ℕ} 0 1) → A
other e clash = absurd (let z = clash e in omega arith)

pub unreadable_means : (s : List ℕ) (c : Unread) → fault_of s ≡ Err (Unreadable c) → answer_of s ≡ Err c
unreadable_means s c e =
    ⊎_elim
    (λ w. let q = w.2 in let p : w.0 ≡ c = cc in w.1 ∙ ap Err p)
    (⊎_elim (λ w. other w.2 (λ q. cc)) (λ w. other w.3 (λ q. cc)))
    (fault_from s (Unreadable c) e)

pub means_unreadable : (s : List ℕ) (c : Unread) → answer_of s ≡ Err c → fault_of s ≡ Err (Unreadable c)
unfolding fault_of read_fault
means_unreadable s c e = cause_before _ _ _ (Unreadable c) (cause_before _ _ _ (Unreadable c) (ap unread_fault e))

-- ---- causes 5 and 6

-- a circle that was found
lowest_of_lem : {o : Order} {A : ℕ → ℕ → Type 0} → OrderOf o A → (i : ℕ) → circle_of o ≡ i → circle_of o < elements → Lowest A i
lowest_of_lem {o} {A} r i e l =
    let w = circle_lowest r l in
    subst (Lowest A) e (record { round = w.0; none = w.1 })

-- CAUSE 5: the file is readable, and the activity is the lowest before itself by its job arcs
pub job_circle_means : (s : List ℕ) (i : ℕ) → fault_of s ≡ Err (JobCircle (i + 1)) → Readable s × Lowest (JobArc s) i
job_circle_means s i e =
    ⊎_elim
    (λ w. other w.2 (λ q. cc))
    (⊎_elim
    (λ w. let q = w.2 in let z : i + 1 ≡ circle_of (job_order s) + 1 = cc in (w.0, lowest_of_lem (job_order_lem s w.0) i (omega arith) w.1))
    (λ w. other w.3 (λ q. cc)))
    (fault_from s (JobCircle (i + 1)) e)

-- CAUSE 6: it is readable, its job arcs make no circle, and the activity is the lowest before itself by all its arcs
pub plan_circle_means : (s : List ℕ) (i : ℕ) → fault_of s ≡ Err (PlanCircle (i + 1)) → Readable s × Acyclic (JobArc s) × Lowest (FileArc s) i
plan_circle_means s i e =
    ⊎_elim
    (λ w. other w.2 (λ q. cc))
    (⊎_elim
    (λ w. other w.2 (λ q. cc))
    (λ w.
    let q = w.3 in
    let z : i + 1 ≡ circle_of (plan_order s) + 1 = cc in
    (w.0, (circle_none (job_order_lem s w.0)).0 (omega (arith, w.1, circle_le (job_order s))), lowest_of_lem (plan_order_lem s w.0) i (omega arith) w.2)))
    (fault_from s (PlanCircle (i + 1)) e)

-- ---- and each meaning has its cause

is_lowest : {o : Order} {A : ℕ → ℕ → Type 0} → OrderOf o A → (i : ℕ) → Lowest A i → (circle_of o ≡ i) × (circle_of o < elements)
is_lowest {o} {A} r i L = go (dec_lt (circle_of o) elements) (dec_lt (circle_of o) i) (dec_lt i (circle_of o))
  where
    go : Dec (circle_of o < elements) → Dec (circle_of o < i) → Dec (i < circle_of o) → (circle_of o ≡ i) × (circle_of o < elements)
    go (yes l) (yes h) d = absurd (L.none (circle_of o) h (circle_lowest r l).0)
    go (yes l) (no h) (yes k) = absurd ((circle_lowest r l).1 i k L.round)
    go (yes l) (no h) (no k) = (omega arith, l)
    go (no l) c d = absurd ((circle_none r).0 (omega (arith, circle_le o)) i L.round)

pub means_job_circle : (s : List ℕ) (i : ℕ) → Readable s → Lowest (JobArc s) i → fault_of s ≡ Err (JobCircle (i + 1))
unfolding fault_of
means_job_circle s i e L =
    let c = is_lowest (job_order_lem s e) i L in
    cause_before _ _ _ (JobCircle (i + 1)) (round_found (read_fault s) (job_order s) JobCircle i (ap is_fine (read_none s e)) c.0 (omega (arith, c.0, c.1)))

pub means_plan_circle : (s : List ℕ) (i : ℕ) → Readable s → Acyclic (JobArc s) → Lowest (FileArc s) i → fault_of s ≡ Err (PlanCircle (i + 1))
unfolding fault_of
means_plan_circle s i e free L =
    let c = is_lowest (plan_order_lem s e) i L in
    let five = round_none (read_fault s) (job_order s) JobCircle (job_order_lem s e) (ap is_fine (read_none s e)) free in
    round_found (or_circle (read_fault s) (job_order s) JobCircle) (plan_order s) PlanCircle i (ap is_fine five) c.0 (omega (arith, c.0, c.1))
