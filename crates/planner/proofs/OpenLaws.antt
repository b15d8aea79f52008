-- What a plan that opens is, with no cause of the reader's and no circle, and what the code holds of it.
use mathlib.Core.Path.{◌≡◌, refl, sym, ap, ◌∙◌}
use mathlib.Core.Bool.{true, false, cond}
use mathlib.Core.List.{List}
use Prim.Native.Nat.{ℕ, ◌+◌, ◌≤◌, ◌<◌}
use native.Mathlib.Omega.{arith}
use lib.Dec.{eqb, ltb}
use lib.ListN.{length, get_or, replicate}
use borrow.Author.Tests.{lt-ltb, le-ltb, ltb-true, ltb-false}
use Rattle.std.specs.Prelude.{Ok, Err, Some, None}
use Rattle.std.specs.Borrow.{Bor}
use Rattle.words.proofs.Tests.{by_test, cond_true, cond_false}
use Rattle.records.specs.Bytes.{AreBytes}
use Rattle.order.specs.Stored.{elements}
use Rattle.order.specs.Before.{Acyclic}
use Rattle.order.specs.Orders.{Direct, OrderOf, order_in, extended_by, joined_rows, circle_of}
use Rattle.order.specs.declared.Order.{Order}
use Rattle.order.specs.Sets.{found}
use Rattle.order.proofs.Sets.{some_found, none_found}
use Rattle.order.proofs.Orders.{direct_order, order_begun, circle_none, circle_le}
use Rattle.plan.specs.Records.{activities}
use Rattle.plan.specs.Causes.{is_readable, answer_of, Answer}
use Rattle.plan.specs.model.Reads.{read_of}
use Rattle.plan.specs.model.Reads as reader
use Rattle.plan.specs.model.Plans.{plan_of, empty_plan}
use Rattle.plan.specs.Meaning.{Readable}
use Rattle.plan.specs.model.Said.{Said}
use Rattle.plan.proofs.Said.{readable_length, said, durations_small}
use Rattle.plan.proofs.Phases.{none_given}
use Rattle.plan.proofs.Refused.{length_says}
use Rattle.plan.specs.declared.Cause.{Cause as Unread}
use Rattle.plan.specs.declared.Cause.TheVariants.{Length, RecordType, Field, MilestoneDemand, Spare, RepeatedArc}
use Rattle.plan.specs.declared.Plan.{Plan}
use Rattle.schedule.specs.model.Arrays.{AllAtMost}
use Rattle.planner.specs.Faults.{Fault, outcome, is_fine, or_cause}
use Rattle.planner.specs.Answers.{unread_numbers, cause_number}
use Rattle.planner.specs.Open.{plan_in, rows_of, job_order_for, job_order, order_for, plan_order, unread_fault, read_fault, or_circle, or_circles, fault_of, Opens}
use Rattle.planner.specs.model.Opening.{held_of, held_in, opened_of, opened_by}
use Rattle.planner.specs.declared.Cause.{Cause}
use Rattle.planner.specs.declared.Cause.TheVariants.{Unreadable, JobCircle, PlanCircle}
use Rattle.planner.specs.declared.open.Opened.{Opened}
use Rattle.planner.proofs.FaultLaws.{fine_is, outcome_fine, outcome_refused, cause_fine, cause_next, cause_none, Every, every_fine, every_this, every_turn}

-- ---- the plan that is read

-- of a readable file it is what the file says
pub plan_in_lem : (s : List ℕ) → Readable s → plan_in s ≡ plan_of s
unfolding read_of
plan_in_lem s e = cond_true (plan_of s) empty_plan e

pub plan_not : (s : List ℕ) → is_readable (answer_of s) ≡ false → plan_in s ≡ empty_plan
unfolding read_of
plan_not s e = cond_false (plan_of s) empty_plan e

pub said_in : (s : List ℕ) → Readable s → Said s (plan_in s)
said_in s e = rw (plan_in_lem s e) (said s e)

-- it has no more activities than a file may have, and no more than there are elements, readable or not
pub count_within : (s : List ℕ) → (plan_in s).count ≤ activities
unfolding empty_plan
count_within s =
    by_test (is_readable (answer_of s))
    (λ t. (said_in s t).few)
    (λ t. let e : (plan_in s).count ≡ 0 = ap (λ (q : Plan). q.count) (plan_not s t) in omega arith)

pub count_few : (s : List ℕ) → (plan_in s).count ≤ elements
count_few s = omega (arith, count_within s)

-- ---- the first step: no fault is found in a file exactly where it is readable

pub read_fine : (s : List ℕ) → is_fine (read_fault s) ≡ is_readable (answer_of s)
unfolding read_fault
read_fine s = go (answer_of s)
  where
    go : (a : Answer) → is_fine (unread_fault a) ≡ is_readable a
    go (Ok _) = refl
    go (Err c) = refl

pub read_none : (s : List ℕ) → Readable s → read_fault s ≡ Ok tt
read_none s e = fine_is (read_fault s) (read_fine s ∙ e)

-- ---- the second: a circle in an order, in its turn

module _ (f : Fault) (o : Order) (cause : ℕ → Cause) where
  -- the arcs of the order lead nothing back to itself
  pub round_none : {A : ℕ → ℕ → Type 0} → OrderOf o A → is_fine f ≡ true → Acyclic A → or_circle f o cause ≡ Ok tt
  round_none r h free = cause_none f (ltb (circle_of o) elements) (cause (circle_of o + 1)) h (le-ltb (circle_of o) elements (omega (arith, (circle_none r).1 free)))

  round_fine : {A : ℕ → ℕ → Type 0} → OrderOf o A → is_fine (or_circle f o cause) ≡ true → (is_fine f ≡ true) × Acyclic A
  round_fine r e =
      let w = cause_fine f (ltb (circle_of o) elements) (cause (circle_of o + 1)) e in
      (w.0, (circle_none r).0 (omega (arith, circle_le o, ltb-false (circle_of o) elements w.1)))

  -- element i is the lowest before itself
  pub round_found : (i : ℕ) → is_fine f ≡ true → circle_of o ≡ i → i < elements
      → or_circle f o cause ≡ Err (cause (i + 1))
  round_found i h e l =
      cause_next f (ltb (circle_of o) elements) (cause (circle_of o + 1)) h
      (lt-ltb (circle_of o) elements (omega arith)) ∙ ap (λ (x : ℕ). Err (cause (x + 1))) e

-- ---- what it means that a plan opens

module _ (s : List ℕ) (o : Opens s) where
  steps : (is_fine (or_circle (read_fault s) (job_order s) JobCircle) ≡ true) × Acyclic (Direct (rows_of s))
  unfolding fault_of
  steps = round_fine (or_circle (read_fault s) (job_order s) JobCircle) (plan_order s) PlanCircle (direct_order (rows_of s)) o

  pub opens_readable : Readable s
  opens_readable = sym (read_fine s) ∙ (round_fine (read_fault s) (job_order s) JobCircle (direct_order (plan_in s).job) steps.0).0

  pub opens_plan : Acyclic (Direct (rows_of s))
  opens_plan = steps.1

  -- it is no longer than a file may be
  pub opens_short : length s ≤ 49152
  opens_short = ((length_says (length s)).0 (readable_length s opens_readable)).1

-- a file's durations are small
pub opens_small : (s : List ℕ) → AreBytes s → Opens s → AllAtMost 65535 (plan_in s).duration
opens_small s small e i =
    let q : get_or (plan_in s).duration i 0 ≡ get_or (plan_of s).duration i 0 = ap (λ (x : Plan). get_or x.duration i 0) (plan_in_lem s (opens_readable s e)) in
    omega (arith, durations_small s small i)

-- what holds of each cause of the opening
pub every_open : (P : Cause → Type 0) (s : List ℕ) → ((u : Unread) → answer_of s ≡ Err u → P (Unreadable u))
    → ((i : ℕ) → i < elements → P (JobCircle (i + 1)))
    → ((i : ℕ) → i < elements → P (PlanCircle (i + 1))) → Every P (fault_of s)
unfolding fault_of read_fault
every_open P s unread job whole =
    round (or_circle (read_fault s) (job_order s) JobCircle) (plan_order s) PlanCircle (round (read_fault s) (job_order s) JobCircle (reads (answer_of s) refl) job) whole
  where
    reads : (a : Answer) → answer_of s ≡ a → Every P (unread_fault a)
    reads (Ok _) e = every_fine P
    reads (Err u) e = every_this P (Unreadable u) (unread u e)

    round : (f : Fault) (o : Order) (cause : ℕ → Cause) → Every P f → ((i : ℕ) → i < elements → P (cause (i + 1))) → Every P (or_circle f o cause)
    round f o cause h each = every_turn P f (ltb (circle_of o) elements) (cause (circle_of o + 1)) h (λ _ e. each (circle_of o) (ltb-true (circle_of o) elements e))

-- a reader's cause is known by its numbers: of this number, with this place, it is this one
abbrev unread_by : ℕ → ℕ → Unread
unread_by n p = cond (eqb n 1) Length (cond (eqb n 2) (RecordType p) (cond (eqb n 3) (Field p) (cond (eqb n 12) (MilestoneDemand p) (cond (eqb n 4) (Spare p) (RepeatedArc p)))))

unread_by_lem : (u : Unread) → unread_by (cause_number (Unreadable u)) (get_or (unread_numbers u) 1 0) ≡ u
unread_by_lem Length = refl
unread_by_lem (RecordType p) = refl
unread_by_lem (Field p) = refl
unread_by_lem (MilestoneDemand p) = refl
unread_by_lem (Spare p) = refl
unread_by_lem (RepeatedArc p) = refl

pub unread_apart : (u v : Unread) → unread_numbers u ≡ unread_numbers v → u ≡ v
unread_apart u v e = sym (unread_by_lem u) ∙ ap (λ (xs : List ℕ). unread_by (get_or xs 0 0) (get_or xs 1 0)) e ∙ unread_by_lem v

-- ---- what the code holds after each step

answered : (s : List ℕ) → (read_of s).answer ≡ answer_of s
unfolding read_of
answered s = refl

-- both circles in their turn, after a fault, i and j being the lowest elements that are before themselves
pub circles_as : (before : Fault) (job whole : Order) {five f : Fault} {i j : ℕ} → i ≡ circle_of job
    → five ≡ or_cause before (ltb i elements) (JobCircle (i + 1)) → j ≡ circle_of whole
    → f ≡ or_cause five (ltb j elements) (PlanCircle (j + 1)) → f ≡ or_circles before job whole
circles_as before job whole a b c d = rw (d, c, b, a)

-- a circle in the job order, or in the plan order only, or none
module _ (job whole : Order) where
  pub job_circle : {i : ℕ} → Some i ≡ found (circle_of job) → Err (JobCircle (i + 1)) ≡ or_circles (Ok tt) job whole
  job_circle {i} e =
      let w = some_found e in
      ap (λ (f : Fault). or_circle f whole PlanCircle)
      (sym (round_found (Ok tt) job JobCircle i refl (sym w.0) (omega (arith, w.0, w.1))))

  module _ (none : None ≡ found (circle_of job)) where
    job_none : or_circle (Ok tt) job JobCircle ≡ Ok tt
    job_none = cause_none (Ok tt) (ltb (circle_of job) elements) (JobCircle (circle_of job + 1)) refl
        (le-ltb (circle_of job) elements (none_found none))

    pub plan_circle : {i : ℕ} → Some i ≡ found (circle_of whole)
        → Err (PlanCircle (i + 1)) ≡ or_circles (Ok tt) job whole
    plan_circle {i} e =
        let w = some_found e in
        sym (ap (λ (f : Fault). or_circle f whole PlanCircle) job_none
        ∙ round_found (Ok tt) whole PlanCircle i refl (sym w.0) (omega (arith, w.0, w.1)))

    pub no_circle : None ≡ found (circle_of whole) → Ok tt ≡ or_circles (Ok tt) job whole
    no_circle e =
        sym (ap (λ (f : Fault). or_circle f whole PlanCircle) job_none
        ∙ cause_none (Ok tt) (ltb (circle_of whole) elements) (PlanCircle (circle_of whole + 1)) refl
        (le-ltb (circle_of whole) elements (none_found e)))

-- of a file that is not readable nothing is available
pub none_available : (s : List ℕ) {u : Unread} → Err u ≡ reader.outcome (read_of s)
    → replicate 8 0 ≡ (plan_in s).available
unfolding empty_plan
none_available s e = sym (ap (λ (q : Plan). q.available) (none_given s (sym e)))

-- the orders of a plan are built
pub opened_as : {q : Bor Plan} {rows : List ℕ} {job whole : Order} → rows ≡ joined_rows q.now.job q.now.extra
    → job ≡ order_in q.now.job → whole ≡ extended_by job q.now.extra → record { plan = q; rows = rows; job = job; order = whole } ≡ opened_by q
opened_as joined j w = rw (w, j, joined, order_begun _ _)

-- and with what fault, after a fault
pub ordered_as : (q : Plan) (before : Fault) {rows : List ℕ} {job whole : Order} {f : Fault}
    → rows ≡ joined_rows q.job q.extra → job ≡ order_in q.job → whole ≡ extended_by job q.extra
    → f ≡ or_circles before job whole
    → (record { plan = q; rows = rows; job = job; order = whole } ≡ held_of q)
    × (f ≡ or_circles before (job_order_for q) (order_for q))
ordered_as q before joined j w e =
    (rw (w, j, joined, order_begun q.job q.extra), rw (e, w, j, order_begun q.job q.extra))

-- what reading gives is a cause
pub not_read : (s : List ℕ) {u : Unread} → Err u ≡ reader.outcome (read_of s) → fault_of s ≡ Err (Unreadable u)
unfolding fault_of read_fault
not_read s {u} e =
    ap (λ (f : Fault). or_circles f (job_order s) (plan_order s))
    (go (answer_of s) (e ∙ ap (λ (a : Answer). reader.given a (plan_in s)) (answered s)))
  where
    go : (a : Answer) → Err u ≡ reader.given a (plan_in s) → unread_fault a ≡ Err (Unreadable u)
    go (Ok _) e = absurd (let z : ◌≡◌ {A = ℕ} 0 1 = cc in omega arith)
    go (Err v) e = let w : v ≡ u = cc in ap (λ (x : Unread). Err (Unreadable x)) w

-- or the plan
plan_read : (s : List ℕ) {q : Plan} → Ok q ≡ reader.outcome (read_of s) → (read_fault s ≡ Ok tt) × (q ≡ plan_in s)
unfolding read_fault
plan_read s {q} e = go (answer_of s) (e ∙ ap (λ (a : Answer). reader.given a (plan_in s)) (answered s))
  where
    go : (a : Answer) → Ok q ≡ reader.given a (plan_in s) → (unread_fault a ≡ Ok tt) × (q ≡ plan_in s)
    go (Ok _) e = (refl, cc)
    go (Err v) e = absurd (let z : ◌≡◌ {A = ℕ} 0 1 = cc in omega arith)

-- and what opening gives, of a plan `q` that was read
module _ (s : List ℕ) (q : Bor Plan) where
  -- 5 and 6 of the plan alone
  abbrev circles : Fault
  circles = or_circles (Ok tt) (job_order_for q.now) (order_for q.now)

  goes : Ok q.now ≡ reader.outcome (read_of s) → circles ≡ fault_of s
  unfolding fault_of
  goes read =
      let w = plan_read s read in
      ap (λ (p : Plan). or_circles (Ok tt) (job_order_for p) (order_for p)) w.1
      ∙ ap (λ (f : Fault). or_circles f (job_order s) (plan_order s)) (sym w.0)

  pub not_opened : {c : Cause}
      → Err c ≡ outcome (or_circles (Ok tt) (job_order_for q.now) (order_for q.now)) (opened_by q)
      → Ok q.now ≡ reader.outcome (read_of s) → fault_of s ≡ Err c
  not_opened {c} e read = sym (goes read) ∙ outcome_refused circles (opened_by q) c e

  pub opened_is : {o : Opened}
      → Ok o ≡ outcome (or_circles (Ok tt) (job_order_for q.now) (order_for q.now)) (opened_by q)
      → Ok q.now ≡ reader.outcome (read_of s) → Opens s × (held_in o ≡ opened_of s)
  opened_is {o} e read =
      let w = outcome_fine circles (opened_by q) o e in
      (ap is_fine (sym (goes read)) ∙ w.0, ap held_in w.1 ∙ ap held_of (plan_read s read).1)

-- an operation goes on from a plan that opens as it goes on without a fault
pub goes_open : (s : List ℕ) → Opens s → (g : Fault → Fault) → g (Ok tt) ≡ g (fault_of s)
goes_open s o g = ap g (sym (fine_is (fault_of s) o))
