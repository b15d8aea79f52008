-- The causes of the opening are the same in every operation, and what 5 and 6 show is the
-- lowest activity before itself.
use mathlib.Core.Path.{◌≡◌, refl, sym, ap, ◌∙◌}
use mathlib.Core.Bool.{Bool, true, false, not}
use mathlib.Core.List.{List, [], ◌∷◌}
use mathlib.Core.Logic.{inl, inr}
use Prim.Native.Nat.{ℕ, ◌+◌, ◌-◌}
use native.Mathlib.Omega.{arith}
use lib.Dec.{ltb}
use Rattle.std.specs.Prelude.{Ok, Err}
use Rattle.plan.specs.Meaning.{Readable}
use Rattle.plan.specs.declared.Cause.{Cause as Unread}
use Rattle.schedule.specs.declared.Checked.{Checked}
use Rattle.schedule.specs.declared.Checked.TheVariants.{Fits, Broken, Overload}
use Rattle.planner.specs.Faults.{Fault, or_cause, or_short}
use Rattle.planner.specs.Open.{plan_in, fault_of}
use Rattle.planner.specs.Numbers.{numbers_of}
use Rattle.planner.specs.Answers.{cause_number, verdict_numbers, output_numbers, crew_check_numbers}
use Rattle.planner.specs.Output.{output_of}
use Rattle.planner.specs.Need.{is_overloaded, over_cause}
use Rattle.planner.specs.Verdict.{verdict_fault, verdict_of}
use Rattle.planner.specs.Needs.{needs_fault}
use Rattle.planner.specs.Starts.{needed, starts_fault}
use Rattle.planner.specs.Overload.{overload_fault, over_count}
use Rattle.planner.specs.Flow.{is_kind, flow_fault, flow_count}
use Rattle.planner.specs.File.{flow_length}
use Rattle.planner.specs.CrewCheck.{bad_lists, crew_check_fault, crew_found, checked_of}
use Rattle.planner.specs.declared.Cause.{Cause}
use Rattle.planner.specs.declared.Cause.TheVariants.{Unreadable, JobCircle, PlanCircle, NoKind, Short, Lists}
use Rattle.planner.proofs.FaultLaws.{cause_before, Every}
use Rattle.planner.proofs.OpenLaws.{every_open}
use Rattle.planner.proofs.SheetFaults.{flow_before}
use Rattle.promises.specs.Ours.{ours}
use Rattle.promises.specs.EveryInput.{OneOf, reading, opening}
use Rattle.promises.specs.Paper.{EveryGives, SomeGives, Circles}
use Rattle.promises.proofs.EveryInputHolds.{is_one, one_after, one_not, unread_one}
use Rattle.promises.proofs.CircleFaults.{job_circle_means, plan_circle_means, means_job_circle, means_plan_circle}

-- ---- a fault of the file is every operation's

module _ (s : List ℕ) (c : Cause) (e : fault_of s ≡ Err c) where
  outputs : (f : Fault) (v : ℕ) → f ≡ Err c → output_numbers (output_of f v) ≡ numbers_of c
  outputs f v p = ap (λ (x : Fault). output_numbers (output_of x v)) p

  pub every_gives : EveryGives ours s (numbers_of c)
  unfolding verdict_fault fault_of needs_fault starts_fault overload_fault crew_check_fault
  every_gives =
      record {
        verdict = ap (λ (x : Fault). verdict_numbers (verdict_of x (plan_in s).count (plan_in s).kinds)) (cause_before _ _ _ c e);
        needs = λ n. outputs (needs_fault s n) (plan_in s).kinds (cause_before _ _ _ c e);
        starts = λ n. outputs (starts_fault s n) (needed s) (cause_before _ _ _ c e);
        overload = λ n. outputs (overload_fault s n) (over_count (plan_in s)) (cause_before _ _ _ c e);
        flow = λ kind n. outputs (flow_fault s kind n) (flow_count (plan_in s) (kind - 1)) (flow_before s c kind n e);
        crew_check = λ starts worked. ap (λ (x : Fault). crew_check_numbers (checked_of x (crew_found s starts worked))) (cause_before _ _ _ c e);
      }

-- ---- and a refusal of any operation by a number of the opening is the file's fault

-- a fault with these numbers
abbrev pub Gives : Fault → List ℕ → Type 0
Gives f numbers = (c : Cause) × (f ≡ Err c) × (numbers_of c ≡ numbers)

pub heads : {x y : ℕ} {xs ys : List ℕ} → x ∷ xs ≡ y ∷ ys → x ≡ y
heads e = cc

module _ (n : ℕ) (ys : List ℕ) (one : OneOf opening n) where
  -- the number of another answer
  other : {x : ℕ} {xs : List ℕ} → is_one opening x ≡ false → x ∷ xs ≡ n ∷ ys → ⊥
  other {x} e q = one_not opening n x one e (sym (heads q))

  output_gives : (f : Fault) (v : ℕ) → output_numbers (output_of f v) ≡ n ∷ ys → Gives f (n ∷ ys)
  output_gives (Ok _) v e = absurd (other refl e)
  output_gives (Err c) v e = (c, refl, e)

  verdict_gives : (f : Fault) (m k : ℕ) → verdict_numbers (verdict_of f m k) ≡ n ∷ ys → Gives f (n ∷ ys)
  verdict_gives (Ok _) m k e = absurd (other refl e)
  verdict_gives (Err c) m k e = (c, refl, e)

  crew_gives : (f : Fault) (x : Checked) → crew_check_numbers (checked_of f x) ≡ n ∷ ys → Gives f (n ∷ ys)
  crew_gives (Ok _) Fits e = absurd (other refl e)
  crew_gives (Ok _) (Broken i j) e = absurd (other refl e)
  crew_gives (Ok _) (Overload t k) e = absurd (other refl e)
  crew_gives (Err c) x e = (c, refl, e)

  -- a later cause has a number of its own
  turn_gives : (f : Fault) (b : Bool) (d : Cause) → is_one opening (cause_number d) ≡ false → Gives (or_cause f b d) (n ∷ ys) → Gives f (n ∷ ys)
  turn_gives (Ok _) true d h g = absurd (other h (ap numbers_of (same g.1) ∙ g.2))
    where
      same : {c d : Cause} → ◌≡◌ {A = Fault} (Err c) (Err d) → c ≡ d
      same e = cc
  turn_gives (Ok _) false d h g = g
  turn_gives (Err c) b d h g = g

  -- of an operation with one cause more, 9
  nine : (s : List ℕ) (lent length v : ℕ) → output_numbers (output_of (or_short (fault_of s) lent length) v) ≡ n ∷ ys → Gives (fault_of s) (n ∷ ys)
  nine s lent length v e = turn_gives (fault_of s) (ltb lent length) (Short length) refl (output_gives (or_short (fault_of s) lent length) v e)

  pub fault_gives : (s : List ℕ) → SomeGives ours s (n ∷ ys) → Gives (fault_of s) (n ∷ ys)
  unfolding verdict_fault fault_of needs_fault starts_fault overload_fault flow_fault crew_check_fault over_cause
  fault_gives s (inl e) =
      turn_gives (fault_of s) (is_overloaded (plan_in s)) (over_cause (plan_in s)) refl
      (verdict_gives (verdict_fault s) (plan_in s).count (plan_in s).kinds e)
  fault_gives s (inr (inl w)) = nine s w.0 (plan_in s).kinds (plan_in s).kinds w.1
  fault_gives s (inr (inr (inl w))) = nine s w.0 (needed s) (needed s) w.1
  fault_gives s (inr (inr (inr (inl w)))) = nine s w.0 24 (over_count (plan_in s)) w.1
  fault_gives s (inr (inr (inr (inr (inl w))))) =
      let q = plan_in s in
      let known = or_cause (fault_of s) (not (is_kind w.0 q.kinds)) (NoKind q.kinds) in
      turn_gives (fault_of s) (not (is_kind w.0 q.kinds)) (NoKind q.kinds) refl
      (turn_gives known (ltb w.1 (flow_length q.count)) (Short (flow_length q.count)) refl
      (turn_gives (or_short known w.1 (flow_length q.count)) (is_overloaded q) (over_cause q) refl
      (output_gives (flow_fault s w.0 w.1) (flow_count q (w.0 - 1)) w.2)))
  fault_gives s (inr (inr (inr (inr (inr w))))) =
      turn_gives (fault_of s) (bad_lists (plan_in s).count (plan_in s).duration w.0 w.1) (Lists (plan_in s).count) refl
      (crew_gives (crew_check_fault s w.0 w.1) (crew_found s w.0 w.1) w.2)

-- ---- the causes 5 and 6, by their numbers

-- the reader gives neither
not_read : (u : Unread) (n : ℕ) {values : List ℕ} → is_one reading n ≡ false → numbers_of (Unreadable u) ≡ n ∷ values → ⊥
not_read u n e q = one_not reading (cause_number (Unreadable u)) n (unread_one u) e (heads q)

is_five : (s : List ℕ) (i : ℕ) → Every (λ (c : Cause). numbers_of c ≡ 5 ∷ i ∷ [] → c ≡ JobCircle i) (fault_of s)
is_five s i =
    every_open (λ (c : Cause). numbers_of c ≡ 5 ∷ i ∷ [] → c ≡ JobCircle i) s
    (λ u _ e. absurd (not_read u 5 refl e))
    (λ j _ e. let z : j + 1 ≡ i = cc in ap JobCircle z)
    (λ j _ e. absurd (omega (arith, heads e)))

is_six : (s : List ℕ) (i : ℕ) → Every (λ (c : Cause). numbers_of c ≡ 6 ∷ i ∷ [] → c ≡ PlanCircle i) (fault_of s)
is_six s i =
    every_open (λ (c : Cause). numbers_of c ≡ 6 ∷ i ∷ [] → c ≡ PlanCircle i) s
    (λ u _ e. absurd (not_read u 6 refl e))
    (λ j _ e. absurd (omega (arith, heads e)))
    (λ j _ e. let z : j + 1 ≡ i = cc in ap PlanCircle z)

pub circles : (s : List ℕ) → Readable s → Circles ours s
circles s r =
    record {
      five = λ i L. every_gives s (JobCircle (i + 1)) (means_job_circle s i r L);
      five_means = λ i g.
          let w = fault_gives 5 ((i + 1) ∷ []) (one_after reading (5 ∷ 6 ∷ []) 5 (inl refl)) s g in
          (job_circle_means s i (w.1 ∙ ap Err (is_five s (i + 1) w.0 w.1 w.2))).1;
      six = λ i free L. every_gives s (PlanCircle (i + 1)) (means_plan_circle s i r free L);
      six_means = λ i g.
          let w = fault_gives 6 ((i + 1) ∷ []) (one_after reading (5 ∷ 6 ∷ []) 6 (inr (inl refl))) s g in
          let v = plan_circle_means s i (w.1 ∙ ap Err (is_six s (i + 1) w.0 w.1 w.2)) in
          (v.1, v.2);
    }
