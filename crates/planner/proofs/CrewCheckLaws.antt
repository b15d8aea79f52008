-- Crew check: its cause 10 and what is occupied, in the file's own terms too (`works_listed`,
-- `crew_occupied`), and what it answers.
use mathlib.Core.Path.{◌≡◌, refl, sym, ap, ◌∙◌}
use mathlib.Core.Bool.{Bool, true, false, not, ◌||◌}
use mathlib.Core.List.{List}
use mathlib.Core.Logic.{◌↔◌, ◌≢◌}
use Prim.Native.Nat.{ℕ, ◌+◌, ◌*◌, ◌≤◌, ◌<◌}
use native.Mathlib.Omega.{arith}
use lib.Dec.{eqb, ltb}
use lib.ListN.{length, get_or}
use borrow.Author.Tests.{eq-eqb, ne_eqb, eqb-true, eqb-false, le-ltb, ltb-false}
use Rattle.std.specs.Prelude.{Ok, Err}
use Rattle.words.specs.Members.{some}
use Rattle.words.proofs.Firsts.{some_here, some_none}
use Rattle.words.proofs.Tests.{by_test, fails, clash, cond_true, cond_false}
use Rattle.order.specs.Stored.{elements}
use Rattle.plan.specs.Records.{activity_count}
use Rattle.plan.specs.Meaning.{Readable, file_duration, file_demand}
use Rattle.flow_math.specs.Need.{weight}
use Rattle.flow_math.specs.Crew.{active}
use Rattle.flow_math.proofs.Need.{weight_same}
use Rattle.flow_math.proofs.Crew.{occupied_weight}
use Rattle.schedule.specs.Lists.{at}
use Rattle.schedule.specs.Checks.{check_of, occupied}
use Rattle.schedule.specs.model.Arrays.{crew_net, work_of, Listed}
use Rattle.schedule.specs.declared.Checked.{Checked}
use Rattle.planner.specs.Faults.{Fault, is_fine, or_cause}
use Rattle.planner.specs.Open.{plan_in, fault_of, Opens}
use Rattle.planner.specs.CrewCheck.{misworked, some_misworked, bad_lists, crew_check_fault, crew_work, crew_found, checked_of, crew_check_answer}
use Rattle.planner.specs.Times.{arc_weight, Workable, crew_occupies}
use Rattle.planner.specs.model.Opening.{Held, opened_of}
use Rattle.planner.specs.declared.Cause.{Cause}
use Rattle.planner.specs.declared.Cause.TheVariants.{Lists}
use Rattle.planner.proofs.FaultLaws.{cause_fine, cause_before}
use Rattle.planner.proofs.OpenLaws.{said_in, opens_readable, count_few, goes_open}

-- ---- the lists

module _ (m : ℕ) (durations starts worked : List ℕ) where
  pub bad_starts : length starts ≢ m → true ≡ bad_lists m durations starts worked
  unfolding bad_lists
  bad_starts ne = rw (ne_eqb (length starts) m ne)

  pub bad_worked : length starts ≡ m → length worked ≢ m → true ≡ bad_lists m durations starts worked
  unfolding bad_lists
  bad_worked e ne = rw (eq-eqb (length starts) m e, ne_eqb (length worked) m ne)

  pub bad_work : {b : Bool} → length starts ≡ m → length worked ≡ m → b ≡ some_misworked durations worked → b ≡ bad_lists m durations starts worked
  unfolding bad_lists
  bad_work e d z = rw (eq-eqb (length starts) m e, eq-eqb (length worked) m d) z

  -- the lists are right
  pub lists_fine : bad_lists m durations starts worked ≡ false → (length starts ≡ m) × (length worked ≡ m) × (some_misworked durations worked ≡ false)
  unfolding bad_lists
  lists_fine e =
      let w = none_of (eqb (length starts) m) (eqb (length worked) m) (some_misworked durations worked) e in
      (eqb-true (length starts) m w.0, eqb-true (length worked) m w.1, w.2)
    where
      none_of : (a b c : Bool) → not a || (not b || c) ≡ false → (a ≡ true) × (b ≡ true) × (c ≡ false)
      none_of true true c e = (refl, refl, e)
      none_of true false c e = clash refl e
      none_of false b c e = clash refl e

-- a worked duration fits exactly where it is 0 for the duration 0, and 1 or more for any other
fits_work : (d w : ℕ) → (misworked d w ≡ false) ↔ ((d ≡ 0 → w ≡ 0) × ((d ≡ 0 → ⊥) → 1 ≤ w))
fits_work d w =
    by_test (eqb d 0)
    (λ t.
    let e : misworked d w ≡ ltb 0 w = cond_true (ltb 0 w) (eqb w 0) t in
    let z : d ≡ 0 = eqb-true d 0 t in (
      (λ q. ((λ _. omega (arith, ltb-false 0 w (sym e ∙ q))), (λ n. absurd (n z)))),
      (λ h. e ∙ le-ltb 0 w (omega (arith, h.0 z))),
    ))
    (λ t.
    let e : misworked d w ≡ eqb w 0 = cond_false (ltb 0 w) (eqb w 0) t in
    let n : d ≢ 0 = eqb-false d 0 t in (
      (λ q. ((λ z. absurd (n z)), (λ _. let v = eqb-false w 0 (sym e ∙ q) in omega arith))),
      (λ h. e ∙ ne_eqb w 0 (λ z. omega (arith, h.1 n))),
    ))

-- no worked duration is wrong exactly where a crew can work in them
pub works_listed : (s worked : List ℕ) → Readable s → length worked ≡ (plan_in s).count → (some_misworked (plan_in s).duration worked ≡ false) ↔ Workable s (at worked)
unfolding some_misworked
works_listed s worked r all =
    let said = said_in s r in
    let p : ℕ → Bool = λ i. misworked (get_or (plan_in s).duration i 0) (get_or worked i 0) in
    let file : (i : ℕ) → i < activity_count s → get_or (plan_in s).duration i 0 ≡ file_duration s i = λ i l. said.duration i (omega (arith, said.count)) in
    let each : some (length worked) p ≡ false → (i : ℕ) → i < activity_count s → p i ≡ false =
    λ e i l. fails (p i) (λ t. clash (some_here (length worked) p i (omega (arith, said.count)) t) e) in (
      (λ e. record {
        milestones = λ i l z. ((fits_work (get_or (plan_in s).duration i 0) (get_or worked i 0)).0 (each e i l)).0 (file i l ∙ z);
        others = λ i l n. ((fits_work (get_or (plan_in s).duration i 0) (get_or worked i 0)).0 (each e i l)).1 (λ z. n (sym (file i l) ∙ z));
      }),
      (λ W. some_none (length worked) p
          (λ i l.
          let h : i < activity_count s = omega (arith, said.count) in
          (fits_work (get_or (plan_in s).duration i 0) (get_or worked i 0)).1
          ((λ z. W.milestones i h (sym (file i h) ∙ z)), (λ n. W.others i h (λ z. n (file i h ∙ z)))))),
    )

-- WHAT THE CREW OCCUPIES, by the plan's demands, is what it occupies by the file's
pub crew_occupied : (s starts worked : List ℕ) → Readable s → length starts ≡ activity_count s → (t k : ℕ) → k < 8
    → occupied (crew_work s starts worked) t k ≡ crew_occupies s k (at starts) (at worked) t
crew_occupied s starts worked r all t k h =
    let d : ℕ → ℕ = λ i. at (plan_in s).demand (elements * k + i) in
    let S : ℕ → Bool = active (at starts) (at worked) t in
    occupied_weight (length starts) d (at starts) (at worked) t
    ∙ weight_same (length starts) d (file_demand s k) S (λ i l. (said_in s r).demand k i h (omega (arith, (said_in s r).count)))
    ∙ ap (λ (n : ℕ). weight n (file_demand s k) S) all
    ∙ sym (occupied_weight (activity_count s) (file_demand s k) (at starts) (at worked) t)

-- the crew check goes on: the plan opens, and the lists are right
pub crew_fine : (s starts worked : List ℕ) → is_fine (crew_check_fault s starts worked) ≡ true
    → Opens s × (length starts ≡ (plan_in s).count) × (length worked ≡ (plan_in s).count) × (some_misworked (plan_in s).duration worked ≡ false)
unfolding crew_check_fault
crew_fine s starts worked e =
    let w = cause_fine (fault_of s) (bad_lists (plan_in s).count (plan_in s).duration starts worked) (Lists (plan_in s).count) e in
    let l = lists_fine (plan_in s).count (plan_in s).duration starts worked w.1 in
    (w.0, l.0, l.1, l.2)

-- a cause of the opening is its own
pub crew_before : (s starts worked : List ℕ) {c : Cause} → fault_of s ≡ Err c → crew_check_fault s starts worked ≡ Err c
unfolding crew_check_fault
crew_before s starts worked e = cause_before (fault_of s)
    (bad_lists (plan_in s).count (plan_in s).duration starts worked) (Lists (plan_in s).count) _ e

-- ---- what the code holds: `o` is the plan that was opened, `t` whether the lists are bad

module _ (s starts worked : List ℕ) (opens : Opens s) {o : Held} (held : o ≡ opened_of s) {t : Bool}
    (lists : t ≡ bad_lists o.plan.count o.plan.duration starts worked) where
  -- 10 in its turn
  crew_lists : or_cause (Ok tt) t (Lists o.plan.count) ≡ crew_check_fault s starts worked
  unfolding crew_check_fault
  crew_lists =
      rw (lists, held)
      (goes_open s opens (λ f. or_cause f (bad_lists (plan_in s).count (plan_in s).duration starts worked)
      (Lists (plan_in s).count)))

  pub crew_refused : t ≡ true → Err (Lists o.plan.count) ≡ crew_check_answer s starts worked
  crew_refused e =
      ap (λ (f : Fault). checked_of f (crew_found s starts worked))
      (ap (λ (b : Bool). or_cause (Ok tt) b (Lists o.plan.count)) (sym e) ∙ crew_lists)

  module _ (e : t ≡ false) where
    goes : crew_check_fault s starts worked ≡ Ok tt
    goes = sym crew_lists ∙ ap (λ (b : Bool). or_cause (Ok tt) b (Lists o.plan.count)) e

    -- what looking for a broken arc and an overload asks
    pub looks : Readable s × Listed starts worked
    looks =
        let w = crew_fine s starts worked (ap is_fine goes) in
        (opens_readable s w.0, record { few = omega (arith, w.1, count_few s); paired = w.2 ∙ sym w.1 })

    pub crew_done : {x : Checked}
        → x ≡ check_of (crew_net o.rows (arc_weight s (at worked)) starts)
        (work_of o.plan.demand o.plan.available starts worked)
        → Ok x ≡ crew_check_answer s starts worked
    unfolding crew_found
    crew_done q = ap (λ (y : Checked). Ok y) (q ∙ rw held)
        ∙ ap (λ (f : Fault). checked_of f (crew_found s starts worked)) (sym goes)
