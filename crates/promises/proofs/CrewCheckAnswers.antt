-- What Crew check answers, in the file's own terms, in both directions.
use mathlib.Core.Path.{◌≡◌, sym, ap, ◌∙◌}
use mathlib.Core.Bool.{false}
use mathlib.Core.List.{List, [], ◌∷◌}
use mathlib.Core.Logic.Iff
use mathlib.Core.Logic.{◌↔◌, by_cases}
use Prim.Native.Nat.{ℕ, zero, suc, ◌+◌, ◌≤◌, ◌<◌}
use native.Mathlib.Omega.{arith}
use native.Mathlib.Decide.{dec_lt}
use lib.ListN.{length}
use Rattle.std.specs.Prelude.{Ok}
use Rattle.words.proofs.Tests.{holds}
use Rattle.plan.specs.Meaning.{Readable, file_kinds, file_available}
use Rattle.plan.specs.Records.{activity_count}
use Rattle.flow_math.proofs.Crew.{none_occupied as none-at-first}
use Rattle.schedule.specs.Checks.{Work, occupied, Enough, FirstOver}
use Rattle.schedule.specs.Lists.{at}
use Rattle.schedule.specs.declared.Checked.{Checked}
use Rattle.schedule.specs.declared.Checked.TheVariants.{Fits, Broken, Overload}
use Rattle.planner.specs.Open.{plan_in, Opens}
use Rattle.planner.specs.Results.{CrewChecked}
use Rattle.planner.specs.CrewCheck.{bad_lists, crew_work, crew_found, crew_check_answer}
use Rattle.planner.specs.Times.{arc_weight, crew_occupies}
use Rattle.planner.proofs.OpenLaws.{opens_readable}
use Rattle.planner.proofs.CrewCheckLaws.{bad_work, lists_fine, works_listed, crew_occupied}
use Rattle.planner.proofs.QuotedNeeds.{count_in, kinds_in, kind_in, available_in_lem}
use Rattle.planner.specs.Answers.{found_numbers, crew_check_numbers}
use Rattle.promises.specs.Ours.{ours}
use Rattle.promises.specs.Paper.{RightLists, NeverOver, FirstOverload, CrewCheck}
use Rattle.promises.proofs.AnswersWhen.{crew_lists, crew_looks}
use Rattle.promises.proofs.CrewCheckMeaning.{finds_fits, finds_broken, finds_over, none_occupied, over_kind_lem}

-- a finding is no refusal as 10
not_ten : (x : Checked) (m : ℕ) → found_numbers x ≡ 10 ∷ m ∷ [] → ⊥
not_ten Fits m e = let z : ◌≡◌ {A = ℕ} 0 10 = cc in omega arith
not_ten (Broken i j) m e = let z : ◌≡◌ {A = ℕ} 254 10 = cc in omega arith
not_ten (Overload t k) m e = let z : ◌≡◌ {A = ℕ} 255 10 = cc in omega arith

same_found : {x y : Checked} → ◌≡◌ {A = CrewChecked} (Ok x) (Ok y) → x ≡ y
same_found e = cc

-- where something is occupied, it is in period 1 or later
some_period : (c : Work) (t k : ℕ) → 0 < occupied c t k → 1 ≤ t
some_period c zero k h = absurd (omega (arith, h, none-at-first c.count (c.demand k) c.start c.worked))
some_period c (suc t) k h = omega arith

module _ (s : List ℕ) (o : Opens s) (starts worked : List ℕ) where
  readable : Readable s
  readable = opens_readable s o

  m : (plan_in s).count ≡ activity_count s
  m = count_in s readable

  -- ---- the lists are right, or the answer is 10

  lists_right : bad_lists (plan_in s).count (plan_in s).duration starts worked ≡ false → RightLists s starts worked
  lists_right e =
      let w = lists_fine (plan_in s).count (plan_in s).duration starts worked e in
      record { starts_all = w.0 ∙ m; worked_all = w.1 ∙ m; working = (works_listed s worked readable w.1).0 w.2 }

  module _ (R : RightLists s starts worked) where
    starts_count : length starts ≡ (plan_in s).count
    starts_count = R.starts_all ∙ sym m

    worked_count : length worked ≡ (plan_in s).count
    worked_count = R.worked_all ∙ sym m

    not_bad : bad_lists (plan_in s).count (plan_in s).duration starts worked ≡ false
    not_bad =
        sym (bad_work (plan_in s).count (plan_in s).duration starts worked starts_count worked_count (sym ((works_listed s worked readable worked_count).1 R.working)))

    -- what is answered is what is found
    answers : (x : Checked) → (crew_check_answer s starts worked ≡ Ok x) ↔ (crew_found s starts worked ≡ x)
    answers x =
        let e = crew_looks s starts worked o not_bad in
        ((λ q. same_found (sym e ∙ q)), (λ q. e ∙ ap Ok q))

    -- ---- more is occupied than there is: by the plan's demands, which are the file's

    occupied_in : (t k : ℕ) → k < 8 → occupied (crew_work s starts worked) t k ≡ crew_occupies s k (at starts) (at worked) t
    occupied_in = crew_occupied s starts worked readable R.starts_all

    available_at : (k : ℕ) → k < 8 → at (plan_in s).available k ≡ file_available s k
    available_at = available_in_lem s readable

    never_over : Enough (crew_work s starts worked) → NeverOver s starts worked
    never_over n t k p h = omega (arith, n t k (kind_in s readable h), occupied_in t k (kind_in s readable h), available_at k (kind_in s readable h))

    -- what is not over in the periods from 1 on and the file's kinds is not over at all
    not_over : (t : ℕ) → (1 ≤ t → (k : ℕ) → k < file_kinds s → crew_occupies s k (at starts) (at worked) t ≤ file_available s k)
        → (k : ℕ) → k < 8 → occupied (crew_work s starts worked) t k ≤ at (plan_in s).available k
    not_over zero n k h =
        let c = crew_work s starts worked in
        omega (arith, none-at-first c.count (c.demand k) c.start c.worked)
    not_over (suc t) n k h =
        by_cases (dec_lt k (file_kinds s))
        (λ l. omega (arith, n (omega arith) k l, occupied_in (suc t) k h, available_at k h))
        (λ l. omega (arith, none_occupied s starts worked o starts_count (suc t) k (omega (arith, l, kinds_in s readable)) h))

    first_overload : (t k : ℕ) → FirstOver (crew_work s starts worked) t k → FirstOverload s starts worked t k
    first_overload t k F =
        let p : 1 ≤ t = some_period (crew_work s starts worked) t k (omega (arith, F.over)) in
        let h : k < file_kinds s = omega (arith, over_kind_lem s starts worked o starts_count t k F, kinds_in s readable) in
        record {
          period = p;
          kind = h;
          over = omega (arith, F.over, occupied_in t k F.kind, available_at k F.kind);
          sooner = λ u x q l b. omega (arith, F.quiet u l x (kind_in s readable b), occupied_in u x (kind_in s readable b), available_at x (kind_in s readable b));
          lower = λ x l.
              let b : x < 8 = omega (arith, l, F.kind) in
              omega (arith, F.lowest x l, occupied_in t x b, available_at x b);
        }

    first_over : (t k : ℕ) → FirstOverload s starts worked t k → FirstOver (crew_work s starts worked) t k
    first_over t k F =
        let h = kind_in s readable F.kind in
        record {
          kind = h;
          over = omega (arith, F.over, occupied_in t k h, available_at k h);
          quiet = λ u l. not_over u (λ q x b. F.sooner u x q l b);
          lowest = λ x l.
              let b : x < 8 = omega (arith, l, h) in
              omega (arith, F.lower x l, occupied_in t x b, available_at x b);
        }

  pub crew_check : CrewCheck ours s (arc_weight s) starts worked
  crew_check =
      record {
        ten = (
          (λ e R. not_ten (crew_found s starts worked) (activity_count s) (sym (ap crew_check_numbers (crew_looks s starts worked o (not_bad R))) ∙ e)),
          (λ n.
              ap crew_check_numbers (crew_lists s starts worked o (holds (bad_lists (plan_in s).count (plan_in s).duration starts worked) (λ e. n (lists_right e))))
              ∙ ap (λ (x : ℕ). 10 ∷ x ∷ []) m),
        );
        fits = λ R.
            Iff.trans (answers R Fits)
            (Iff.trans (finds_fits s starts worked o (starts_count R)) (Iff.and Iff.rfl (never_over R, λ n t. not_over R t (λ p k. n t k p))));
        broken = λ R i j. Iff.trans (answers R (Broken (i + 1) (j + 1))) (finds_broken s starts worked o (starts_count R) i j);
        overload = λ R t k.
            Iff.trans (answers R (Overload t (k + 1)))
            (Iff.trans (finds_over s starts worked o (starts_count R) t k) (Iff.and Iff.rfl (first_overload R t k, first_over R t k)));
      }
