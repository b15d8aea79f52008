-- THE HOLLOW PLANNERS of document 01, "How far the contracts reach", and that the price_list sentence holds
-- of none of them: `HollowPlannersFail` of five planners that are ours but for their hollow part, and
-- `HollowFail` of every planner with such a part (`hollow_planners_fail` and `hollow_fail` of
-- proofs/HollowFail.antt).
use Rattle.std.specs.Prelude.{◌≡◌, Bool, true, List, ℕ, ◌+◌, ◌*◌, ◌<◌, ltb, length, take, Ok, Err}
use Rattle.words.specs.Members.{some}
use Rattle.words.specs.Tables.{table}
use Rattle.order.specs.Before.{Acyclic}
use Rattle.plan.specs.Meaning.{Readable, FileArc, file_kinds, file_demand, file_available}
use Rattle.plan.specs.Records.{activity_count}
use Rattle.planner.specs.Faults.{or_cause}
use Rattle.planner.specs.Results.{Decision, accepted}
use Rattle.planner.specs.Open.{plan_in, fault_of}
use Rattle.planner.specs.Output.{output_of, lent_after}
use Rattle.planner.specs.Need.{available_for}
use Rattle.planner.specs.Verdict.{verdict_of}
use Rattle.planner.specs.Needs.{needs_fault}
use Rattle.planner.specs.Flow.{flow_fault}
use Rattle.planner.specs.declared.Cause.{Cause}
use Rattle.promises.specs.Planner.{Writing, Planner}
use Rattle.promises.specs.Ours.{ours}
use Rattle.promises.specs.PriceList.{quoted_need, PriceListSentence}

-- ours, but for Verdict, Needs and Flow
abbrev pub ours_but : (List ℕ → Decision) → Writing → (ℕ → Writing) → Planner
ours_but verdict needs flow =
    record {
      verdict = verdict;
      needs = needs;
      starts = ours.starts;
      overload = ours.overload;
      flow = flow;
      crew_check = ours.crew_check;
    }

-- the verdict on a plan that opens by a test of its bytes: 7, whatever it shows, or accepted
abbrev pub verdict_by : (List ℕ → Bool) → (List ℕ → Cause) → List ℕ → Decision
verdict_by test seven s =
    verdict_of (or_cause (fault_of s) (test s) (seven s)) (plan_in s).count (plan_in s).kinds

-- "Refusing everything as overloaded"
abbrev pub refuses_all : (List ℕ → Cause) → Planner
refuses_all seven = ours_but (verdict_by (λ s. true) seven) ours.needs ours.flow

-- "or accepting everything"
abbrev pub accepts_all : Planner
accepts_all =
    ours_but (λ s. verdict_of (fault_of s) (plan_in s).count (plan_in s).kinds) ours.needs ours.flow

-- "An empty flow": no record is written
abbrev pub empty_flow : Planner
empty_flow =
    ours_but ours.verdict ours.needs
    (λ kind. record { answer = λ s n. output_of (flow_fault s kind n) 0; left = λ s out. out })

-- "Reporting the availability as the need"
abbrev pub available_as_need : Planner
available_as_need =
    ours_but ours.verdict
    (record {
      answer = ours.needs.answer;
      left = λ s out.
          lent_after (needs_fault s (length out)) (table (plan_in s).kinds (available_for (plan_in s))) out;
    })
    ours.flow

-- "7 given before any set is weighed": by whatever test of the activity records and the crew record,
-- which do not say what is ordered
abbrev pub unordered : List ℕ → List ℕ
unordered s = take (24 * (activity_count s + 1)) s

abbrev pub seven_unweighed : (List ℕ → Bool) → (List ℕ → Cause) → Planner
seven_unweighed test seven = ours_but (verdict_by (λ s. test (unordered s)) seven) ours.needs ours.flow

-- such a test is: a single demand exceeds what is available
unfoldable pub one_demand : List ℕ → Bool
one_demand s =
    some (file_kinds s) (λ k. some (activity_count s) (λ i. ltb (file_available s k) (file_demand s k i)))

-- ---- the same five as properties, of planners that may do anything else

abbrev pub Refuses : Planner → List ℕ → Type 0
Refuses P s = (c : Cause) × (P.verdict s ≡ Err c)

abbrev pub RefusesAll : Planner → Type 0
RefusesAll P = (s : List ℕ) → Refuses P s

abbrev pub AcceptsAll : Planner → Type 0
AcceptsAll P =
    (s : List ℕ) → Readable s → Acyclic (FileArc s)
    → (m : ℕ) × (n : ℕ) × (P.verdict s ≡ accepted m n)

abbrev pub EmptyFlows : Planner → Type 0
EmptyFlows P = (s : List ℕ) (kind n r : ℕ) → (P.flow kind).answer s n ≡ Ok r → r ≡ 0

abbrev pub NeedIsAvailable : Planner → Type 0
NeedIsAvailable P =
    (s : List ℕ) → Readable s → Acyclic (FileArc s)
    → (k : ℕ) → k < file_kinds s → quoted_need P s k ≡ file_available s k

-- plans with the same activities and crew are refused alike
abbrev pub Unweighed : Planner → Type 0
Unweighed P =
    (s t : List ℕ) → Readable s → Acyclic (FileArc s) → Readable t → Acyclic (FileArc t)
    → unordered s ≡ unordered t → Refuses P s → Refuses P t

-- "Five hollow planners fail."
pub record HollowFail : Type 0 where
  -- "Refusing everything as overloaded, or accepting everything, breaks demand 3's "exactly when"."
  pub refusing_all : (P : Planner) → RefusesAll P → PriceListSentence P → ⊥
  pub accepting_all : (P : Planner) → AcceptsAll P → PriceListSentence P → ⊥
  -- "An empty flow breaks the equations in demands 2 and 3."
  pub empty_flows : (P : Planner) → EmptyFlows P → PriceListSentence P → ⊥
  -- "Reporting the availability as the need contradicts the greatest demand,
  pub available_needs : (P : Planner) → NeedIsAvailable P → PriceListSentence P → ⊥
  -- as does 7 given before any set is weighed."
  pub unweighed_seven : (P : Planner) → Unweighed P → PriceListSentence P → ⊥

-- and so do those above
pub record HollowPlannersFail : Type 0 where
  pub refusing_all : (seven : List ℕ → Cause) → PriceListSentence (refuses_all seven) → ⊥
  pub accepting_all : PriceListSentence accepts_all → ⊥
  pub empty_flows : PriceListSentence empty_flow → ⊥
  pub available_needs : PriceListSentence available_as_need → ⊥
  pub unweighed_seven : (test : List ℕ → Bool) (seven : List ℕ → Cause)
      → PriceListSentence (seven_unweighed test seven) → ⊥
  pub seven_of_one_demand : (seven : List ℕ → Cause) → PriceListSentence (seven_unweighed one_demand seven) → ⊥
