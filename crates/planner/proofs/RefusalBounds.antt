-- What an operation refuses with is small, whatever the plan's bytes are and whatever is lent: the cause's number has 8
-- bits, its values have 32, and its set holds activities alone.
--
--   open_refuses, verdict_refuses, needs_refuses, starts_refuses, overload_refuses, flow_refuses, sheet_refuses, trim_refuses, crew_refuses    what every operation does first, and the eight
use mathlib.Core.Path.{◌≡◌}
use mathlib.Core.Bool.{Bool, true, not}
use mathlib.Core.List.{List}
use Prim.Native.Nat.{ℕ, ◌^◌, ◌<◌}
use native.Mathlib.Omega.{arith}
use lib.Dec.{ltb}
use lib.ListN.{length}
use Rattle.std.specs.Prelude.{Option, Some, None, unwrap_or}
use Rattle.records.specs.Bytes.{AreBytes}
use Rattle.order.specs.Stored.{number_of}
use Rattle.crew_sheet.specs.Sheet.{page_bytes}
use Rattle.plan.specs.Records.{activities}
use Rattle.plan.specs.Numbers.{told_by}
use Rattle.plan.proofs.CausePlaces.{told_small}
use Rattle.solver.proofs.QuoteSound.{need_small}
use Rattle.kinds.specs.Needs.{demands_for}
use Rattle.planner.specs.Numbers.{with_one, at_most_one, refusal_of}
use Rattle.planner.specs.Open.{plan_in, plan_order, fault_of, Opens}
use Rattle.planner.specs.Faults.{Fault, is_fine, or_cause, or_short}
use Rattle.planner.specs.Need.{over_kind, is_overloaded, over_cause}
use Rattle.planner.specs.Verdict.{verdict_fault}
use Rattle.planner.specs.Needs.{needs_fault}
use Rattle.planner.specs.Starts.{needed, starts_fault}
use Rattle.planner.specs.File.{flow_length}
use Rattle.planner.specs.Flow.{is_kind, kind_fault, flow_fault}
use Rattle.planner.specs.Sheet.{is_page, sheet_pages, sheet_fault}
use Rattle.planner.specs.Trim.{trim_fault}
use Rattle.planner.specs.Overload.{overload_fault}
use Rattle.planner.specs.CrewCheck.{bad_lists, crew_check_fault}
use Rattle.planner.specs.declared.Cause.{Cause}
use Rattle.planner.specs.declared.Cause.TheVariants.{NoKind, Short, Lists, NoPage}
use Rattle.planner.specs.declared.Refusal.{Refusal}
use Rattle.planner.specs.declared.Values.{Values}
use Rattle.planner.specs.declared.Values.TheVariants.{Nothing, One, Need}
use Rattle.planner.proofs.FaultLaws.{cause_fine, short_fine, Every, every_turn}
use Rattle.planner.proofs.OpenLaws.{count_few, count_within, opens_short, every_open}
use Rattle.planner.proofs.QuotedNeeds.{kinds_few, need_quoted, quotable, over_below, set_fits}
use Rattle.planner.proofs.FlowUnits.{length_few}
use Rattle.planner.proofs.SheetLaws.{pages_small}

abbrev pub SmallValues : Values → Type 0
SmallValues Nothing = Unit {0}
SmallValues (One n) = n < 2 ^ 32
SmallValues (Need k need set) = (k < 2 ^ 32) × (need < 2 ^ 32) × (number_of set < 2 ^ activities)

pub record Small (r : Refusal) : Type 0 where
  pub number : r.number < 256
  pub values : SmallValues r.values

one_small : (number value : ℕ) → number < 256 → value < 2 ^ 32 → Small (with_one number value)
one_small number value h l = record { number = h; values = l }

place_small : (place : Option ℕ) → unwrap_or place 0 < 2 ^ 32 → SmallValues (at_most_one place)
place_small None l = tt
place_small (Some p) l = l

-- ---- a fault whose refusal is small, and the next cause in turn

abbrev pub SmallFault : Fault → Type 0
SmallFault f = Every (λ (c : Cause). Small (refusal_of c)) f

small_turn : (f : Fault) (t : Bool) (c : Cause) → SmallFault f → (is_fine f ≡ true → t ≡ true → Small (refusal_of c)) → SmallFault (or_cause f t c)
small_turn = every_turn (λ (c : Cause). Small (refusal_of c))

-- ---- the causes of the opening

pub open_refuses : (s : List ℕ) → SmallFault (fault_of s)
open_refuses s =
    every_open (λ (c : Cause). Small (refusal_of c)) s
    (λ u e.
    let w = told_small s u e in
    record { number = w.number; values = place_small (told_by u).place (omega (arith, w.place)) })
    (λ i h. one_small 5 _ (omega arith) (omega arith))
    (λ i h. one_small 6 _ (omega arith) (omega arith))

-- ---- 7, where the plan opens: the kind is at most 8, and no element demands more than 65,535

over_small : (s : List ℕ) → AreBytes s → Opens s → is_overloaded (plan_in s) ≡ true → Small (refusal_of (over_cause (plan_in s)))
unfolding over_cause
over_small s small o e =
    let k = over_kind (plan_in s) in
    let l : k < 8 = omega (arith, over_below s small o e, kinds_few s) in
    let n = need_small (plan_in s).count (plan_order s) (demands_for (plan_in s).demand k) (quotable s small o k l) in
    record {
      number = omega arith;
      values =
          (omega arith, omega (arith, n, need_quoted s small o k l), set_fits s small o k l);
    }

-- ---- Verdict, Needs, Starts, Overload

pub verdict_refuses : (s : List ℕ) → AreBytes s → SmallFault (verdict_fault s)
unfolding verdict_fault fault_of
verdict_refuses s small = small_turn (fault_of s) (is_overloaded (plan_in s)) (over_cause (plan_in s)) (open_refuses s) (over_small s small)

short_small : (f : Fault) (t : Bool) (n : ℕ) → n < 2 ^ 32 → SmallFault f → SmallFault (or_cause f t (Short n))
short_small f t n l small = small_turn f t (Short n) small (λ o e. one_small 9 n (omega arith) l)

pub needs_refuses : (s : List ℕ) (n : ℕ) → SmallFault (needs_fault s n)
unfolding needs_fault
needs_refuses s n = short_small (fault_of s) (ltb n (plan_in s).kinds) (plan_in s).kinds (omega (arith, kinds_few s)) (open_refuses s)

pub starts_refuses : (s : List ℕ) (n : ℕ) → SmallFault (starts_fault s n)
unfolding starts_fault
starts_refuses s n = short_small (fault_of s) (ltb n (needed s)) (needed s) (omega (arith, count_few s)) (open_refuses s)

pub overload_refuses : (s : List ℕ) (n : ℕ) → SmallFault (overload_fault s n)
unfolding overload_fault
overload_refuses s n = short_small (fault_of s) (ltb n 24) 24 (omega arith) (open_refuses s)

-- ---- the operations on one kind, and Flow

pub kind_refuses : (s : List ℕ) → AreBytes s → (kind n needed : ℕ) → needed < 2 ^ 32 → SmallFault (kind_fault s kind n needed)
kind_refuses s small kind n needed few =
    small_turn roomy (is_overloaded (plan_in s)) (over_cause (plan_in s))
    (short_small known (ltb n needed) needed few
    (small_turn (fault_of s) none (NoKind (plan_in s).kinds) (open_refuses s)
    (λ o e. one_small 8 _ (omega arith) (omega (arith, kinds_few s)))))
    (λ e. over_small s small (cause_fine (fault_of s) none (NoKind (plan_in s).kinds) (cause_fine known (ltb n needed) (Short needed) e).0).0)
  where
    none : Bool
    none = not (is_kind kind (plan_in s).kinds)

    known : Fault
    known = or_cause (fault_of s) none (NoKind (plan_in s).kinds)

    roomy : Fault
    roomy = or_cause known (ltb n needed) (Short needed)

pub flow_refuses : (s : List ℕ) → AreBytes s → (kind n : ℕ) → SmallFault (flow_fault s kind n)
unfolding flow_fault
flow_refuses s small kind n = kind_refuses s small kind n (flow_length (plan_in s).count) (omega (arith, length_few (plan_in s).count (count_within s)))

-- ---- Sheet

pub sheet_refuses : (s : List ℕ) → AreBytes s → (kind page n : ℕ) → SmallFault (sheet_fault s kind page n)
unfolding sheet_fault
sheet_refuses s small kind page n =
    small_turn (kind_fault s kind n page_bytes) (not (is_page page (sheet_pages s kind))) (NoPage (sheet_pages s kind)) (kind_refuses s small kind n page_bytes (omega arith))
    (λ o e. one_small 11 _ (omega arith) (omega (arith, pages_small s small kind n o)))

-- ---- Trim

pub trim_refuses : (s : List ℕ) → AreBytes s → (n : ℕ) → SmallFault (trim_fault s n)
unfolding trim_fault
trim_refuses s small n =
    small_turn (or_short (fault_of s) n (length s)) (is_overloaded (plan_in s)) (over_cause (plan_in s))
    (small_turn (fault_of s) (ltb n (length s)) (Short (length s)) (open_refuses s)
    (λ o e. one_small 9 (length s) (omega arith) (omega (arith, opens_short s o))))
    (λ e. over_small s small (short_fine (fault_of s) n (length s) e).0)

-- ---- Crew check

pub crew_refuses : (s starts worked : List ℕ) → SmallFault (crew_check_fault s starts worked)
unfolding crew_check_fault
crew_refuses s starts worked =
    small_turn (fault_of s) (bad_lists (plan_in s).count (plan_in s).duration starts worked) (Lists (plan_in s).count) (open_refuses s)
    (λ o e. one_small 10 _ (omega arith) (omega (arith, count_few s)))
