-- Overload: its record, and what it answers and writes.
use mathlib.Core.Path.{◌≡◌, sym, ap, ◌∙◌}
use mathlib.Core.Bool.{true}
use mathlib.Core.List.{List}
use Prim.Native.Nat.{ℕ, ◌≤◌}
use native.Mathlib.Omega.{arith}
use lib.Dec.{ltb}
use lib.ListN.{length}
use borrow.Author.Tests.{le-ltb}
use Rattle.std.specs.Prelude.{Option, Ok, Err}
use Rattle.words.proofs.Tests.{by_test}
use Rattle.records.specs.Bytes.{AreBytes}
use Rattle.records.specs.Records.{starting_with}
use Rattle.kinds.specs.Needs.{shown_count, shown_bytes, some_overload, given_count, given_bytes}
use Rattle.kinds.specs.declared.Overload.{Overload}
use Rattle.kinds.proofs.KindLoops.{count_given, bytes_given}
use Rattle.planner.specs.Faults.{Fault, is_fine, or_short}
use Rattle.planner.specs.Open.{plan_in, plan_order, fault_of, Opens}
use Rattle.planner.specs.Need.{is_overloaded}
use Rattle.planner.specs.Overload.{overload_fault, over_count, over_bytes}
use Rattle.planner.specs.model.Opening.{Held, opened_of, overload_in}
use Rattle.planner.specs.declared.Cause.{Cause}
use Rattle.planner.specs.declared.Cause.TheVariants.{Short}
use Rattle.planner.proofs.FaultLaws.{cause_before, short_fine}
use Rattle.planner.proofs.OpenLaws.{goes_open}
use Rattle.planner.proofs.QuotedNeeds.{kinds_few, lowest_found, lowest_none}

-- ---- how the overload that is found is shown

module _ (s : List ℕ) (bytes : AreBytes s) (o : Opens s) where
  count_shown : shown_count (overload_in (plan_order s) (plan_in s)) (plan_in s).kinds ≡ over_count (plan_in s)
  unfolding shown_count over_count is_overloaded
  count_shown =
      by_test (is_overloaded (plan_in s))
      (λ e. rw (lowest_found s bytes o e))
      (λ e. rw (lowest_none s bytes o e, le-ltb (plan_in s).kinds (plan_in s).kinds (omega arith), e))

  bytes_shown : shown_bytes (overload_in (plan_order s) (plan_in s)) (plan_in s).kinds ≡ over_bytes (plan_in s)
  unfolding shown_bytes over_bytes is_overloaded
  bytes_shown =
      by_test (is_overloaded (plan_in s))
      (λ e. rw (lowest_found s bytes o e))
      (λ e. rw (lowest_none s bytes o e, le-ltb (plan_in s).kinds (plan_in s).kinds (omega arith), e))

-- it goes on where the plan opens and there is room
pub overload_fine : (s : List ℕ) (n : ℕ) → is_fine (overload_fault s n) ≡ true → Opens s × (24 ≤ n)
unfolding overload_fault
overload_fine s n e = short_fine (fault_of s) n 24 e

-- a cause of the opening is its own
pub overload_before : (s : List ℕ) (n : ℕ) {c : Cause} → fault_of s ≡ Err c → overload_fault s n ≡ Err c
unfolding overload_fault
overload_before s n e = cause_before (fault_of s) (ltb n 24) (Short 24) _ e

-- ---- what the code holds: `o` is the plan that was opened

module _ (s out : List ℕ) (opens : Opens s) where
  -- 9 in its turn
  pub overload_short : {f : Fault} → f ≡ or_short (Ok tt) (length out) 24 → f ≡ overload_fault s (length out)
  unfolding overload_fault
  overload_short e = e ∙ goes_open s opens (λ f. or_short f (length out) 24)

  pub room : Ok tt ≡ overload_fault s (length out) → 24 ≤ length out
  room e = (overload_fine s (length out) (sym (ap is_fine e))).1

  -- what is found is shown
  module _ (bytes : AreBytes s) {o : Held} (held : o ≡ opened_of s) {v : Option Overload}
      (found : v ≡ some_overload o.plan.kinds (overload_in o.order o.plan)) where
    shown : v ≡ some_overload (plan_in s).kinds (overload_in (plan_order s) (plan_in s))
    shown = found ∙ ap (λ (x : Held). some_overload x.plan.kinds (overload_in x.order x.plan)) held

    pub counted : given_count v ≡ over_count (plan_in s)
    counted = ap given_count shown
        ∙ count_given (plan_in s).kinds (overload_in (plan_order s) (plan_in s)) (kinds_few s) ∙ count_shown s bytes opens

    pub written : starting_with (given_bytes v) out ≡ starting_with (over_bytes (plan_in s)) out
    written =
        ap (λ (l : List ℕ). starting_with l out)
        (ap given_bytes shown ∙ bytes_given (plan_in s).kinds (overload_in (plan_order s) (plan_in s)) (kinds_few s)
        ∙ bytes_shown s bytes opens)
