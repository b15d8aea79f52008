-- Needs: the numbers, and what it answers and writes.
use mathlib.Core.Path.{◌≡◌, sym, ap, ◌∙◌}
use mathlib.Core.Bool.{true}
use mathlib.Core.List.{List}
use Prim.Native.Nat.{ℕ, ◌≤◌}
use native.Mathlib.Omega.{arith}
use lib.Dec.{ltb}
use lib.ListN.{length, replicate}
use Rattle.std.specs.Prelude.{Ok, Err}
use Rattle.words.specs.Tables.{over}
use Rattle.words.proofs.Tables.{length_table, is_table, over_again}
use Rattle.records.specs.Bytes.{AreBytes}
use Rattle.kinds.specs.Needs.{needs_for}
use Rattle.kinds.proofs.KindLoops.{length_needs, need_at}
use Rattle.planner.specs.Faults.{Fault, is_fine, or_short}
use Rattle.planner.specs.Open.{plan_in, plan_order, fault_of, Opens}
use Rattle.planner.specs.Need.{need_for}
use Rattle.planner.specs.Needs.{needs_fault, need_numbers}
use Rattle.planner.specs.model.Opening.{Held, opened_of}
use Rattle.planner.specs.declared.Cause.{Cause}
use Rattle.planner.specs.declared.Cause.TheVariants.{Short}
use Rattle.planner.proofs.FaultLaws.{cause_before, short_fine}
use Rattle.planner.proofs.OpenLaws.{goes_open}
use Rattle.planner.proofs.QuotedNeeds.{kinds_few, need_quoted}

-- ---- what Needs writes

pub length_numbers : (s : List ℕ) → length (need_numbers s) ≡ (plan_in s).kinds
unfolding need_numbers
length_numbers s = length_table (plan_in s).kinds (need_for (plan_in s))

-- what the solver quotes for the kinds are their needs
numbers_quoted : (s : List ℕ) → AreBytes s → Opens s → needs_for (plan_in s).count (plan_order s) (plan_in s).demand (plan_in s).kinds ≡ need_numbers s
unfolding need_numbers
numbers_quoted s bytes o =
    let n = (plan_in s).kinds in
    is_table n (need_for (plan_in s)) (needs_for (plan_in s).count (plan_order s) (plan_in s).demand n) 0 (length_needs (plan_in s).count (plan_order s) (plan_in s).demand n)
    (λ k h. need_at (plan_in s).count (plan_order s) (plan_in s).demand n k h ∙ need_quoted s bytes o k (omega (arith, kinds_few s)))

-- it goes on where the plan opens and there is room
needs_fine : (s : List ℕ) (n : ℕ) → is_fine (needs_fault s n) ≡ true → Opens s × ((plan_in s).kinds ≤ n)
unfolding needs_fault
needs_fine s n e = short_fine (fault_of s) n (plan_in s).kinds e

-- a cause of the opening is its own
pub needs_before : (s : List ℕ) (n : ℕ) {c : Cause} → fault_of s ≡ Err c → needs_fault s n ≡ Err c
unfolding needs_fault
needs_before s n e = cause_before (fault_of s) (ltb n (plan_in s).kinds) (Short (plan_in s).kinds) _ e

-- ---- the same, of what the code holds: `o` is the plan that was opened

module _ (s out : List ℕ) (opens : Opens s) {o : Held} (held : o ≡ opened_of s) where
  -- 9 in its turn
  pub needs_short : {f : Fault} → f ≡ or_short (Ok tt) (length out) o.plan.kinds → f ≡ needs_fault s (length out)
  unfolding needs_fault
  needs_short e = e ∙ ap (λ (x : Held). or_short (Ok tt) (length out) x.plan.kinds) held
      ∙ goes_open s opens (λ f. or_short f (length out) (plan_in s).kinds)

  pub room : Ok tt ≡ needs_fault s (length out) → o.plan.kinds ≤ length out
  room e = rw held (needs_fine s (length out) (sym (ap is_fine e))).1

  pub counted : o.plan.kinds ≡ (plan_in s).kinds
  counted = ap (λ (x : Held). x.plan.kinds) held

  -- the needs that the solver quotes are written, over zeros first
  pub written : AreBytes s → {found after : List ℕ}
      → found ≡ over o.plan.kinds (needs_for o.plan.count o.order o.plan.demand o.plan.kinds) (replicate 8 0) → after ≡ over o.plan.kinds found out
      → after ≡ over (plan_in s).kinds (need_numbers s) out
  written bytes {found} w a = a ∙ once ∙ numbers
    where
      once : over o.plan.kinds found out ≡ over o.plan.kinds (needs_for o.plan.count o.order o.plan.demand o.plan.kinds) out
      once =
          ap (λ (l : List ℕ). over o.plan.kinds l out) w
          ∙ over_again o.plan.kinds (needs_for o.plan.count o.order o.plan.demand o.plan.kinds) (replicate 8 0) out
          (omega (arith, length_needs o.plan.count o.order o.plan.demand o.plan.kinds))

      numbers : over o.plan.kinds (needs_for o.plan.count o.order o.plan.demand o.plan.kinds) out ≡ over (plan_in s).kinds (need_numbers s) out
      numbers =
          ap (λ (x : Held). over x.plan.kinds (needs_for x.plan.count x.order x.plan.demand x.plan.kinds) out) held
          ∙ ap (λ (r : List ℕ). over (plan_in s).kinds r out) (numbers_quoted s bytes opens)
