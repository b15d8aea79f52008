-- `plan::field::eight` meets its contract: the elements below the place of the loop are the table's.
use mathlib.Core.Path.{◌≡◌}
use Prim.Native.Nat.{ℕ, ◌<◌}
use lib.ListN.{get_or}
use Rattle.plan.specs.Records.{demand_in}
use Rattle.plan.proofs.field.eight.Given as goal

abbrev pub invariant-loop-k : goal.invariant-loop-k
invariant-loop-k l = (i : ℕ) → i < l.k → get_or l.x-items i 0 ≡ demand_in l.r i
