-- What holds of a handover before and after each round, and at the start.
use Rattle.std.proofs.Common.{ℕ, ◌<◌, ◌≤◌, List}
use Rattle.order.specs.Stored.{elements}
use Rattle.solver.specs.model.Network.{Network, joined, shifted}
use Rattle.solver.specs.model.Solve.{rounded, started}
use Rattle.solver.proofs.Balance.{Balanced, joined_balanced, shifted_balanced}
use Rattle.solver.proofs.Linked.{Linked, joined_linked, shifted_linked}
use Rattle.solver.proofs.Kept.{rounded_keeps, started_keeps}
use Rattle.solver.proofs.Ordered.{Ordered, rounded_ordered, started_ordered}

-- in balance with the demands d, along the order of the rows, and the words of givers say where there is flow
pub record Consistent (d : ℕ → ℕ) (rows : List ℕ) (s : Network) : Type 0 where
  pub balanced : Balanced d s
  pub linked : Linked s
  pub ordered : Ordered rows s

module _ (m : ℕ) (hm : m ≤ elements) (d : ℕ → ℕ) (small : (p : ℕ) → p < elements → d p ≤ 65535) (rows : List ℕ) where
  joins : (t : Network) (i j : ℕ) → i < elements → j < elements → Balanced d t → Balanced d (joined t i j)
  joins t i j hi hj b = joined_balanced d small t b i j hi hj

  shifts : (t : Network) (i k j : ℕ) → i < elements → k < elements → j < elements → Balanced d t → Balanced d (shifted t i k j)
  shifts t i k j hi hk hj b = shifted_balanced d small t b i k j hi hk hj

  pub round_consistent : (s : Network) → Consistent d rows s → Consistent d rows (rounded m rows s).now
  round_consistent s f =
      record {
        balanced = rounded_keeps (Balanced d) joins shifts m rows s f.balanced;
        linked = rounded_keeps Linked joined_linked shifted_linked m rows s f.linked;
        ordered = rounded_ordered rows m hm s f.linked.fit f.ordered;
      }

  pub start_consistent : (b : List ℕ) (s : Network) → Consistent d rows s → Consistent d rows (started rows b s)
  start_consistent b s f =
      record {
        balanced = started_keeps (Balanced d) joins shifts rows b s f.balanced;
        linked = started_keeps Linked joined_linked shifted_linked rows b s f.linked;
        ordered = started_ordered rows b s f.ordered;
      }
