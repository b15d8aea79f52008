-- Arcs of which nothing is before itself have a rank that rises along every arc.
use mathlib.Core.Path.{◌≡◌}
use mathlib.Core.Bool.{Bool, true}
use mathlib.Core.List.{List}
use Prim.Native.Nat.{ℕ}
use Rattle.order.specs.Before.{last, Acyclic}
use Rattle.order.specs.Arcs.{StrictOrder}
use Rattle.order.specs.Orders.{Direct, is_before, order_in}
use Rattle.order.proofs.Orders.{direct_order, order_means, order_strict}
use Rattle.flow_math.specs.Peak.{rank}
use Rattle.flow_math.proofs.Crew.{rank_below, rank_rises}
use Rattle.schedule.specs.Network.{Network, Arc, Ranked}
use Rattle.schedule.specs.model.Arrays.{net_of}

-- a strict order that has every arc gives a rank: how many are before an element
ranked_by : (g : Network) (b : ℕ → ℕ → Bool) → ((i j : ℕ) → Arc g i j → b i j ≡ true) → StrictOrder g.elements b → Ranked g
ranked_by g b arcs o =
    record {
      rank = rank g.elements b;
      below = rank_below g.elements b o;
      rises = λ i j a. rank_rises g.elements b o i j a.from a.to (arcs i j a);
    }

-- NOTHING IS BEFORE ITSELF: there is a rank, by the order that the rows make
pub ranked : (rows : List ℕ) (weight : ℕ → ℕ → ℕ) → Acyclic (Direct rows) → Ranked (net_of rows weight)
ranked rows weight free =
    ranked_by (net_of rows weight) (is_before (order_in rows))
    (λ i j a. (order_means (direct_order rows) i j).1 (last a))
    (order_strict (direct_order rows) free)
