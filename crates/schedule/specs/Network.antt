-- A network of arcs, and the schedules that keep its arcs.
use Rattle.std.specs.Prelude.{Bool, ℕ, ◌<◌}
use Rattle.order.specs.Arcs.{Drawn}
use Rattle.flow_math.specs.Kept as kept

-- So many elements, which pairs of them are arcs, and how long after the start of i the arc from i to j
-- lets j start. (Here that weight is the duration of i, and the wait on the arc added to it:
-- `with_waits` of model/Arrays.)
pub record Network : Type 0 where
  pub elements : ℕ
  pub arc : ℕ → ℕ → Bool
  pub weight : ℕ → ℕ → ℕ

-- there is an arc from i to j
abbrev pub Arc : Network → ℕ → ℕ → Type 0
Arc g = Drawn g.elements g.arc

-- a schedule: the start of each element
abbrev pub Schedule : Type 0
Schedule = ℕ → ℕ

-- "It keeps every arc": what that means is flow_math's Kept
abbrev pub Keeps : Network → Schedule → Type 0
Keeps g s = kept.Keeps (Arc g) s g.weight

-- no circle, said by a rank below the number of elements that rises along every arc
-- (`ranked` of proofs/Ranks.antt)
pub record Ranked (g : Network) : Type 0 where
  pub rank : ℕ → ℕ
  pub below : (i : ℕ) → i < g.elements → rank i < g.elements
  pub rises : (i j : ℕ) → Arc g i j → rank i < rank j
