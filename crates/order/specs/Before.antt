-- What comes before what, by arcs. Arcs are any relation between elements; Arcs has ways to give one.
use Rattle.std.specs.Prelude.{ℕ, ◌⊎◌}

-- "Activity i is before j when arcs lead from i to j in one step or more."
-- It is the least transitive relation that holds the arcs (`before_trans`, `before_least` of
-- proofs/Before.antt), the paper's T(E).
pub data Before (A : ℕ → ℕ → Type 0) : ℕ → ℕ → Type 0 where
  last : {i j : ℕ} → A i j → Before A i j
  more : {i j k : ℕ} → A i j → Before A j k → Before A i k

-- "The job order uses job arcs, the plan order all arcs."
-- With the job arcs J and the extra arcs X the job order is `Before J`,
-- and the plan order `Before (Joined J X)`.
abbrev pub Joined : (ℕ → ℕ → Type 0) → (ℕ → ℕ → Type 0) → ℕ → ℕ → Type 0
Joined A B i j = A i j ⊎ B i j

-- "A circle exists when some activity is before itself."
abbrev pub Circle : (ℕ → ℕ → Type 0) → Type 0
Circle A = (i : ℕ) × Before A i i

-- "A plan is without a circle when its plan order has none."
-- This says so of any arcs; of a plan it is `Acyclic (Joined J X)`. Then `Before` is a strict order.
abbrev pub Acyclic : (ℕ → ℕ → Type 0) → Type 0
Acyclic A = (i : ℕ) → Before A i i → ⊥
