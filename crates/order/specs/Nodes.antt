-- The start and the end.
use Rattle.std.specs.Prelude.{ℕ, zero, suc, Bool, false, ◌&&◌, ◌||◌, ◌==◌, nat_lt}

-- "0 is the start and m+1 the end: .. 0 before all others and m+1 after all others."
-- The nodes of n elements: node 0 is the start, node i + 1 the element i, node n + 1 the end. `b` says
-- which element is before which.
abbrev pub node_before : ℕ → (ℕ → ℕ → Bool) → ℕ → ℕ → Bool
node_before n b zero zero = false
node_before n b zero (suc j) = nat_lt j (suc n)
node_before n b (suc i) zero = false
node_before n b (suc i) (suc j) = nat_lt i n && (j == n || (nat_lt j n && b i j))
