-- The paper's resource flow (section 2.1), of one kind: node 0 is the start,
-- node i + 1 the element i, node n + 1 the end.
use Rattle.std.specs.Prelude.{◌≡◌, Bool, true, cond, ℕ, zero, suc, ◌-◌, ◌<◌, ltb, eqb}
use Rattle.words.specs.Sums.{sum}
use Rattle.order.specs.Nodes.{node_before}
use Rattle.flow_math.specs.Handover.{row, col}

-- g u v units go from node u to node v, a units are available
pub record ResourceFlow (n : ℕ) (b : ℕ → ℕ → Bool) (d : ℕ → ℕ) (a : ℕ) (g : ℕ → ℕ → ℕ) : Type 0 where
  -- equation (1): "Into and out of each activity goes its demand"
  pub into : (j : ℕ) → j < n → sum (suc (suc n)) (λ u. g u (suc j)) ≡ d j
  pub out : (i : ℕ) → i < n → sum (suc (suc n)) (λ v. g (suc i) v) ≡ d i
  -- equation (2): "out of 0 and into m+1 goes the availability"
  pub start : sum (suc (suc n)) (λ v. g 0 v) ≡ a
  pub finish : sum (suc (suc n)) (λ u. g u (suc n)) ≡ a
  -- "Positive units pass only where i is before j in the plan order"
  pub along : (u v : ℕ) → u < suc (suc n) → v < suc (suc n) → 0 < g u v → node_before n b u v ≡ true

-- the flow that a handover f makes of a units, where x are needed: an element takes from the start what
-- nobody hands over to it, gives to the end what it hands over to nobody, and what exceeds x goes
-- straight from the start to the end
abbrev pub node_flow : ℕ → (ℕ → ℕ) → (ℕ → ℕ → ℕ) → ℕ → ℕ → ℕ → ℕ → ℕ
node_flow n d f x a zero zero = 0
node_flow n d f x a zero (suc j) = cond (ltb j n) (d j - col n f j) (cond (eqb j n) (a - x) 0)
node_flow n d f x a (suc i) zero = 0
node_flow n d f x a (suc i) (suc j) =
    cond (ltb i n) (cond (ltb j n) (f i j) (cond (eqb j n) (d i - row n f i) 0)) 0
