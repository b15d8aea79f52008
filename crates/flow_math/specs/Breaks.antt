-- When an arc is broken, and which is the first that is: what Kept says, the other way round.
use Rattle.std.specs.Prelude.{Bool, ℕ, ◌+◌, ◌<◌, ltb}
use Rattle.flow_math.specs.Kept.{Kept}

-- BROKEN: "start of i plus its duration greater than the start of j",
-- with waits plus the wait too; and the test of it
abbrev pub Broken : (ℕ → ℕ) → (ℕ → ℕ → ℕ) → ℕ → ℕ → Type 0
Broken s w i j = s j < s i + w i j

abbrev pub is_broken : (ℕ → ℕ) → (ℕ → ℕ → ℕ) → ℕ → ℕ → Bool
is_broken s w i j = ltb (s j) (s i + w i j)

-- "the first arc i to j, by from and then to," that is broken: every arc from an earlier element is kept, and
-- so is every arc from i to an earlier one
pub record FirstBroken (A : ℕ → ℕ → Type 0) (s : ℕ → ℕ) (w : ℕ → ℕ → ℕ) (i j : ℕ) : Type 0 where
  pub there : A i j
  pub late : Broken s w i j
  pub kept : (x y : ℕ) → A x y → x < i → Kept s w x y
  pub rest : (y : ℕ) → A i y → y < j → Kept s w i y
