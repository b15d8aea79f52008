-- The need of a kind: what it is. How it is computed is `need_of` of Heaviest.
use Rattle.std.specs.Prelude.{◌≡◌, Bool, true, cond, ℕ, ◌≤◌, ◌<◌}
use Rattle.words.specs.Sums.{sum}

-- "a set is unrelated when no two of its members are [ordered]": the paper's antichain
abbrev pub Antichain : ℕ → (ℕ → ℕ → Bool) → (ℕ → Bool) → Type 0
Antichain n b S = (i j : ℕ) → i < n → j < n → S i ≡ true → S j ≡ true → b i j ≡ true → ⊥

-- the demand of the members of a set, added up
unfoldable pub weight : ℕ → (ℕ → ℕ) → (ℕ → Bool) → ℕ
weight n d S = sum n (λ i. cond (S i) (d i) 0)

-- "The need of a kind is the greatest sum of its demands over any unrelated set": one such set has
-- the sum x, and none has more
pub record Need (n : ℕ) (b : ℕ → ℕ → Bool) (d : ℕ → ℕ) (x : ℕ) : Type 0 where
  pub set : ℕ → Bool
  pub unrelated : Antichain n b set
  pub weighs : weight n d set ≡ x
  pub most : (S : ℕ → Bool) → Antichain n b S → weight n d S ≤ x
