-- The numbers below n that have a property: how many there are, which is the first, whether there is one. A
-- property is a test, `ℕ → Bool`; `bit w` is one.
use Rattle.std.specs.Prelude.{◌≡◌, Bool, true, false, cond, ◌||◌, ℕ, zero, suc, ◌+◌, ◌≤◌, ◌<◌}

-- 1 for true, 0 for false
abbrev pub tally : Bool → ℕ
tally b = cond b 1 0

-- how many i below n have p i
unfoldable pub count : ℕ → (ℕ → Bool) → ℕ
count zero p = 0
count (suc n) p = tally (p 0) + count n (λ i. p (suc i))

-- the first i below n that has p i; n where none has
-- (`elim`, so that antt computes no further than the first)
unfoldable pub first : ℕ → (ℕ → Bool) → ℕ
first zero p = 0
first (suc n) p = elim (p 0) [ true ↦ 0 | false ↦ suc (first n (λ i. p (suc i))) ]

-- what that says: it is at most n, none before it has p, and it has p itself if it is below n
pub record IsFirst (n : ℕ) (p : ℕ → Bool) (r : ℕ) : Type 0 where
  pub within : r ≤ n
  pub before : (k : ℕ) → k < r → p k ≡ false
  pub found : r < n → p r ≡ true

-- whether some i below n has p i
unfoldable pub some : ℕ → (ℕ → Bool) → Bool
some zero p = false
some (suc n) p = some n p || p n
