-- Handovers: f i j units go from the element i, as it ends, to the element j, as it starts.
use Rattle.std.specs.Prelude.{◌≡◌, Bool, true, not, ◌&&◌, ℕ, ◌≤◌, ◌<◌, ltb}
use Rattle.words.specs.Sums.{sum}

-- what i hands over, what j takes over, and all that is handed over
unfoldable pub row : ℕ → (ℕ → ℕ → ℕ) → ℕ → ℕ
row n f i = sum n (λ j. f i j)

unfoldable pub col : ℕ → (ℕ → ℕ → ℕ) → ℕ → ℕ
col n f j = sum n (λ i. f i j)

unfoldable pub total : ℕ → (ℕ → ℕ → ℕ) → ℕ
total n f = sum n (λ i. row n f i)

-- units are handed over only along the order, and no element hands over or takes over more than its demand
pub record Handover (n : ℕ) (b : ℕ → ℕ → Bool) (d : ℕ → ℕ) (f : ℕ → ℕ → ℕ) : Type 0 where
  pub along : (i j : ℕ) → i < n → j < n → 0 < f i j → b i j ≡ true
  pub rows : (i : ℕ) → i < n → row n f i ≤ d i
  pub cols : (j : ℕ) → j < n → col n f j ≤ d j

-- A search for a way to hand over more, that failed. Every element stands once on the left, as a giver, and
-- once on the right, as a taker; L and R hold what was reached there: from the givers with units left, along
-- the order to takers, and back along handovers to givers; no taker that was reached could take more.
pub record Closed (n : ℕ) (b : ℕ → ℕ → Bool) (d : ℕ → ℕ) (f : ℕ → ℕ → ℕ) (L R : ℕ → Bool) : Type 0 where
  pub begins : (i : ℕ) → i < n → row n f i < d i → L i ≡ true
  pub forth : (i j : ℕ) → i < n → j < n → L i ≡ true → b i j ≡ true → R j ≡ true
  pub back : (i j : ℕ) → i < n → j < n → R j ≡ true → 0 < f i j → L i ≡ true
  pub full : (j : ℕ) → j < n → R j ≡ true → col n f j ≡ d j

-- the set that such a search gives: reached as givers and not as takers, and with a demand
abbrev pub cut : (ℕ → ℕ) → (ℕ → Bool) → (ℕ → Bool) → ℕ → Bool
cut d L R i = (L i && not (R i)) && ltb 0 (d i)
