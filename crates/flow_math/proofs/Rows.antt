-- What an element hands over to the elements below j, and what it takes over from those below i, as loops add it up.
use mathlib.Core.Path.{◌≡◌, sym}
use Prim.Native.Nat.{ℕ, ◌+◌, ◌≤◌, ◌<◌}
use native.Mathlib.Omega.{arith}
use Rattle.words.proofs.Sums
use Rattle.flow_math.specs.Handover.{row, col}

module _ (f : ℕ → ℕ → ℕ) where
  -- nothing yet
  pub row_none : (i : ℕ) → 0 ≡ row 0 f i
  unfolding row
  row_none i = sym (Sums.sum_zero 0 (λ j. f i j) (λ j l. absurd (omega arith)))

  pub col_none : (j : ℕ) → 0 ≡ col 0 f j
  unfolding col
  col_none j = sym (Sums.sum_zero 0 (λ i. f i j) (λ i l. absurd (omega arith)))

  -- one more
  pub row_next : (j i x : ℕ) → x ≡ row j f i → x + f i j ≡ row (j + 1) f i
  unfolding row
  row_next j i x e = omega (arith, Sums.sum_more j (λ k. f i k))

  pub col_next : (i j x : ℕ) → x ≡ col i f j → x + f i j ≡ col (i + 1) f j
  unfolding col
  col_next i j x e = omega (arith, Sums.sum_more i (λ k. f k j))

  -- a part is at most the whole, also with one more
  pub row_part : (n m i : ℕ) → n ≤ m → row n f i ≤ row m f i
  unfolding row
  row_part n m i l = Sums.sum_part n m (λ j. f i j) l

  pub col_part : (n m j : ℕ) → n ≤ m → col n f j ≤ col m f j
  unfolding col
  col_part n m j l = Sums.sum_part n m (λ i. f i j) l

  pub row_step : (j m i : ℕ) → j < m → row j f i + f i j ≤ row m f i
  unfolding row
  row_step j m i l = Sums.sum_step j m (λ k. f i k) l

  pub col_step : (i m j : ℕ) → i < m → col i f j + f i j ≤ col m f j
  unfolding col
  col_step i m j l = Sums.sum_step i m (λ k. f k j) l
