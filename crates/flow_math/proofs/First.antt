-- A handover of m elements, seen at the first n of them.
use mathlib.Core.Path.{◌≡◌, ◌∙◌}
use mathlib.Core.Bool.{Bool}
use Prim.Native.Nat.{ℕ, ◌≤◌, ◌<◌}
use native.Mathlib.Omega.{arith}
use Rattle.words.proofs.Sums
use Rattle.flow_math.specs.Handover.{row, col, total, Handover}
use Rattle.flow_math.proofs.Rows.{row_part, col_part}

-- The first n hand over along the order too, and no more than their demands.
pub handover_first : (n m : ℕ) (b : ℕ → ℕ → Bool) (d : ℕ → ℕ) (f : ℕ → ℕ → ℕ) → n ≤ m → Handover m b d f → Handover n b d f
handover_first n m b d f l F =
    record {
      along = λ i j h k p. F.along i j (omega arith) (omega arith) p;
      rows = λ i h. omega (arith, row_part f n m i l, F.rows i (omega arith));
      cols = λ j h. omega (arith, col_part f n m j l, F.cols j (omega arith));
    }

-- a taker without a demand takes over nothing
none_taken : (m : ℕ) (b : ℕ → ℕ → Bool) (d : ℕ → ℕ) (f : ℕ → ℕ → ℕ) → Handover m b d f →
    (i j : ℕ) → i < m → j < m → d j ≡ 0 → f i j ≡ 0
unfolding col
none_taken m b d f F i j h k z = omega (arith, F.cols j k, Sums.sum_term m (λ i. f i j) i h)

-- Where the others have no demand, the first n hand over all that is handed over.
pub total_first : (n m : ℕ) (b : ℕ → ℕ → Bool) (d : ℕ → ℕ) (f : ℕ → ℕ → ℕ) → n ≤ m → ((i : ℕ) → n ≤ i → i < m → d i ≡ 0) →
    Handover m b d f → total m f ≡ total n f
unfolding total row
total_first n m b d f l z F =
    Sums.sum_extend n m (row m f) l (λ i h k. omega (arith, F.rows i k, z i h k))
    ∙ Sums.sum_cong n (row m f) (row n f)
    (λ i h. Sums.sum_extend n m (λ j. f i j) l (λ j p q. none_taken m b d f F i j (omega arith) q (z j p q)))
