-- The word of a list has the members at which it is not 0, and no others; an element with units left is a
-- leader, or has none after it.
use Rattle.std.proofs.Common.{◌≡◌, ℕ, ◌<◌, ◌≤◌, List, get_or, ⊎_elim, arith}
use mathlib.Core.Logic.{by_cases}
use native.Mathlib.Decide.{dec_lt}
use Rattle.words.specs.Bits.{digit}
use Rattle.words.proofs.Tests.{same_or_not}
use Rattle.order.specs.Stored.{bound, elements, row as set_at}
use Rattle.order.proofs.Nonzero.{nonzero_lt, nonzero_bit, nonzero_past, nonzero_none}
use Rattle.order.specs.model.Places.{positive}
use Rattle.solver.specs.model.Network.{leaders}

module _ (k : ℕ) (a : List ℕ) where
  abbrev at : ℕ → ℕ
  at i = get_or a i 0

  pub positive_lt : k ≤ elements → positive k a < bound
  positive_lt h = nonzero_lt at k h

  pub positive_bit : (i : ℕ) → i < k → 0 < get_or a i 0 → digit (positive k a) i ≡ 1
  positive_bit i l p = nonzero_bit at k i l (λ z. omega arith)

  pub positive_none : (i : ℕ) → get_or a i 0 ≡ 0 → digit (positive k a) i ≡ 0
  positive_none i z = nonzero_none at k i z

  pub positive_is : (i : ℕ) → digit (positive k a) i ≡ 1 → 0 < get_or a i 0
  positive_is i e = ⊎_elim (λ z. absurd (omega (arith, positive_none i z))) (λ n. omega arith) (same_or_not (get_or a i 0) 0)

-- an element with units left leads on, or has none after it
pub leads : (k : ℕ) (rows a : List ℕ) (i : ℕ) → digit (positive k a) i ≡ 1 → digit (leaders k rows) i ≡ 0 → set_at rows i ≡ 0
leads k rows a i e z =
    ⊎_elim
    (λ n. n)
    (λ n.
    by_cases (dec_lt i k)
    (λ l. absurd (omega (arith, nonzero_bit (λ j. set_at rows j) k i l n)))
    (λ g. absurd (omega (arith, nonzero_past (λ j. get_or a j 0) k i (omega arith)))))
    (same_or_not (set_at rows i) 0)
